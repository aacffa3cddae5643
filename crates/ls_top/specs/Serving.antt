-- What the serving of a script keeps, function by function.
use Rattle.std.specs.Prelude.{◌≡◌, ◌≢◌, ◌⊎◌, ◌∷◌, ◌++◌, ◌≤◌, ◌+◌, ℕ, [], List, take, length, Result, OnOk, Some}
use Rattle.ls_board.specs.declared.action.Action.{Action}
use Rattle.ls_board.specs.declared.action.Action.TheVariants.{Put, Sync, Hear, Say}
use Rattle.ls_board.specs.declared.action.BoardFault.{BoardFault}
use Rattle.ls_board.specs.declared.action.BoardFault.TheVariants.{Failed}
use Rattle.ls_board.specs.declared.action.Part.TheVariants.{Files}
use Rattle.ls_board.specs.declared.world.World.{World}
use Rattle.ls_board.specs.Acts.{Sight}
use Rattle.ls_board.specs.Effect.{file_at, weight_of}
use Rattle.ls_top.specs.Runs.{StandsFor, SaysFront, HoldsFront, CallsInTurn, EndsWithPut}
use Rattle.ls_lines.specs.Lines.{parted, lines_of}
use Rattle.ls_top.specs.Script.{served, replies, users_after}
use Rattle.ls_top.specs.UsersFile.{settings_0}

-- no other file than `settings.0` was changed
abbrev pub KeepsOthers : World → World → Type 0
KeepsOthers old new = (name : List ℕ) → name ≢ settings_0 → file_at new name ≡ file_at old name

-- ---- lines

-- These lines of the script were answered, in a run that was begun at this start on the users `first`.
pub record Serving (start now : Sight) (first : List ℕ) (lines : List (List ℕ)) (users : List ℕ) : Type 0 where
  pub more : List (List ℕ)
  pub front : lines_of start.world.input ≡ lines ++ more
  pub said : now.world.said ≡ start.world.said ++ replies first lines
  pub reached : users ≡ users_after first lines
  pub stands : StandsFor now.world users
  pub synced : now.world.touched ≡ []
  pub others : KeepsOthers start.world now.world
  pub calls : CallsInTurn start now first

-- Besides, this line comes next, and its change is on the disk: its reply may be said.
pub record Settled (start now : Sight) (first : List ℕ) (lines : List (List ℕ)) (line users : List ℕ) : Type 0 where
  pub more : List (List ℕ)
  pub front : lines_of start.world.input ≡ lines ++ line ∷ more
  pub said : now.world.said ≡ start.world.said ++ replies first lines
  pub reached : users ≡ (served (users_after first lines) line).users
  pub stands : StandsFor now.world users
  pub synced : now.world.touched ≡ []
  pub others : KeepsOthers start.world now.world
  pub calls : CallsInTurn start now first

-- A fault or want of memory cut the run short. Only where the put of the changed file failed may the
-- files stand for nothing.
pub record CutShort (start now : Sight) (first : List ℕ) (fault : BoardFault) : Type 0 where
  pub said : SaysFront start.world now.world first
  pub held : ((fault ≡ Failed Files) × EndsWithPut now.past) ⊎ HoldsFront start.world now.world first
  pub others : KeepsOthers start.world now.world
  pub calls : CallsInTurn start now first

-- of the script's lines, this one stands behind those
abbrev pub ComesNext : Sight → List (List ℕ) → List ℕ → Type 0
ComesNext start lines line = (more : List (List ℕ)) × (lines_of start.world.input ≡ lines ++ line ∷ more)

-- ---- bytes

-- These bytes of the script were heard, and each line that is complete in them is answered; what is
-- kept of the next line is its first 4,097 bytes.
pub record Progress (start now : Sight) (first heard users line : List ℕ) : Type 0 where
  pub rest : List ℕ
  pub input : start.world.input ≡ heard ++ rest
  pub serving : Serving start now first (parted heard).whole users
  pub kept : line ≡ take 4097 (parted heard).rest

-- a hearing of at most so many bytes
pub record Hears (old : Sight) (max : ℕ) {T : Type 0} (result : Result T BoardFault) (piece : List ℕ) (new : Sight) : Type 0 where
  pub same : new.world ≡ record old.world { input = new.world.input }
  pub called : (new.past ≡ old.past) ⊎ (new.past ≡ (old.world, Some (Hear max)) ∷ old.past)
  pub heard : OnOk result ((old.world.input ≡ piece ++ new.world.input) × (piece ≡ [] → old.world.input ≡ []))

-- ---- room

-- room for a put, a sync and a saying, in this order
pub record CanPutAndSay (s : Sight) (put sync say : Action) : Type 0 where
  pub actions : 3 ≤ s.actions
  pub bytes : weight_of put + weight_of say ≤ s.bytes
  pub is_put : (name : List ℕ) × (bytes : List ℕ) × (put ≡ Put name bytes)
  pub is_sync : sync ≡ Sync
  pub is_say : (text : List ℕ) × (say ≡ Say text) × (length text ≤ 16384)
