-- What a run of a script leaves, and in which order it calls the board.
use Rattle.std.specs.Prelude.{◌≡◌, ◌≤◌, ◌+◌, ◌⊎◌, ◌∷◌, ◌++◌, ℕ, [], List, Option, Some, None, MatchOption, IsSomeAnd}
use Rattle.std.specs.List.{AllByRecursion}
use Rattle.ls_board.specs.declared.action.Action.{Action}
use Rattle.ls_board.specs.declared.action.Action.TheVariants.{Put, Sync, Hear, Say}
use Rattle.ls_board.specs.declared.world.World.{World}
use Rattle.ls_board.specs.Acts.{Sight}
use Rattle.ls_board.specs.Effect.{file_at}
use Rattle.ls_top.specs.declared.status.Status.{Status}
use Rattle.ls_top.specs.declared.status.Status.TheVariants.{Fault, Memory}
use Rattle.ls_lines.specs.Lines.{parted, lines_of}
use Rattle.ls_top.specs.Script.{served, replies, users_after, told, after, acknowledged}
use Rattle.ls_top.specs.UsersFile.{settings_0, file_of, IsForeign}
use Rattle.ls_top.specs.Vault.{IsVault}

-- ---- the files

-- The world stands for these users: `settings.0` is their file, or is absent and there are none.
pub record StandsFor (w : World) (users : List ℕ) : Type 0 where
  pub vault : IsVault users
  pub file : MatchOption (file_at w settings_0) (users ≡ []) (λ bytes. bytes ≡ file_of users)

-- `settings.0` is there, and is no file of any users
abbrev pub HasForeignFile : World → Type 0
HasForeignFile w = IsSomeAnd (file_at w settings_0) IsForeign

-- the same world, but for what counts as touched
pub record SameButTouched (old new : World) : Type 0 where
  pub same : new ≡ record old { touched = new.touched }

-- ---- statuses

-- a fault ended the run
abbrev pub IsFault : Status → Type 0
IsFault (Fault part) = Unit {0}
IsFault _ = ⊥

-- a fault or want of memory ended the run
abbrev pub IsCutShort : Status → Type 0
IsCutShort (Fault part) = Unit {0}
IsCutShort Memory = Unit {0}
IsCutShort _ = ⊥

-- this status comes, unless a fault or want of memory ended the run before
abbrev pub Gives : Status → Status → Type 0
Gives expected status = (status ≡ expected) ⊎ IsCutShort status

-- ---- what a run leaves

-- What was said is the bytes of the start, and then a front of the replies to its script.
pub record SaysFront (start end : World) (users : List ℕ) : Type 0 where
  pub said : List ℕ
  pub more : List ℕ
  pub is : end.said ≡ start.said ++ said
  pub front : replies users (lines_of start.input) ≡ said ++ more

-- Besides, the files stand for the users after some commands of the script: all that were answered
-- in what was said, and at most one more.
pub record HoldsFront (start end : World) (users : List ℕ) : Type 0 where
  pub said : List ℕ
  pub is : end.said ≡ start.said ++ said
  pub done : ℕ
  pub enough : acknowledged users (lines_of start.input) said ≤ done
  pub few : done ≤ acknowledged users (lines_of start.input) said + 1
  pub stands : StandsFor end (after users (told users (lines_of start.input)) done)

-- These lines were served, and no others: the files stand for the users after them.
pub record IsServed (start end : World) (users : List ℕ) (lines : List (List ℕ)) : Type 0 where
  pub said : end.said ≡ start.said ++ replies users lines
  pub stands : StandsFor end (users_after users lines)

-- ---- the calls of a run

-- A hearing asks 1 to 4,096 bytes, when each line that is complete in what was heard so far is answered.
pub record HearsInTurn (start : World) (users : List ℕ) (met : World) (max : ℕ) : Type 0 where
  pub some : 1 ≤ max
  pub most : max ≤ 4096
  pub heard : List ℕ
  pub input : start.input ≡ heard ++ met.input
  pub answered : met.said ≡ start.said ++ replies users (parted heard).whole

-- Of a script's lines these were answered, and this one comes next.
pub record IsNext (start : World) (users : List ℕ) (met : World) (before : List (List ℕ)) (line : List ℕ) : Type 0 where
  pub more : List (List ℕ)
  pub lines : lines_of start.input ≡ before ++ line ∷ more
  pub answered : met.said ≡ start.said ++ replies users before

-- A put writes the users after the next line, where the files stand for those before it.
pub record PutsInTurn (start : World) (users : List ℕ) (met : World) (name bytes : List ℕ) : Type 0 where
  pub before : List (List ℕ)
  pub line : List ℕ
  pub next : IsNext start users met before line
  pub named : name ≡ settings_0
  pub file : bytes ≡ file_of (served (users_after users before) line).users
  pub stands : StandsFor met (users_after users before)

-- One reply is said whole, that of the next line, and its users are on the disk then.
pub record SaysInTurn (start : World) (users : List ℕ) (met : World) (bytes : List ℕ) : Type 0 where
  pub before : List (List ℕ)
  pub line : List ℕ
  pub next : IsNext start users met before line
  pub reply : bytes ≡ (served (users_after users before) line).printed
  pub synced : met.touched ≡ []
  pub stands : StandsFor met (served (users_after users before) line).users

-- A call of a run that was begun on a world which stood for these users, with the world that it
-- met. No other action that changes anything is done.
abbrev pub IsInTurn : World → List ℕ → World × Option Action → Type 0
IsInTurn start users (met, None) = Unit {0}
IsInTurn start users (met, Some (Put name bytes)) = PutsInTurn start users met name bytes
IsInTurn start users (met, Some Sync) = Unit {0}
IsInTurn start users (met, Some (Hear max)) = HearsInTurn start users met max
IsInTurn start users (met, Some (Say bytes)) = SaysInTurn start users met bytes
IsInTurn start users (met, Some _) = ⊥

-- all calls since the start are in turn
pub record CallsInTurn (start now : Sight) (users : List ℕ) : Type 0 where
  pub calls : List (World × Option Action)
  pub since : now.past ≡ calls ++ start.past
  pub each : AllByRecursion (IsInTurn start.world users) calls

-- the newest call was a put
abbrev pub EndsWithPut : List (World × Option Action) → Type 0
EndsWithPut [] = ⊥
EndsWithPut ((met, None) ∷ past) = ⊥
EndsWithPut ((met, Some (Put name bytes)) ∷ past) = Unit {0}
EndsWithPut ((met, Some _) ∷ past) = ⊥
