-- What is left over on a board, and what its sweep leaves.
use Rattle.std.specs.Prelude.{◌≡◌, ◌⊎◌, ◌↔◌, ℕ, IsTrue, List, [], map, length, None, Result, Err, OnOk}
use Rattle.ls_record.specs.Rows.{Rec}
use Rattle.ls_naming.specs.Current.{Settled}
use Rattle.ls_naming.specs.Named.{NamesKey, NamesEnrolled}
use Rattle.ls_board.specs.declared.action.Action.{Action}
use Rattle.ls_board.specs.declared.action.BoardFault.{BoardFault}
use Rattle.ls_board.specs.declared.action.BoardFault.TheVariants.{Failed, Memory}
use Rattle.ls_board.specs.declared.world.World.{World}
use Rattle.ls_board.specs.Acts.{Sight}
use Rattle.ls_board.specs.Effect.{file_at}
use Rattle.ls_board.specs.Images.{Leaves}
use Rattle.ls_board.specs.Keeping.{Keeps}
use Rattle.ls_board.specs.Reach.{SameBut, LeavesBut}
use Rattle.ls_board.specs.Rest.{SameRest}
use Rattle.ls_board.specs.Runs.{after_all, LeavesOnly, PlanImage}
use Rattle.ls_settings.specs.Loaded.{Loaded, IsReady}
use Rattle.ls_vault.specs.declared.vault.Vault.{Vault}
use Rattle.ls_sealing.specs.Protectors.{has_weaver}
use Rattle.ls_standing.specs.Bare.{IsBare, IsStrange}
use Rattle.ls_standing.specs.Books.{books}
use Rattle.ls_standing.specs.Clearing.{sweeping}
use Rattle.ls_standing.specs.Quiet.{unnamed}
use Rattle.ls_standing.specs.Standing.{StandsDurably}
use Rattle.ls_sweep.specs.declared.leftovers.Leftovers.{Leftovers}
use Rattle.ls_sweep.specs.Files.{IsUnnamedFile}
use Rattle.ls_sweep.specs.NamedSlots.{slots_named}
use Rattle.ls_sweep.specs.Sifted.{AreThose, AreUnusedBelow}

-- ---- what is left over

-- the files of users and protectors that are there and that the record doesn't name
abbrev pub AreLeftFiles : World → Rec → List (List ℕ) → Type 0
AreLeftFiles w r names =
    AreThose (IsUnnamedFile (has_weaver w) r []) (map (λ file. file.0) w.files) names

-- the Gatekeeper records that are there and that the record doesn't name
abbrev pub AreLeftEnrolled : World → Rec → List ℕ → Type 0
AreLeftEnrolled w r ids =
    AreThose (λ id. ¬ NamesEnrolled (has_weaver w) r id) (map (λ row. row.0) w.gk) ids

-- the keys that are there and that the record doesn't name
abbrev pub AreLeftKeys : World → Rec → List ℕ → Type 0
AreLeftKeys w r aliases =
    AreThose (λ alias. ¬ NamesKey r alias) (map (λ row. row.0) w.keys) aliases

-- These are all that is left over: files, Gatekeeper records and keys that the record doesn't name,
-- the slots of the board that aren't used, and the cell where no arming is named.
pub record AreLeftOver (w : World) (r : Rec) (used : List ℕ) (left : Leftovers) : Type 0 where
  pub files : AreLeftFiles w r left.files
  pub slots : AreUnusedBelow (length w.slots) used left.slots
  pub enrolled : AreLeftEnrolled w r left.enrolled
  pub keys : AreLeftKeys w r left.keys
  pub cell : IsTrue left.cell ↔ (r.armed ≡ None)

-- ---- its sweep

-- the actions that take this away
abbrev pub sweep_of : Leftovers → List Action
sweep_of left = sweeping left.files left.slots left.enrolled left.keys left.cell

-- these actions take away all that is left over beside what the record names
pub record IsSweepOf (w : World) (r : Rec) (actions : List Action) : Type 0 where
  pub left : Leftovers
  pub all : AreLeftOver w r (slots_named w r) left
  pub is : actions ≡ sweep_of left

-- the world once all that was left over is taken away, and nothing else was done
pub record IsSwept (w : World) (r : Rec) (new : World) : Type 0 where
  pub actions : List Action
  pub sweep : IsSweepOf w r actions
  pub is : new ≡ after_all w actions

-- An image of the world as it stood, or of a sweep of all that is left over: after some of its
-- actions, or within the next one.
abbrev pub IsSweepImage : World → Rec → World → Type 0
IsSweepImage w r image =
    Leaves w image
    ⊎ ((actions : List Action) × IsSweepOf w r actions × PlanImage w actions image)

-- ---- over a board

-- What is seen of a sweep over a board of all that is left over beside what a record names.
pub record Sweeps {T : Type 0} (old : Sight) (r : Rec) (result : Result T BoardFault)
    (new : Sight) : Type 0 where
  -- a fault comes only where a count rose
  pub keeps : Keeps {T = T} {E = BoardFault} Failed old new result
  -- where there was no memory nothing is changed
  pub lacking : IsTrue old.told → result ≡ Err Memory → new.world ≡ old.world
  -- it ends well only where all that was left over is taken away
  pub swept : IsTrue old.told → OnOk result (IsSwept old.world r new.world)
  -- the world keeps nothing beside the record then: what isn't the service's is as it was, and so
  -- as in each start that had the same
  pub bare : IsTrue old.told → (start : World)
      → ((n : List ℕ) → IsStrange n → file_at old.world n ≡ file_at start n)
      → OnOk result (IsBare start new.world r [])
  -- a crash leaves an image after some of the sweep's actions, or within the next one
  pub cut : IsTrue old.told → LeavesOnly old new (IsSweepImage old.world r)
  -- Whatever it answers, all that the record names stays, and so do the settings. In each image that
  -- a crash leaves they are those of a world in which they stayed.
  pub named : IsTrue old.told → SameBut (unnamed old.world r) old.world new.world
  pub images : IsTrue old.told
      → LeavesOnly old new (LeavesBut (unnamed old.world r) old.world)
  -- nothing was said, heard or drawn, no moment was taken, and there are as many slots
  pub rest : IsTrue old.told → SameRest old.world new.world
  -- a commit may begin with the settings with which it might before
  pub ready : IsTrue old.told → (l : Loaded) → IsReady old.world l → IsReady new.world l
  -- the books of settings with this record are the same
  pub books : IsTrue old.told → (s : Settled) → s.rec ≡ r
      → books new.world s ≡ books old.world s
  -- The world stands for each vault for which it stood by settings with this record, and so does
  -- each image that a crash leaves.
  pub stands : IsTrue old.told → (s : Settled) (v : Vault) → s.rec ≡ r
      → StandsDurably old.world s v → StandsDurably new.world s v
  pub crash : IsTrue old.told → (s : Settled) (v : Vault) → s.rec ≡ r
      → StandsDurably old.world s v → LeavesOnly old new (λ image. StandsDurably image s v)
