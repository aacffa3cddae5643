-- What loading does.
use Rattle.std.specs.Prelude.{◌≡◌, ◌⊎◌, ◌==◌, ◌||◌, ◌++◌, ℕ, Bool, false, if◌then◌else◌, List, [], ◌∷◌, length, replicate, Option, None, Some, Result, Ok, Err, IfOk, OnOk, IsOkAnd}
use Rattle.ls_formats.specs.declared.side.Side.{Side}
use Rattle.ls_formats.specs.declared.side.Side.TheVariants.{First, Second}
use Rattle.ls_formats.specs.PartNames.{settings_text}
use Rattle.ls_record.specs.Rows.{Rec}
use Rattle.ls_naming.specs.Current.{current, settings_of, is_open}
use Rattle.ls_board.specs.declared.action.Action.{Action}
use Rattle.ls_board.specs.declared.action.Action.TheVariants.{Make}
use Rattle.ls_board.specs.declared.action.BoardFault.{BoardFault}
use Rattle.ls_board.specs.declared.world.World.{World}
use Rattle.ls_board.specs.Acts.{Sight}
use Rattle.ls_board.specs.Effect.{file_at}
use Rattle.ls_board.specs.Images.{Leaves}
use Rattle.ls_board.specs.Reach.{SameBut, LeavesBut, AllTouchOnly}
use Rattle.ls_board.specs.Runs.{LeavesOnly, PlanImage, after_all, AllSound, AllApply}
use Rattle.ls_settings.specs.declared.files.Pair.{Pair}
use Rattle.ls_settings.specs.declared.fault.OpenRefusal.{OpenRefusal}
use Rattle.ls_settings.specs.declared.fault.OpenRefusal.TheVariants.{Foreign, Fault, Memory}
use Rattle.ls_settings.specs.Loaded.{Loaded, AreOf, MakesNone, AreUntouched, settings_reach, target_of, is_side}
use Rattle.ls_settings.specs.FileReading.{file_of}
use Rattle.ls_settings.specs.Commits.{synced}

-- ---- the files that are made

abbrev pub is_whole : Option (List ℕ) → Bool
is_whole None = false
is_whole (Some bytes) = length bytes == 4096

-- a settings file that isn't current and hasn't 4,096 bytes is made of that many zeros
abbrev pub stays : Option Side → Side → Option (List ℕ) → Bool
stays current side file = is_side current side || is_whole file

abbrev pub made_file : Option Side → Side → Option (List ℕ) → Option (List ℕ)
made_file current side file = if stays current side file then file else Some (replicate 4096 0)

abbrev pub make_of : Option Side → Side → Option (List ℕ) → List Action
make_of current side file =
    if stays current side file then [] else Make (settings_text side) 4096 ∷ []

abbrev pub makes_of : Option Side → Option (List ℕ) → Option (List ℕ) → List Action
makes_of current first second =
    synced (make_of current First first) ++ synced (make_of current Second second)

-- ---- what is read

-- both files were read, and nothing changed
pub record ReadsFiles (old : Sight) (result : Result Pair BoardFault) (new : Sight) : Type 0 where
  pub first : IfOk result (λ files. files.first ≡ file_at old.world (settings_text First))
  pub second : IfOk result (λ files. files.second ≡ file_at old.world (settings_text Second))
  pub same : new.world ≡ old.world
  pub crash : LeavesOnly old new (Leaves old.world)

-- one file was read, and nothing changed
pub record ReadsFile (old : Sight) (name : List ℕ) (result : Result (Option (List ℕ)) BoardFault)
    (new : Sight) : Type 0 where
  pub file : IfOk result (λ file. file ≡ file_at old.world name)
  pub same : new.world ≡ old.world
  pub crash : LeavesOnly old new (Leaves old.world)

-- the settings of two files, once those are made that have to be
pub record IsFound (first second : Option (List ℕ)) (s : Loaded) : Type 0 where
  pub settled : settings_of first second ≡ Ok s.settled
  pub target :
      let side = target_of s.settled.side in
      s.target_open ≡ is_open (made_file s.settled.side side (file_of side first second))

-- a plan on the settings files was run, or failed within it
pub record RunsPlan (old : Sight) (plan : List Action) {T E : Type 0} (result : Result T E)
    (new : Sight) : Type 0 where
  pub done : OnOk result (new.world ≡ after_all old.world plan)
  pub but : SameBut settings_reach old.world new.world
  pub crash : LeavesOnly old new (PlanImage old.world plan)

-- a plan on the settings files, whose conditions hold on every board
pub record IsMakePlan (plan : List Action) : Type 0 where
  pub sound : (slots : ℕ) → AllSound slots plan
  pub applies : (w : World) → AllApply w plan
  pub only : AllTouchOnly settings_reach plan

-- ---- what is loaded

-- The settings are those of the files before and after. Each settings file was made that had to be,
-- and is touched only where it was before.
pub record AreLoaded (old : World) (s : Loaded) (new : World) : Type 0 where
  pub found : current (file_at old) ≡ Ok s.settled
  pub files : (side : Side) →
      let name = settings_text side in
      file_at new name ≡ made_file s.settled.side side (file_at old name)
  pub are : AreOf (file_at new) s
  pub whole : MakesNone (file_at new) s.settled.side
  pub untouched : AreUntouched old → AreUntouched new
  pub same : MakesNone (file_at old) s.settled.side → new ≡ old

-- as it was, or not open
abbrev pub IsSameOrShut : Option (List ℕ) → Option (List ℕ) → Type 0
IsSameOrShut old new = (new ≡ old) ⊎ (is_open new ≡ false)

-- What is current stays so, each settings file is as it was or isn't open, and all but the settings
-- files stays.
pub record IsLoadImage (w image : World) : Type 0 where
  pub settled : current (file_at image) ≡ current (file_at w)
  pub each : (side : Side)
      → IsSameOrShut (file_at w (settings_text side)) (file_at image (settings_text side))
  pub rest : LeavesBut settings_reach w image

-- the files that had to be made were made
pub record MakesFiles (old : Sight) (s : Loaded) {T E : Type 0} (result : Result T E)
    (new : Sight) : Type 0 where
  pub made : OnOk result (AreLoaded old.world s new.world)
  pub but : SameBut settings_reach old.world new.world
  pub crash : AreUntouched old.world → LeavesOnly old new (IsLoadImage old.world)

-- another refusal than that of a fault in a file
abbrev pub IsNotForeign : OpenRefusal → Type 0
IsNotForeign (Foreign name at) = ⊥
IsNotForeign (Fault part) = Unit {0}
IsNotForeign Memory = Unit {0}

-- the current file is at fault, at this place
abbrev pub IsForeign : World → List ℕ → ℕ → Type 0
IsForeign w name at = current (file_at w) ≡ Err (record { name = name; at = at })

-- loading, where the world is told
pub record Loads (old : Sight) (result : Result Loaded OpenRefusal) (new : Sight) : Type 0 where
  pub loaded : IfOk result (λ s. AreLoaded old.world s new.world)
  pub foreign : (name : List ℕ) (at : ℕ) → result ≡ Err (Foreign name at)
      → IsForeign old.world name at × (new.world ≡ old.world)
  pub but : SameBut settings_reach old.world new.world
  pub crash : AreUntouched old.world → LeavesOnly old new (IsLoadImage old.world)

-- a look at the record, where the world is told: nothing changes
pub record Looks (old : Sight) (result : Result Rec OpenRefusal) (new : Sight) : Type 0 where
  pub found : IfOk result (λ r. IsOkAnd (current (file_at old.world)) (λ s. s.rec ≡ r))
  pub foreign : (name : List ℕ) (at : ℕ) → result ≡ Err (Foreign name at)
      → IsForeign old.world name at
  pub same : new.world ≡ old.world
  pub crash : LeavesOnly old new (Leaves old.world)
