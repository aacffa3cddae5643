-- What opening the service on a board does.
use Rattle.std.specs.Prelude.{◌≡◌, ◌⊎◌, ◌++◌, ◌∷◌, ℕ, IsTrue, List, [], Option, Some, Result, Ok, Err, IfOk, OnOk}
use Rattle.ls_board.specs.declared.action.Action.{Action}
use Rattle.ls_board.specs.declared.action.Action.TheVariants.{Sync}
use Rattle.ls_board.specs.declared.action.BoardFault.{BoardFault}
use Rattle.ls_board.specs.declared.action.BoardFault.TheVariants.{Failed}
use Rattle.ls_board.specs.declared.world.World.{World}
use Rattle.ls_board.specs.Acts.{Sight}
use Rattle.ls_board.specs.Effect.{file_at, after}
use Rattle.ls_board.specs.Images.{Leaves}
use Rattle.ls_board.specs.Reach.{SameBut}
use Rattle.ls_board.specs.Rest.{SameRest}
use Rattle.ls_board.specs.Runs.{AllImages, LeavesOnly}
use Rattle.ls_board.specs.Keeping.{Keeps}
use Rattle.ls_naming.specs.Current.{Settled, Foreign, current}
use Rattle.ls_serving.specs.Calls.{Calls, IsSilent}
use Rattle.ls_serving.specs.Settled.{LeavesOnlySettled}
use Rattle.ls_settings.specs.declared.fault.OpenRefusal.{OpenRefusal}
use Rattle.ls_settings.specs.declared.fault.OpenRefusal.TheVariants.{Foreign as IsForeign, Fault}
use Rattle.ls_settings.specs.Loaded.{Loaded, settings_reach}
use Rattle.ls_settings.specs.Loading.{AreLoaded, IsLoadImage}
use Rattle.ls_standing.specs.Bare.{IsBare}
use Rattle.ls_standing.specs.Opening.{first_foreign}
use Rattle.ls_standing.specs.Standing.{StandsBy, StandsDurably}
use Rattle.ls_vault.specs.declared.vault.Vault.{Vault}
use Rattle.ls_turn.specs.declared.session.Session.{Session}
use Rattle.ls_turn.specs.Agreeing.{Agrees}
use Rattle.ls_turn.specs.Fresh.{IsFresh, opened_state}
use Rattle.ls_turn.specs.Serving.{CanServe}

-- ---- the beginning

-- A sync, before anything else. Where it is done no file is touched.
pub record SyncsFirst {T : Type 0} (old : Sight) (result : Result T BoardFault) (new : Sight) : Type 0 where
  pub keeps : Keeps {T = T} {E = BoardFault} Failed old new result
  pub called : IsTrue old.told → Calls old Sync new
  pub done : IsTrue old.told → OnOk result
      ((new.past ≡ (old.world, Some Sync) ∷ old.past) × (new.world ≡ after old.world Sync 0))

-- the world behind the sync
abbrev pub synced_world : World → World
synced_world w = after w Sync 0

-- The board is synced, and its settings are loaded. Nothing but settings files is another then, and a
-- crash behind the sync leaves an image of the loading.
pub record Begins (old : Sight) (result : Result Loaded OpenRefusal) (new : Sight) : Type 0 where
  pub keeps : Keeps {T = Loaded} {E = OpenRefusal} Fault old new result
  pub but : IsTrue old.told → SameBut settings_reach old.world new.world
  pub loaded : IsTrue old.told → IfOk result (λ l. AreLoaded (synced_world old.world) l new.world
      × SameBut settings_reach (synced_world old.world) new.world)
  pub foreign : IsTrue old.told → (name : List ℕ) (at : ℕ) → result ≡ Err (IsForeign name at)
      → current (file_at old.world) ≡ Err (record { name = name; at = at })
  pub settled : IsTrue old.told → LeavesOnlySettled old new (IsLoadImage (synced_world old.world))
  -- where no file was touched before it, also a crash within the sync
  pub whole : IsTrue old.told → old.world.touched ≡ [] → LeavesOnly old new (IsLoadImage (synced_world old.world))
  -- behind the sync there are calls, or no file is touched
  pub begun : IsTrue old.told → OnOk result ((calls : List (World × Option Action))
      × (new.past ≡ calls ++ (old.world, Some Sync) ∷ old.past)
      × AllImages (IsLoadImage (synced_world old.world)) calls
      × ((image : World) → Leaves new.world image → IsLoadImage (synced_world old.world) image))

-- ---- what is at fault

-- the first file at fault of a world: that of the settings, or else the first of those that they name
abbrev pub IsFirstFault : World → Foreign → Type 0
IsFirstFault w f =
    (current (file_at w) ≡ Err f)
    ⊎ ((s : Settled) × (current (file_at w) ≡ Ok s) × (first_foreign w s.rec ≡ Some f))

-- ---- opening

-- The image stands for the vault by these settings, and nothing was said or heard.
pub record IsStillBy (w : World) (s : Settled) (v : Vault) (image : World) : Type 0 where
  pub silent : IsSilent w image
  pub stands : StandsDurably image s v

-- a sync was called first of all
abbrev pub BeginsWithSync : Sight → Sight → Type 0
BeginsWithSync old new = (calls : List (World × Option Action)) × (new.past ≡ calls ++ (old.world, Some Sync) ∷ old.past)

-- What opening does, on any board.
pub record Opens (old : Sight) (boot : ℕ) (result : Result Session OpenRefusal) (new : Sight) : Type 0 where
  -- A fault comes only where a count rose, and no other answer where one grew.
  pub keeps : Keeps {T = Session} {E = OpenRefusal} Fault old new result
  pub fresh : IfOk result (IsFresh boot old.slots)
  pub can : IfOk result (CanServe new)
  -- Nothing is said, heard or drawn, and no moment is taken.
  pub rest : IsTrue old.told → SameRest old.world new.world
  pub begun : IsTrue old.told → OnOk result (BeginsWithSync old new)
  -- The first file at fault is named, and it is refused only for that.
  pub foreign : IsTrue old.told → (name : List ℕ) (at : ℕ) → result ≡ Err (IsForeign name at)
      → IsFirstFault old.world (record { name = name; at = at })
  pub sound : IsTrue old.told → (f : Foreign) → IsFirstFault old.world f → (x : Session) → result ≡ Ok x → ⊥
  -- Where the world stands for a vault, the session agrees with the vault, the books of the world, and
  -- an empty session.
  pub agrees : IsTrue old.told → (s : Settled) (v : Vault) → StandsBy old.world s v
      → IfOk result (λ x. Agrees new.world x (opened_state old.world s boot v))
  -- Nothing is left that the record doesn't name, whatever the world stands for.
  pub bare : IsTrue old.told → IfOk result (λ x. IsBare old.world new.world x.settings.settled.rec [])
  -- From the sync on a crash leaves the vault, and nothing was said or heard. Before it there is no call.
  pub crash : IsTrue old.told → (s : Settled) (v : Vault) → StandsBy old.world s v
      → LeavesOnlySettled old new (IsStillBy old.world s v)
  -- Where no file was touched before, so does a crash at any moment.
  pub left : IsTrue old.told → old.world.touched ≡ [] → (s : Settled) (v : Vault) → StandsBy old.world s v
      → LeavesOnly old new (IsStillBy old.world s v)
