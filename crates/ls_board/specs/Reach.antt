-- What an action may reach, and what is left alone beside it.
use Rattle.std.specs.Prelude.{◌≡◌, ◌⊎◌, ℕ, List, [], ◌∷◌, length, None}
use Rattle.ls_board.specs.declared.action.Action.{Action}
use Rattle.ls_board.specs.declared.action.Action.TheVariants.{List as ListNames, Read, Make, Put, Poke, Remove, Sync, WeaverWrite, WeaverRead, GkSign, GkEnroll, GkVerify, GkForget, GkList, KeyPut, KeyOpen, KeyDrop, KeyList, ResumeStore, ResumeTake, Hear, Say, Now, Draw}
use Rattle.ls_board.specs.declared.world.World.{World}
use Rattle.ls_board.specs.Effect.{file_at, touch_at, slot_at}
use Rattle.ls_board.specs.Gatekeeper.{sid_of, record_at}
use Rattle.ls_board.specs.Images.{Leaves}
use Rattle.ls_board.specs.Keys.{key_at}

-- some files, slots, Gatekeeper ids and key aliases, and the cell or not
pub record Reach : Type 1 where
  pub files : List ℕ → Type 0
  pub slots : ℕ → Type 0
  pub sids : ℕ → Type 0
  pub aliases : ℕ → Type 0
  pub cell : Type 0

-- The action changes nothing but what is reached. It says, hears and draws nothing.
abbrev pub TouchesOnly : Reach → Action → Type 0
TouchesOnly reach ListNames = Unit {0}
TouchesOnly reach (Read n) = Unit {0}
TouchesOnly reach (Make n len) = reach.files n
TouchesOnly reach (Put n bytes) = reach.files n
TouchesOnly reach (Poke n at bytes) = reach.files n
TouchesOnly reach (Remove n) = reach.files n
TouchesOnly reach Sync = Unit {0}
TouchesOnly reach (WeaverWrite slot key value) = reach.slots slot
TouchesOnly reach (WeaverRead slot key moment) = reach.slots slot
TouchesOnly reach (GkSign sid salt password) = Unit {0}
TouchesOnly reach (GkEnroll sid) = reach.sids sid
TouchesOnly reach (GkVerify handle password moment) = reach.sids (sid_of handle)
TouchesOnly reach (GkForget sid) = reach.sids sid
TouchesOnly reach GkList = Unit {0}
TouchesOnly reach (KeyPut alias key) = reach.aliases alias
TouchesOnly reach (KeyOpen alias bytes) = Unit {0}
TouchesOnly reach (KeyDrop alias) = reach.aliases alias
TouchesOnly reach KeyList = Unit {0}
TouchesOnly reach (ResumeStore key) = reach.cell
TouchesOnly reach ResumeTake = reach.cell
TouchesOnly reach (Hear max) = ⊥
TouchesOnly reach (Say bytes) = ⊥
TouchesOnly reach Now = ⊥
TouchesOnly reach (Draw len) = ⊥

-- and so does each of these
abbrev pub AllTouchOnly : Reach → List Action → Type 0
AllTouchOnly reach [] = Unit {0}
AllTouchOnly reach (a ∷ actions) = TouchesOnly reach a × AllTouchOnly reach actions

-- The same world, but for what is reached. Another file may be no longer touched.
pub record SameBut (reach : Reach) (old new : World) : Type 0 where
  pub rest : new ≡ record old {
    files = new.files;
    touched = new.touched;
    slots = new.slots;
    gk = new.gk;
    keys = new.keys;
    cell = new.cell;
  }
  pub file : (n : List ℕ) → ¬ (reach.files n) → file_at new n ≡ file_at old n
  pub touch : (n : List ℕ) → ¬ (reach.files n)
      → (touch_at new n ≡ touch_at old n) ⊎ (touch_at new n ≡ None)
  pub count : length new.slots ≡ length old.slots
  pub slot : (slot : ℕ) → ¬ (reach.slots slot) → slot_at new slot ≡ slot_at old slot
  pub counter : (sid : ℕ) → ¬ (reach.sids sid) → record_at new.gk sid ≡ record_at old.gk sid
  pub key : (alias : ℕ) → ¬ (reach.aliases alias) → key_at new.keys alias ≡ key_at old.keys alias
  pub cell : ¬ reach.cell → new.cell ≡ old.cell

-- an image of a world that is the same but for what is reached
abbrev pub LeavesBut : Reach → World → World → Type 0
LeavesBut reach w image = (v : World) × SameBut reach w v × Leaves v image
