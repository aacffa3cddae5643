-- What contracts see of a board, and what one call of `act` does to it.
use Rattle.std.specs.Prelude.{◌≡◌, ◌≢◌, ◌≤◌, ◌+◌, ◌-◌, ◌^◌, ℕ, Bool, IsTrue, min, List, [], ◌∷◌, length, Option, Result, IfOk, OnOk, Ok, Err}
use Rattle.ls_board.specs.declared.action.Action.{Action}
use Rattle.ls_board.specs.declared.action.Answer.{Answer}
use Rattle.ls_board.specs.declared.action.Answer.TheVariants.{Bytes}
use Rattle.ls_board.specs.declared.action.Part.{Part}
use Rattle.ls_board.specs.declared.action.BoardFault.{BoardFault}
use Rattle.ls_board.specs.declared.action.BoardFault.TheVariants.{Failed, Memory}
use Rattle.ls_board.specs.declared.world.World.{World}
use Rattle.ls_board.specs.Effect.{after, Answers, HasShape, part_of, weight_of, MayLack, Applies, IsSound}
use Rattle.ls_board.specs.Images.{Within, changing}

-- What is seen of a board.
pub record Sight : Type 0 where
  -- whether it tells its world; where it doesn't, `world` and `past` mean nothing
  pub told : Bool
  pub world : World
  -- The calls of `act` so far, the newest first, each with the world that it met, as far as it may
  -- change that. Their number is the moment.
  pub past : List (World × Option Action)
  -- how often each part has failed; 2 ^ 64 - 1 is the last count, and stays
  pub faults : Part → ℕ
  -- whether no call of it ever fails
  pub never_fails : Bool
  -- the spare room
  pub actions : ℕ
  pub bytes : ℕ
  -- the number of Weaver slots
  pub slots : ℕ

-- a count that is greater afterwards, or stands at its end
abbrev pub Rose : ℕ → ℕ → Type 0
Rose before now = min (before + 1) (2 ^ 64 - 1) ≤ now

-- the room covers the action, and its conditions hold
pub record CanAct (s : Sight) (a : Action) : Type 0 where
  pub actions : 1 ≤ s.actions
  pub bytes : weight_of a ≤ s.bytes
  pub sound : IsSound s.slots a
  pub applies : IsTrue s.told → Applies s.world a

-- what the call does where the world is told
pub record Moves (old : Sight) (a : Action) (result : Result Answer BoardFault) (out : List ℕ) (new : Sight) : Type 0 where
  pub past : new.past ≡ (old.world, changing a) ∷ old.past
  pub done : IfOk result (λ answer. Answers old.world a answer out × (new.world ≡ after old.world a (length out)))
  pub failed : (p : Part) → result ≡ Err (Failed p) → Within old.world a new.world
  pub lacking : result ≡ Err Memory → new.world ≡ old.world

-- One call of `act`, on any board.
pub record Acts (old : Sight) (a : Action) (result : Result Answer BoardFault) (out : List ℕ) (new : Sight) : Type 0 where
  -- no call changes these
  pub told : new.told ≡ old.told
  pub never_fails : new.never_fails ≡ old.never_fails
  pub slots : new.slots ≡ old.slots
  -- it uses up its room
  pub actions : new.actions + 1 ≡ old.actions
  pub bytes : new.bytes + weight_of a ≡ old.bytes
  -- the answer is one of the action's row
  pub shape : IfOk result (λ answer. HasShape a answer out)
  -- there are no bytes beside an answer that has none, nor after a fault
  pub clear : result ≢ Ok Bytes → out ≡ []
  -- No count falls. Where the call doesn't fail all counts stay; where it does, that of the
  -- action's part rose.
  pub later : (p : Part) → old.faults p ≤ new.faults p
  pub quiet : OnOk result (new.faults ≡ old.faults)
  pub cause : (p : Part) → result ≡ Err (Failed p) → (p ≡ part_of a) × Rose (old.faults p) (new.faults p)
  pub memory : result ≡ Err Memory → MayLack a × (new.faults ≡ old.faults)
  pub moves : IsTrue old.told → Moves old a result out new

-- `ready` adds to the room and does nothing else
pub record Readies (old : Sight) (actions bytes : ℕ) {E : Type 0} (result : Result Unit E) (new : Sight) : Type 0 where
  pub same : new ≡ record old { actions = new.actions; bytes = new.bytes }
  pub more : (old.actions ≤ new.actions) × (old.bytes ≤ new.bytes)
  pub room : OnOk result ((actions ≤ new.actions) × (bytes ≤ new.bytes))
