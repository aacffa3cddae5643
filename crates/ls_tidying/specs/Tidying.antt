-- What tidying does: the files of retired protectors are removed, one at a time.
use Rattle.std.specs.Prelude.{◌≡◌, ◌≢◌, ◌≤◌, ◌<◌, ◌+◌, ◌∷◌, ◌↔◌, [], ℕ, zero, suc, Bool, true, false, IsTrue, MatchBool, List, length, Result, Ok, Err, IfOk, OnOk}
use Rattle.std.specs.List.{Contains}
use Rattle.ls_board.specs.declared.action.Action.{Action}
use Rattle.ls_board.specs.declared.world.World.{World}
use Rattle.ls_board.specs.Acts.{Sight}
use Rattle.ls_board.specs.Keeping.{Keeps}
use Rattle.ls_board.specs.Runs.{Did, LeavesOnly}
use Rattle.ls_formats.specs.declared.parts.Parts.{Parts}
use Rattle.ls_placing.specs.Placing.{SaysId}
use Rattle.ls_protector.specs.Parts.{first_removed, without_first}
use Rattle.ls_serving.specs.Calls.{IsSilent}
use Rattle.ls_serving.specs.Turns.{StaysInside}
use Rattle.ls_sweep.specs.Sifted.{AreThose}
use Rattle.ls_vault.specs.declared.state.State.{State}
use Rattle.ls_vault.specs.declared.vault.Vault.{Vault}
use Rattle.ls_turn.specs.declared.session.Session.{Session}
use Rattle.ls_turn.specs.declared.stop.Cause.{Cause}
use Rattle.ls_turn.specs.declared.stop.Stop.{Stop}
use Rattle.ls_turn.specs.declared.stop.Stop.TheVariants.{Fault, Stopped}
use Rattle.ls_turn.specs.Agreeing.{Agrees, retired_files}
use Rattle.ls_turn.specs.Serving.{CanServe, KeepsCause, KeepsStrange, StaysBare, StandsSomehow}

-- ---- what is left to do

-- the protectors that are left, where these are the names that the first one has left: one of which no
-- file is left is gone
abbrev pub left_with : Parts → List (List ℕ) → List Parts → List Parts
left_with p [] rest = rest
left_with p (n ∷ names) rest = record p { names = n ∷ names } ∷ rest

-- the first file of the protector at this place is removed, if one is left
abbrev pub removal_at : List Parts → ℕ → List Action
removal_at [] i = []
removal_at (p ∷ rest) zero = first_removed p.names
removal_at (p ∷ rest) (suc i) = removal_at rest i

-- the protectors that are left then
abbrev pub tidied_at : List Parts → ℕ → List Parts
tidied_at [] i = []
tidied_at (p ∷ rest) zero = left_with p (without_first p.names) rest
tidied_at (p ∷ rest) (suc i) = p ∷ tidied_at rest i

-- those without the one at this place
abbrev pub without_at : List Parts → ℕ → List Parts
without_at [] i = []
without_at (p ∷ rest) zero = rest
without_at (p ∷ rest) (suc i) = p ∷ without_at rest i

-- how many steps that may take at most: one for each protector and one for each file that is left
abbrev pub steps_left : Session → ℕ
steps_left x = length x.retired.items + length (retired_files x)

-- ---- what each removal keeps

-- The image stands for the vault, and nothing was said or heard.
pub record IsStill (w : World) (v : Vault) (image : World) : Type 0 where
  pub stands : StandsSomehow image v
  pub silent : IsSilent w image

-- no moment was taken and no noise drawn
pub record KeepsTape (old new : World) : Type 0 where
  pub moments : new.moments ≡ old.moments
  pub noise : new.noise ≡ old.noise

-- Files of retired protectors are removed, and nothing else: what that does, on any board, where no call
-- of the session has stopped.
pub record OnlyTidies {T : Type 0} (old : Sight) (x : Session) (result : Result T Stop) (y : Session) (new : Sight) : Type 0 where
  -- A fault comes only where a count rose, and no other answer where one grew.
  pub keeps : Keeps Fault old new result
  pub cause : KeepsCause x result y
  pub going : (c : Cause) → result ≡ Err (Stopped c) → ⊥
  -- Nothing of the session is another but what is retired, and why it stopped.
  pub rest : y ≡ record x { retired = y.retired; stopped = y.stopped }
  -- The next call may be made.
  pub can : OnOk result (CanServe new y)
  -- Nothing is said or heard, no moment is taken and no noise drawn, and what isn't the service's own
  -- stays.
  pub silent : IsTrue old.told → IsSilent old.world new.world
  pub tape : IsTrue old.told → KeepsTape old.world new.world
  pub inside : IsTrue old.told → StaysInside old new
  pub strange : IsTrue old.told → OnOk result (KeepsStrange old.world new.world)
  -- It agrees with the same state, and each image stands for its vault.
  pub agrees : IsTrue old.told → (s : State) → Agrees old.world x s → OnOk result (Agrees new.world y s)
  pub crash : IsTrue old.told → (s : State) → Agrees old.world x s → LeavesOnly old new (IsStill old.world s.vault)
  -- Nothing is left that isn't named or retired.
  pub bare : IsTrue old.told → (s : State) → Agrees old.world x s → OnOk result (StaysBare old.world x new.world y)

-- ---- a step

-- these were done whole, one after another, and nothing else but that room was made
abbrev pub DidInRoom : Sight → List Action → Sight → Type 0
DidInRoom old done new = (actions : ℕ) × (bytes : ℕ) × Did (record old { actions = actions; bytes = bytes }) done new

-- What a step does at the protector of this place.
pub record TidiesAt (i : ℕ) (old : Sight) (x : Session) (result : Result Bool Stop) (y : Session) (new : Sight) : Type 0 where
  pub only : OnlyTidies old x result y new
  pub did : OnOk result (DidInRoom old (removal_at x.retired.items i) new)
  pub left : OnOk result (y.retired.items ≡ tidied_at x.retired.items i)
  -- It answers whether that protector is gone. Otherwise it stands where it stood.
  pub gone : IfOk result (λ gone. MatchBool gone (y.retired.items ≡ without_at x.retired.items i)
      ((i < length y.retired.items) × (without_at y.retired.items i ≡ without_at x.retired.items i)))
  pub fewer : OnOk result (steps_left y < steps_left x)

-- What a step of the session does: at the oldest of the retired protectors, if there is one.
pub record Tidies (old : Sight) (x : Session) (result : Result Bool Stop) (y : Session) (new : Sight) : Type 0 where
  pub only : OnlyTidies old x result y new
  -- One file is removed, or none, and the protectors are left that have one more.
  pub did : OnOk result (DidInRoom old (removal_at x.retired.items 0) new)
  pub left : OnOk result (y.retired.items ≡ tidied_at x.retired.items 0)
  -- It answers whether none is left.
  pub none : IfOk result (λ none. IsTrue none ↔ (y.retired.items ≡ []))
  pub fewer : result ≡ Ok false → steps_left y < steps_left x

-- ---- the protectors of one id

-- none of the files that it has left says the id
abbrev pub SaysNot : ℕ → Parts → Type 0
SaysNot id p = ¬ SaysId p.names id

-- From this place on those are left that don't say the id, in their order; all before it are left.
abbrev pub LeftFrom : ℕ → ℕ → List Parts → List Parts → Type 0
LeftFrom id zero ps left = AreThose (SaysNot id) ps left
LeftFrom id (suc i) [] left = left ≡ []
LeftFrom id (suc i) (p ∷ ps) left = (behind : List Parts) × (left ≡ p ∷ behind) × LeftFrom id i ps behind
