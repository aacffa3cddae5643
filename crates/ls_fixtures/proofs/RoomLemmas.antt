-- What a board may be asked for where room was made, and what it does then.
use Rattle.std.proofs.Common.{◌≡◌, ◌≤◌, ℕ, Bool, IsTrue, List, length, sum_by, Result, sym, ◌∙◌, ap, subst}
use Rattle.ls_board.specs.declared.action.Action.{Action}
use Rattle.ls_board.specs.declared.action.Answer.{Answer}
use Rattle.ls_board.specs.declared.action.BoardFault.{BoardFault}
use Rattle.ls_board.specs.declared.world.World.{World}
use Rattle.ls_board.specs.declared.action.Part.{Part}
use Rattle.ls_board.specs.Acts.{Sight, CanAct, Acts, Moves, Rose}
use Rattle.ls_board.specs.Effect.{weight_of, Applies, IsSound}
use Rattle.ls_board.specs.Runs.{after_all, AllApply, AllSound, CanRun, Did}

-- room was made, and nothing else was done
module _ (old ready : Sight) (same : ready ≡ record old { actions = ready.actions; bytes = ready.bytes }) where
  same_slots : ready.slots ≡ old.slots
  same_slots = ap (λ (s : Sight). s.slots) same

  same_world : ready.world ≡ old.world
  same_world = ap (λ (s : Sight). s.world) same

  same_told : ready.told ≡ old.told
  same_told = ap (λ (s : Sight). s.told) same

  told_here : IsTrue old.told → IsTrue ready.told
  told_here told = subst (λ (b : Bool). IsTrue b) (sym same_told) told

  told_there : IsTrue ready.told → IsTrue old.told
  told_there told = subst (λ (b : Bool). IsTrue b) same_told told

  pub can_act : (a : Action) {bytes : ℕ} → 1 ≤ ready.actions → bytes ≤ ready.bytes → bytes ≡ weight_of a → IsSound old.slots a → (IsTrue old.told → Applies old.world a) → CanAct ready a
  can_act a enough wide weight sound applies = record {
    actions = enough;
    bytes = subst (λ (n : ℕ). n ≤ ready.bytes) weight wide;
    sound = subst (λ (n : ℕ). IsSound n a) (sym same_slots) sound;
    applies = λ told. subst (λ (w : World). Applies w a) (sym same_world) (applies (told_there told));
  }

  pub can_run : (plan : List Action) {actions bytes : ℕ} → actions ≤ ready.actions → bytes ≤ ready.bytes → actions ≡ length plan → bytes ≡ sum_by weight_of plan → AllSound old.slots plan
      → (IsTrue old.told → AllApply old.world plan) → CanRun ready plan
  can_run plan enough wide count weight sound applies = record {
    actions = subst (λ (n : ℕ). n ≤ ready.actions) count enough;
    bytes = subst (λ (n : ℕ). n ≤ ready.bytes) weight wide;
    sound = subst (λ (n : ℕ). AllSound n plan) (sym same_slots) sound;
    applies = λ told. subst (λ (w : World). AllApply w plan) (sym same_world) (applies (told_there told));
  }

  pub moved : (a : Action) (answer : Result Answer BoardFault) (out : List ℕ) (new : Sight) → Acts ready a answer out new → IsTrue old.told → Moves old a answer out new
  moved a answer out new acts told =
      let moves : Moves (record old { actions = ready.actions; bytes = ready.bytes }) a answer out new = subst (λ (s : Sight). Moves s a answer out new) same (acts.moves (told_here told)) in
      record { past = moves.past; done = moves.done; failed = moves.failed; lacking = moves.lacking }

  pub rose_since : (part : Part) {now : ℕ} → Rose (ready.faults part) now → Rose (old.faults part) now
  rose_since part {now} rose = subst (λ (n : ℕ). Rose n now) (ap (λ (s : Sight). s.faults part) same) rose

  pub ran : (plan : List Action) (new : Sight) → IsTrue old.told → Did ready plan new → new.world ≡ after_all old.world plan
  ran plan new told did = did.world (told_here told) ∙ ap (λ (w : World). after_all w plan) same_world
