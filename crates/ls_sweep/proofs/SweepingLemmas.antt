-- What the actions of a sweep ask of a board.
use Rattle.std.proofs.Common.{◌≤◌, ℕ, Bool, true, false, List, [], ◌∷◌, ◌++◌, map, length, sum_by}
use Rattle.std.specs.List.{Contains, AllByRecursion}
use Rattle.ls_naming.specs.Named.{only_if}
use Rattle.ls_board.specs.declared.action.Action.{Action}
use Rattle.ls_board.specs.declared.action.Action.TheVariants.{Remove, GkForget, KeyDrop, ResumeTake, Sync}
use Rattle.ls_board.specs.declared.world.World.{World}
use Rattle.ls_board.specs.Acts.{Sight}
use Rattle.ls_board.specs.Effect.{after, IsSound, Applies, weight_of}
use Rattle.ls_board.specs.Runs.{AllSound, AllApply, CanRun}
use Rattle.ls_standing.specs.Clearing.{blank_write}
use Rattle.ls_standing.proofs.ContainsLemmas.{at_first, behind_first}
use Rattle.ls_sweep.specs.declared.leftovers.Leftovers.{Leftovers}
use Rattle.ls_sweep.specs.Sifted.{AreUnusedBelow}
use Rattle.ls_sweep.specs.Swept.{sweep_of}
use Rattle.ls_sweep.proofs.SiftLemmas.{unused_are}

-- ---- of each action of a sweep

module _ (P : Action → Type 0) where
  all_append : (xs ys : List Action) → AllByRecursion P xs → AllByRecursion P ys → AllByRecursion P (xs ++ ys)
  all_append [] ys first second = second
  all_append (a ∷ xs) ys first second = (first.0, all_append xs ys first.1 second)

  all_map : {X : Type 0} (f : X → Action) (xs : List X) → ((x : X) → Contains xs x → P (f x)) → AllByRecursion P (map f xs)
  all_map f [] each = tt
  all_map f (x ∷ xs) each = (each x (at_first x xs), all_map f xs (λ z has. each z (behind_first x xs z has)))

  all_last : (cell : Bool) → P ResumeTake → P Sync → AllByRecursion P (only_if cell (ResumeTake ∷ []) ++ Sync ∷ [])
  all_last true take sync = (take, (sync, tt))
  all_last false take sync = (sync, tt)

  all_sweep : (left : Leftovers) → ((n : List ℕ) → P (Remove n)) → ((slot : ℕ) → Contains left.slots slot → P (blank_write slot)) → ((sid : ℕ) → P (GkForget sid)) → ((alias : ℕ) → P (KeyDrop alias))
      → P ResumeTake → P Sync → AllByRecursion P (sweep_of left)
  all_sweep left removes blanks forgets drops take sync =
      all_append (map Remove left.files) _ (all_map Remove left.files (λ n has. removes n))
      (all_append (map blank_write left.slots) _ (all_map blank_write left.slots blanks)
      (all_append (map GkForget left.enrolled) _ (all_map GkForget left.enrolled (λ sid has. forgets sid))
      (all_append (map KeyDrop left.keys) _ (all_map KeyDrop left.keys (λ alias has. drops alias)) (all_last left.cell take sync))))

-- ---- what they ask

each_sound : (slots : ℕ) (actions : List Action) → AllByRecursion (IsSound slots) actions → AllSound slots actions
each_sound slots [] all = tt
each_sound slots (a ∷ actions) all = (all.0, each_sound slots actions all.1)

pub sweep_sound : (slots : ℕ) (used : List ℕ) (left : Leftovers) → AreUnusedBelow slots used left.slots → AllSound slots (sweep_of left)
sweep_sound slots used left unused =
    each_sound slots (sweep_of left)
    (all_sweep (IsSound slots) left (λ n. tt) (λ slot has. ((unused_are slots used left.slots slot unused).0 has).0) (λ sid. tt) (λ alias. tt) tt tt)

each_applies : (w : World) (actions : List Action) → AllByRecursion (λ a. (v : World) → Applies v a) actions → AllApply w actions
each_applies w [] all = tt
each_applies w (a ∷ actions) all = (all.0 w, each_applies (after w a 0) actions all.1)

pub sweep_applies : (left : Leftovers) (w : World) → AllApply w (sweep_of left)
sweep_applies left w =
    each_applies w (sweep_of left)
    (all_sweep (λ a. (v : World) → Applies v a) left (λ n v. tt) (λ slot has v. tt) (λ sid v. tt) (λ alias v. tt) (λ v. tt) (λ v. tt))

-- on a board with room for them
pub can_sweep : (s : Sight) (actions : List Action) → length actions ≤ s.actions → sum_by weight_of actions ≤ s.bytes → AllSound s.slots actions → ((w : World) → AllApply w actions) → CanRun s actions
can_sweep s actions count bytes sound applies = record { actions = count; bytes = bytes; sound = sound; applies = λ told. applies s.world }
