-- The room for three lists of actions, one behind another.
use Rattle.std.proofs.Common.{◌≡◌, ◌+◌, ℕ, IsTrue, List, ◌++◌, length, sum_by, sym, ◌∙◌, subst, arith, length-append}
use Rattle.std.proofs.lemmas.List.Sums.{sum_by-append}
use Rattle.ls_board.specs.declared.action.Action.{Action}
use Rattle.ls_board.specs.Acts.{Sight}
use Rattle.ls_board.specs.Effect.{weight_of}
use Rattle.ls_board.specs.Runs.{AllSound, AllApply, CanRun, Did}
use Rattle.ls_change.specs.declared.work.Work.{Work}
use Rattle.ls_change.specs.Work.{HasRoom}

pub action_count : (before commit after : List Action) → length (before ++ (commit ++ after)) ≡ length before + length commit + length after
action_count before commit after = omega (arith, length-append before (commit ++ after), length-append commit after)

pub byte_count : (before commit after : List Action)
    → sum_by weight_of (before ++ (commit ++ after)) ≡ sum_by weight_of before + sum_by weight_of commit + sum_by weight_of after
byte_count before commit after = omega (arith, sum_by-append weight_of before (commit ++ after), sum_by-append weight_of commit after)

-- for the last of them
pub can_end : (s0 s1 s2 : Sight) (k : Work) → HasRoom s0 k → Did s0 k.before s1 → Did s1 k.commit.actions s2 → (IsTrue s2.told → AllApply s2.world k.after) → CanRun s2 k.after
can_end s0 s1 s2 k room did committed applies = record {
  actions = omega (arith, room.actions, did.actions, committed.actions, action_count k.before k.commit.actions k.after);
  bytes = omega (arith, room.bytes, did.bytes, committed.bytes, byte_count k.before k.commit.actions k.after);
  sound = subst (λ (n : ℕ). AllSound n k.after) (sym (committed.slots ∙ did.slots)) room.after;
  applies = applies;
}
