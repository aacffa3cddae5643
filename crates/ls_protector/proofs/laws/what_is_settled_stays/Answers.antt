use Rattle.ls_board.specs.Runs.{after_all}
use Rattle.ls_protector.proofs.StayLemmas.{but_same, but_settled, left_same, left_settled, plan_keeps, plan_leaves, action_keeps}
use Rattle.ls_protector.proofs.laws.what_is_settled_stays.Goals as goal

pub returns-clause-done : goal.returns-clause-done
returns-clause-done c = λ w p plan only. but_same p w (after_all w plan) (plan_keeps p w plan only)

pub returns-clause-settled : goal.returns-clause-settled
returns-clause-settled c = λ w p plan only settled. but_settled p w (after_all w plan) (plan_keeps p w plan only) settled

pub returns-clause-images : goal.returns-clause-images
returns-clause-images c = λ w image p plan only settled left.
    let its = plan_leaves p w image plan only left in
    (left_same p w image its settled, left_settled p w image its)

pub returns-clause-failed : goal.returns-clause-failed
returns-clause-failed c = λ w mid p a only within.
    let same = action_keeps p w mid a only within in
    (but_same p w mid same, λ settled. but_settled p w mid same settled)

pub returns-clause-but : goal.returns-clause-but
returns-clause-but c = λ w mid p same. (but_same p w mid same, λ settled. but_settled p w mid same settled)
