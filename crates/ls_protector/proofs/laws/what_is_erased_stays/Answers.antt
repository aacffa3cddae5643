use Rattle.ls_board.specs.Runs.{after_all}
use Rattle.ls_protector.proofs.StayLemmas.{but_erased, left_erased, plan_keeps, plan_leaves}
use Rattle.ls_protector.proofs.laws.what_is_erased_stays.Goals as goal

pub returns-clause-done : goal.returns-clause-done
returns-clause-done c = λ w p plan only erased. but_erased p w (after_all w plan) (plan_keeps p w plan only) erased

pub returns-clause-images : goal.returns-clause-images
returns-clause-images c = λ w image p plan only erased left. left_erased p w image (plan_leaves p w image plan only left) erased
