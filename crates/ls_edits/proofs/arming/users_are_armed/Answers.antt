use Rattle.std.specs.Prelude.{Some}
use Rattle.ls_edits.proofs.ArmLemmas.{armed_holds, arm_untouched}
use Rattle.ls_edits.proofs.arming.users_are_armed.Goals as goal

pub returns-clause-holds : goal.returns-clause-holds
returns-clause-holds c = λ w r v a once is holds may cell its. armed_holds w r v is holds a once may cell its

pub returns-clause-untouched : goal.returns-clause-untouched
returns-clause-untouched c = λ w r a was its. arm_untouched w r (Some a) was its
