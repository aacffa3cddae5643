use Rattle.std.proofs.Common.{◌≡◌, true, false, None}
use Rattle.ls_edits.proofs.ArmLemmas.{clear_holds, cleared_holds, arm_untouched}
use Rattle.ls_edits.proofs.arming.nobody_is_armed.Goals as goal

pub returns-clause-holds : goal.returns-clause-holds
returns-clause-holds c = λ w r v is holds none. clear_holds w r v is holds none

pub returns-clause-cleared : goal.returns-clause-cleared
returns-clause-cleared c = λ w r v is holds. cleared_holds w r v is holds

pub returns-clause-untouched : goal.returns-clause-untouched
returns-clause-untouched c = λ w r was. arm_untouched w r None was (λ row h on. let bad : false ≡ true = on in absurd (cc))
