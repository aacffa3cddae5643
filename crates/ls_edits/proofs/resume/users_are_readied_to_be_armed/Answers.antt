use Rattle.ls_edits.proofs.ArmingLemmas.{arming_readied, arming_untouched}
use Rattle.ls_edits.proofs.resume.users_are_readied_to_be_armed.Goals as goal

pub returns : goal.returns
returns c = λ w r v a key once content is holds unarmed may opens.
    (arming_readied w r v a key once content is holds unarmed may opens, arming_untouched w r v a key once content is holds unarmed may opens)
