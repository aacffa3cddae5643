use Rattle.ls_edits.proofs.AddLemmas.{added_holds}
use Rattle.ls_edits.proofs.new_users.a_user_without_escrow_is_added.Goals as goal

pub returns : goal.returns
returns c = λ w r v user id drawn is holds none may seals shows counted bytes fresh. added_holds w r v user id drawn is holds none may seals shows counted bytes fresh
