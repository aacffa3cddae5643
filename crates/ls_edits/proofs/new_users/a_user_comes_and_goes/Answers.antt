use Rattle.ls_edits.proofs.ComeAndGoLemmas.{taken_back, first_held}
use Rattle.ls_edits.proofs.new_users.a_user_comes_and_goes.Goals as goal

pub returns-clause-gone : goal.returns-clause-gone
returns-clause-gone c = λ w r v user id slot drawn bytes is holds none may unnamed fits secret are. taken_back w r v user id slot drawn bytes is holds none may unnamed fits secret are

pub returns-clause-first : goal.returns-clause-first
returns-clause-first c = λ slots user id slot drawn bytes small even fits_id fits secret are. first_held slots user id slot small even fits_id drawn bytes fits secret are
