use Rattle.ls_edits.proofs.ReadyLemmas.{readied, readied_untouched}
use Rattle.ls_edits.proofs.new_users.a_user_without_escrow_is_readied.Goals as goal

pub returns : goal.returns
returns c = λ w r v user id slot drawn bytes is holds none may unnamed fits secret are.
    (readied w r v user id slot drawn bytes is holds none may unnamed fits secret are, readied_untouched w r v user id slot drawn bytes is holds none may unnamed fits secret are)
