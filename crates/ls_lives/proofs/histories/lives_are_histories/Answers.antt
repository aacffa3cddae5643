use Rattle.ls_lives.proofs.LivesLemmas.{lives_end, lives_reply, acknowledged_kept}
use Rattle.ls_vault.specs.Script.{acknowledged}
use Rattle.ls_lives.specs.Lives.{first_state}
use Rattle.ls_lives.proofs.histories.lives_are_histories.Goals as goal

pub returns-clause-replies : goal.returns-clause-replies
returns-clause-replies c = λ slots s lives are.
    lives_reply slots (λ t script moments noise. c.scripts_are_histories.ensures.replies slots t script moments noise)
    (λ t script moments noise count. c.scripts_are_histories.ensures.states slots t script moments noise count) s lives are

pub returns-clause-vault : goal.returns-clause-vault
returns-clause-vault c = λ slots s lives are.
    lives_end slots (λ t script moments noise. c.scripts_are_histories.ensures.replies slots t script moments noise)
    (λ t script moments noise count. c.scripts_are_histories.ensures.states slots t script moments noise count) s lives are

pub returns-clause-acknowledged : goal.returns-clause-acknowledged
returns-clause-acknowledged c = λ slots l life.
    acknowledged_kept slots (λ t script moments noise. c.scripts_are_histories.ensures.replies slots t script moments noise)
    (λ t script moments noise count. c.scripts_are_histories.ensures.states slots t script moments noise count) l
    (acknowledged life.said slots (first_state l) l.start.input l.start.moments l.start.noise) life.enough
