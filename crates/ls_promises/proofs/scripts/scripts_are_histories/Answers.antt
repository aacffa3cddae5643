use Rattle.ls_promises.proofs.ScriptHistory.{told_chained, same_replies, same_states}
use Rattle.ls_vault.specs.Script.{told}
use Rattle.ls_promises.proofs.scripts.scripts_are_histories.Goals as goal

pub returns-clause-replies : goal.returns-clause-replies
returns-clause-replies c = λ slots s script moments noise.
    same_replies slots s (told slots s script moments noise) (told_chained slots s script moments noise)

pub returns-clause-states : goal.returns-clause-states
returns-clause-states c = λ slots s script moments noise count.
    same_states slots s (told slots s script moments noise) count (told_chained slots s script moments noise)
