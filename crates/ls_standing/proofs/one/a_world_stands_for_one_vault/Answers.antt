use Rattle.ls_standing.proofs.OneLemmas.{same_but_texts, same_shown, tokens_fix, one_vault}
use Rattle.ls_standing.proofs.one.a_world_stands_for_one_vault.Goals as goal

pub returns-clause-parts : goal.returns-clause-parts
returns-clause-parts c = same_but_texts

pub returns-clause-shown : goal.returns-clause-shown
returns-clause-shown c = same_shown

pub returns-clause-tokens : goal.returns-clause-tokens
returns-clause-tokens c = tokens_fix

pub returns-clause-whole : goal.returns-clause-whole
returns-clause-whole c = one_vault
