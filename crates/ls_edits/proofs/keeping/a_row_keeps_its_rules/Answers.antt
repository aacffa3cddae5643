use Rattle.ls_edits.proofs.MayLemmas.{pin_row, tokens_row, plain_row}
use Rattle.ls_edits.proofs.keeping.a_row_keeps_its_rules.Goals as goal

pub returns-clause-pin : goal.returns-clause-pin
returns-clause-pin c = pin_row

pub returns-clause-tokens : goal.returns-clause-tokens
returns-clause-tokens c = λ row keeps is. tokens_row keeps row is

pub returns-clause-escrow : goal.returns-clause-escrow
returns-clause-escrow c = plain_row
