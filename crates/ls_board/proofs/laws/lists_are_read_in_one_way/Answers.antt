use Rattle.ls_board.proofs.ListLemmas.{names_read, numbers_read}
use Rattle.ls_board.proofs.laws.lists_are_read_in_one_way.Goals as goal

pub returns-clause-names : goal.returns-clause-names
returns-clause-names c = names_read

pub returns-clause-sids : goal.returns-clause-sids
returns-clause-sids c = λ rows. numbers_read rows

pub returns-clause-aliases : goal.returns-clause-aliases
returns-clause-aliases c = λ rows. numbers_read rows
