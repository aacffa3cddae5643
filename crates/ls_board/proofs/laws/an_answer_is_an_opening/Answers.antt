use Rattle.ls_board.proofs.KeyLemmas.{is_opened, is_unknown, is_closed}
use Rattle.ls_board.proofs.laws.an_answer_is_an_opening.Goals as goal

pub returns-clause-opened : goal.returns-clause-opened
returns-clause-opened c = is_opened

pub returns-clause-unknown : goal.returns-clause-unknown
returns-clause-unknown c = is_unknown

pub returns-clause-closed : goal.returns-clause-closed
returns-clause-closed c = is_closed
