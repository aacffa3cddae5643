use Rattle.ls_board.proofs.ListLemmas.{files_there, records_there, keys_there}
use Rattle.ls_board.proofs.laws.what_is_in_a_table_is_found.Goals as goal

pub returns-clause-files : goal.returns-clause-files
returns-clause-files c = files_there

pub returns-clause-sids : goal.returns-clause-sids
returns-clause-sids c = records_there

pub returns-clause-aliases : goal.returns-clause-aliases
returns-clause-aliases c = keys_there
