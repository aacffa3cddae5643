use Rattle.ls_naming.proofs.JournalLemmas.{opens}
use Rattle.ls_naming.proofs.laws.an_opened_entry_counts.Goals as goal

pub returns : goal.returns
returns c = opens
