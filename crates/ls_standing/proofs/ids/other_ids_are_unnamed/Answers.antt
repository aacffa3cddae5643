use Rattle.ls_standing.proofs.UnnamedLemmas.{other_key, zero_key, other_slot, other_record, other_secure}
use Rattle.ls_standing.proofs.TouchLemmas.{other_file}
use Rattle.ls_standing.proofs.ids.other_ids_are_unnamed.Goals as goal

pub returns-clause-key : goal.returns-clause-key
returns-clause-key c = other_key

pub returns-clause-unarmed : goal.returns-clause-unarmed
returns-clause-unarmed c = zero_key

pub returns-clause-file : goal.returns-clause-file
returns-clause-file c = λ w r p part is has others. other_file w r p is has (other_key r p.id has.some others) part

pub returns-clause-slot : goal.returns-clause-slot
returns-clause-slot c = other_slot

pub returns-clause-counter : goal.returns-clause-counter
returns-clause-counter c = other_record

pub returns-clause-secure : goal.returns-clause-secure
returns-clause-secure c = other_secure
