use Rattle.ls_standing.proofs.UnnamedLemmas.{left_out}
use Rattle.ls_standing.proofs.ProtectorLemmas.{spared}
use Rattle.ls_standing.proofs.SlotLemmas.{one_name, slot_within}
use Rattle.ls_standing.proofs.slots.standing_protectors_share_no_slot.Goals as goal

pub returns-clause-once : goal.returns-clause-once
returns-clause-once c = λ w r v holds. one_name w r holds.files

pub returns-clause-within : goal.returns-clause-within
returns-clause-within c = λ w r v holds. slot_within w r holds.files

pub returns-clause-spared : goal.returns-clause-spared
returns-clause-spared c = λ w r v is holds. spared w r holds.files is

pub returns-clause-left_out : goal.returns-clause-left_out
returns-clause-left_out c = λ w r less v is also holds p named others. left_out w r is less also p named others holds.files
