use Rattle.ls_placing.proofs.SlotLemmas.{one_is_free}
use Rattle.ls_placing.proofs.laws.there_is_a_free_slot.Goals as goal

pub returns : goal.returns
returns c = λ b x can. one_is_free b x can
