use Rattle.ls_blob.proofs.PersonalLemmas.{opened_under-sealed_under, length-sealed_under}
use Rattle.ls_blob.proofs.personal.sealed_texts_open.Goals as goal

pub returns : goal.returns
returns c = record { opens = opened_under-sealed_under; size = length-sealed_under }
