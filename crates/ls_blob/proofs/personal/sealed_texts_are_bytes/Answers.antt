use Rattle.ls_blob.proofs.PersonalLemmas.{sealed_under_bytes}
use Rattle.ls_blob.proofs.personal.sealed_texts_are_bytes.Goals as goal

pub returns : goal.returns
returns c = record { bytes = sealed_under_bytes }
