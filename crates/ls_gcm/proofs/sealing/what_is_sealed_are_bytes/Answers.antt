use Rattle.ls_gcm.proofs.SealedBytesLemmas.{seal_small}
use Rattle.ls_gcm.proofs.sealing.what_is_sealed_are_bytes.Goals as goal

pub returns : goal.returns
returns c = record { bytes = seal_small }
