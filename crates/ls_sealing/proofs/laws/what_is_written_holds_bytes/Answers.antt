use Rattle.ls_sealing.proofs.WrittenBytesLemmas.{credential_bytes, token_bytes}
use Rattle.ls_sealing.proofs.laws.what_is_written_holds_bytes.Goals as goal

pub returns-clause-credential : goal.returns-clause-credential
returns-clause-credential c = λ id slot k s drawn gk_key secret counts are. credential_bytes id slot k s drawn gk_key secret counts are.each

pub returns-clause-token : goal.returns-clause-token
returns-clause-token c = λ id slot bytes p0 s drawn gk_key secret half are. token_bytes id slot bytes s.version p0 drawn gk_key secret.version half.each are.each
