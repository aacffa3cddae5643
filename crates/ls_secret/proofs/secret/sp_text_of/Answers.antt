use Rattle.std.proofs.lemmas.Result.{IfOk-weaker}
use Rattle.ls_secret.proofs.SpTextLemmas.{sp_text_is}
use Rattle.ls_secret.proofs.secret.sp_text_of.Goals as goal

pub returns : goal.returns
returns c = record {
  text = c.hex_upper.ensures.text;
  shape =
      IfOk-weaker c.hex_upper.result _ _ (λ text e. sp_text_is c.args.hash.now text c.told-hash c.fits-hash e)
      c.hex_upper.ensures.text;
}
