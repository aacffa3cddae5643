use Rattle.std.proofs.Common.{◌≡◌, subst}
use Rattle.std.specs.Prelude.{IfOk}
use Rattle.ls_formats.specs.Contents.{Pwd}
use Rattle.ls_sealing.specs.Chain.{stretched_at}
use Rattle.ls_sealing.proofs.chain.stretched_by.Goals as goal

pub returns : goal.returns
unfolding stretched_at
returns c = record {
  same = subst (λ (p : Pwd). IfOk c.stretch.result (λ key. key ≡ stretched_at p.log_n p.log_r p.log_p p.salt c.args.text.now)) c.pwd.view_is c.stretch.ensures.key;
}
