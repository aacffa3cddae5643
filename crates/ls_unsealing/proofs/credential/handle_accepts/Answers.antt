use Rattle.ls_unsealing.proofs.StoredLemmas.{same_handle}
use Rattle.ls_unsealing.proofs.credential.handle_accepts.Goals as goal

pub returns-in-Some : goal.returns-in-Some
returns-in-Some c = record {
  same = same_handle c.args.device.now c.args.id c.args.stretched.now c.args.handle.now c.in-Some.handle _ _ _ c.eq.result
      c.in-Some.is c.gatekeeper_password-password.ensures.same c.salt_of.ensures.same c.signed.ensures.same c.eq.ensures;
}
