use Rattle.ls_secure.specs.Held.{world_of}
use Rattle.ls_dirboard.proofs.VerifyLemmas.{verify_answered}
use Rattle.ls_dirboard.proofs.outside.Outside.answer.Goals as goal

pub returns-in-GkVerify-clause-devices : goal.returns-in-GkVerify-clause-devices
returns-in-GkVerify-clause-devices c =
    verify_answered c.verify.result (world_of c.args.self.now.devices) (world_of c.verify.new.self.devices) c.in-GkVerify.handle c.as_slice-in-GkVerify.result.now c.in-GkVerify.password c.args.out.now.items c.in-GkVerify.moment c.args.a.now
    c.verify.ensures.answer c.verify.ensures.after c.as_slice-in-GkVerify.ensures.same c.requires.empty c.in-GkVerify.is
