use Rattle.std.proofs.Common.{ap}
use Rattle.std.specs.Prelude.{nat_lt}
use Rattle.ls_unsealing.specs.Purposes.{protector_of}
use Rattle.ls_unsealing.proofs.HeldLemmas.{all_held}
use Rattle.ls_unsealing.proofs.parts.HeldParts.of.Goals as goal

pub returns : goal.returns
returns c =
    let p = protector_of c.args.protector.now in
    let w = c.args.world.now in
    record {
      held = all_held w p _ c.in_ok-held_file.ensures.same c.in_ok-held_file-2.ensures.same c.in_ok-held_file-3.ensures.same c.in_ok-held_file-4.ensures.same c.in_ok-held_file-5.ensures.same
          (nat_lt 0 c.len.result) c.slot_of.result c.counter_of.result c.find.result
          (ap (nat_lt 0) c.len.ensures.count) c.slot_of.ensures.same c.counter_of.ensures.same
          c.find.ensures.found;
    }
