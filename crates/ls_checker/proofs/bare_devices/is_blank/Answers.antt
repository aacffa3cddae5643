use Rattle.std.proofs.Common.{sym}
use Rattle.ls_checker.proofs.BareLemmas.{past_decided, there_decided}
use Rattle.ls_checker.proofs.bare_devices.is_blank.Goals as goal

pub returns-in-None : goal.returns-in-None
returns-in-None c = record { decided = past_decided c.args.world.now c.args.slot (sym c.in-None.ensures.found) }

pub returns-in-Some : goal.returns-in-Some
returns-in-Some c = record {
  decided = there_decided c.args.world.now c.args.slot c.in-Some.slot.now c.blank.result c.same_slot.result
      (sym c.in-Some.ensures.found) c.blank.ensures.blank c.same_slot.ensures.same;
}
