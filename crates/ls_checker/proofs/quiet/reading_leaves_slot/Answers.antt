use Rattle.std.proofs.Common.{sym}
use Rattle.ls_checker.proofs.QuietLemmas.{reading_past, reading_there}
use Rattle.ls_checker.proofs.quiet.reading_leaves_slot.Goals as goal

pub returns-in-None : goal.returns-in-None
returns-in-None c = record { decided = reading_past c.args.world.now c.args.slot c.args.key.now c.args.moment (sym c.in-None.ensures.found) }

pub returns-in-Some : goal.returns-in-Some
returns-in-Some c = record {
  decided = reading_there c.args.world.now c.args.slot c.args.key.now c.args.moment c.in-Some.slot.now c.is_left_by.result
      (sym c.in-Some.ensures.found) c.is_left_by.ensures.decided;
}
