use Rattle.ls_checker.proofs.StandingLemmas.{escrow_decided}
use Rattle.ls_standing.specs.Named.{held_of_user, held_of_row}
use Rattle.ls_checker.proofs.escrow.holds_escrow.Goals as goal

pub returns : goal.returns
returns c = record {
  decided = escrow_decided (held_of_user c.args.world.now c.args.armed.now c.args.row.now) (held_of_row c.args.world.now c.args.armed.now c.args.row.now).tokens c.args.user.now
      c.in-Some.p0 c.as_slice.result.now c.in_ok-e0.e0 c.in_ok-p1.p1 c.in_ok-opened_e0.field-0 c.halves_hold.result
      c.in_ok-e0.ensures.same c.in_ok-p1.ensures.same c.in_ok-opened_e0.ensures.same c.in-Some.is c.as_slice.ensures.same c.halves_hold.ensures.decided;
}
