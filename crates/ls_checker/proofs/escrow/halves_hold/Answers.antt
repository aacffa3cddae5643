use Rattle.std.proofs.Common.{arith}
use Rattle.std.specs.Prelude.{IsTrue}
use Rattle.ls_checker.proofs.DecisionLemmas.{odd_some}
use Rattle.ls_checker.proofs.StandingLemmas.{halves_decided}
use Rattle.ls_checker.proofs.escrow.halves_hold.Goals as goal

pub seal_all-requires : goal.seal_all-requires
seal_all-requires c = rw c.as_slice-ids.ensures.same (odd_some c.args.row.now.tokens c.requires.tokens)

pub returns : goal.returns
returns c =
    let completes : IsTrue c.in_ok-completes.field-0 = grind (arith, c.if-not-branch.false) in
    record {
      decided = halves_decided c.args.world.now c.args.row.now c.args.user.now c.args.p0.now c.args.p1.now c.as_slice-ids.result.now c.as_slice.result.now c.seal_all.result
          c.as_slice-ids.ensures.same c.as_slice.ensures.same (c.in_ok-completes.ensures.decided.0 completes) c.seal_all.ensures.decided;
    }
