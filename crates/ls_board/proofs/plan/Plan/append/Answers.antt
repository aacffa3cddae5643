use Rattle.std.proofs.Common.{ap, arith, length-append, length}
use Rattle.std.specs.List.{sum_by}
use Rattle.std.proofs.lemmas.List.Sums.{sum_by-append}
use Rattle.ls_board.specs.Effect.{weight_of}
use Rattle.ls_board.proofs.RunLemmas.{planned_append}
use Rattle.ls_board.proofs.plan.Plan.append.Goals as goal

pub invariant_of-self-2 : goal.invariant_of-self-2
invariant_of-self-2 c =
    let old = c.self.inside.actions.items in
    let more = c.other.inside.actions.items in
    let items = c.in_ok-append.ensures.items in (
      rw items (planned_append _ _ c.self.invariant.0 c.other.invariant.0),
      omega (arith, ap length items, length-append old more),
      omega (arith, c.in-Some.ensures, c.self.invariant.2, c.other.invariant.2, ap (sum_by weight_of) items, sum_by-append weight_of old more),
    )
