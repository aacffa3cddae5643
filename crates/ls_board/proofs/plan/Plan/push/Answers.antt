use Rattle.std.proofs.Common.{◌∙◌, ◌++◌, List, ap, arith, length-append, [], ◌∷◌, length}
use Rattle.std.specs.List.{sum_by}
use Rattle.std.proofs.lemmas.List.Sums.{sum_by-append, sum_by-cons}
use Rattle.ls_board.specs.declared.action.Action.{Action}
use Rattle.ls_board.specs.Effect.{weight_of}
use Rattle.ls_board.proofs.RunLemmas.{planned_push}
use Rattle.ls_board.proofs.plan.Plan.push.Goals as goal

pub invariant_of-self-2 : goal.invariant_of-self-2
invariant_of-self-2 c =
    let old = c.self.inside.actions.items in
    let items = c.push_reserved.ensures.items ∙ ap (λ (l : List Action). l ++ c.args.a ∷ []) c.reserve.ensures.items in (
      rw items (planned_push _ _ c.self.invariant.0 c.requires.planned),
      omega (arith, ap length items, length-append old (c.args.a ∷ [])),
      omega (arith, c.in-Some.ensures, c.weight.ensures.bytes, c.self.invariant.2, ap (sum_by weight_of) items, sum_by-append weight_of old (c.args.a ∷ []), sum_by-cons weight_of c.args.a []),
    )
