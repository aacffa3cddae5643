use Rattle.ls_tidying.proofs.StepLemmas.{none_there, some_there, step_none}
use Rattle.ls_tidying.proofs.tidying.step.Goals as goal

pub returns-then-none_left : goal.returns-then-none_left
returns-then-none_left g c = record {
  tidies = step_none (g.B.Board.sight c.args.board.now) c.args.x.now c.requires.can (none_there c.deref.result.now c.args.x.now.retired.items c.none_left.result c.deref.ensures.value c.if-none_left.true c.none_left.ensures.same);
}

pub step_at-requires-clause-there : goal.step_at-requires-clause-there
step_at-requires-clause-there g c = some_there c.deref.result.now c.args.x.now.retired.items c.none_left.result c.deref.ensures.value c.if-none_left.false c.none_left.ensures.same
