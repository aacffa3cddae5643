use Rattle.std.proofs.Common.{arith, length, List, ap}
use Rattle.ls_formats.specs.declared.parts.Parts.{Parts}
use Rattle.ls_tidying.proofs.BehindLemmas.{tidies_then}
use Rattle.ls_tidying.proofs.TidyingLemmas.{nothing_left}
use Rattle.ls_tidying.proofs.IdLemmas.{decides_names, is_past, is_there, left_none, on_skip, on_clear, less_without}
use Rattle.ls_tidying.proofs.by_id.+tidy_from.Goals as goal

pub returns-then-is_past : goal.returns-then-is_past
returns-then-is_past g t c = record {
  only = nothing_left {T = Unit {0}} (g.B.Board.sight c.args.board.now) c.args.x.now tt c.requires.can;
  left = left_none c.args.id c.args.x.now.retired.items c.args.i (is_past c.deref.result.now c.args.x.now.retired.items c.args.i c.is_past.result c.deref.ensures.value c.if-is_past.true c.is_past.ensures.decided);
}

pub tidy_from-requires : goal.tidy_from-requires
tidy_from-requires g t c = λ κs le.
    let there = is_there c.deref.result.now c.args.x.now.retired.items c.args.i c.is_past.result c.deref.ensures.value c.if-is_past.false c.is_past.ensures.decided in
    (omega (arith, there, c.decreases), (le, c.requires.can))

pub returns-then-not-says_id-clause-left : goal.returns-then-not-says_id-clause-left
returns-then-not-says_id-clause-left g t c =
    let there = is_there c.deref.result.now c.args.x.now.retired.items c.args.i c.is_past.result c.deref.ensures.value c.if-is_past.false c.is_past.ensures.decided in
    on_skip c.tidy_from.result c.args.id c.index.result.now c.index.result.now c.args.x.now.retired.items c.tidy_from.new.x.retired.items c.args.i there c.index.ensures c.says_id.result
    (decides_names c.says_id.result c.as_slice.result.now c.parts.result.now c.index.result.now c.args.id c.as_slice.ensures.same c.parts.ensures.same c.says_id.ensures.decided) _ (omega arith) c.if-not-says_id.true c.tidy_from.ensures.left

pub tidy_from-requires-in-Ok : goal.tidy_from-requires-in-Ok
tidy_from-requires-in-Ok g t c = λ κs le.
    let there = is_there c.deref.result.now c.args.x.now.retired.items c.args.i c.is_past.result c.deref.ensures.value c.if-is_past.false c.is_past.ensures.decided in
    let less = less_without c.args.x.now.retired.items c.args.i there in
    let left = ap (λ (l : List Parts). length l) c.in-Ok.ensures.left in
    (omega (arith, there, less, left, c.decreases), (le, c.in-Ok.ensures.only.can))

pub returns-in-Ok-clause-only : goal.returns-in-Ok-clause-only
returns-in-Ok-clause-only g t c =
    tidies_then (g.B.Board.sight c.args.board.now) (g.B.Board.sight c.clear_at.new.board) (g.B.Board.sight c.tidy_from-in-Ok.new.board) {S = Unit {0}} c.args.x.now c.clear_at.new.x c.tidy_from-in-Ok.new.x tt
    c.in-Ok.ensures.only {T = Unit {0}} c.tidy_from-in-Ok.result c.tidy_from-in-Ok.ensures.only

pub returns-in-Ok-clause-left : goal.returns-in-Ok-clause-left
returns-in-Ok-clause-left g t c =
    let there = is_there c.deref.result.now c.args.x.now.retired.items c.args.i c.is_past.result c.deref.ensures.value c.if-is_past.false c.is_past.ensures.decided in
    on_clear c.tidy_from-in-Ok.result c.args.id c.index.result.now c.index.result.now c.args.x.now.retired.items c.tidy_from-in-Ok.new.x.retired.items c.args.i there c.index.ensures c.says_id.result
    (decides_names c.says_id.result c.as_slice.result.now c.parts.result.now c.index.result.now c.args.id c.as_slice.ensures.same c.parts.ensures.same c.says_id.ensures.decided) c.clear_at.new.x.retired.items c.in-Ok.ensures.left c.if-not-says_id.false c.tidy_from-in-Ok.ensures.left
