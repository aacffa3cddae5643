use Rattle.std.proofs.Common.{drop, length, List}
use Rattle.ls_tidying.specs.Tidying.{SaysNot}
use Rattle.ls_tidying.proofs.BehindLemmas.{tidies_then}
use Rattle.ls_tidying.proofs.TidyingLemmas.{nothing_left}
use Rattle.ls_turn.specs.Agreeing.{retired_files}
use Rattle.ls_activating.proofs.FreeingLemmas.{files_in, fewer_more, none_more}
use Rattle.ls_activating.proofs.ListLemmas.{by_first, others}
use Rattle.ls_activating.proofs.freeing.+tidy_each.Goals as goal

pub returns-in-empty-clause-only : goal.returns-in-empty-clause-only
returns-in-empty-clause-only g t c = nothing_left {T = Unit {0}} (g.B.Board.sight c.args.board.now) c.args.x.now tt c.requires.can

pub returns-in-Ok-clause-only : goal.returns-in-Ok-clause-only
returns-in-Ok-clause-only g t c =
    tidies_then (g.B.Board.sight c.args.board.now) (g.B.Board.sight c.tidy_id.new.board) (g.B.Board.sight c.tidy_each.new.board) {S = Unit {0}} c.args.x.now c.tidy_id.new.x c.tidy_each.new.x tt
    (c.in-Ok.ensures.only c.requires.can.going) {T = Unit {0}} c.tidy_each.result c.tidy_each.ensures.only

pub returns-in-Ok-clause-none : goal.returns-in-Ok-clause-none
returns-in-Ok-clause-none g t c =
    none_more (retired_files c.tidy_id.new.x) (retired_files c.tidy_each.new.x) c.one-item.result (others c.args.tokens.now) c.args.tokens.now
    (by_first c.args.tokens.now c.one-item.result _ c.in-len1-up.len_at_least c.one-item.is) c.in-Ok.ensures.gone c.tidy_each.result c.tidy_each.ensures.fewer c.tidy_each.ensures.none

pub returns-in-Ok-clause-fewer : goal.returns-in-Ok-clause-fewer
returns-in-Ok-clause-fewer g t c =
    fewer_more c.tidy_each.result (retired_files c.args.x.now) (retired_files c.tidy_id.new.x) (retired_files c.tidy_each.new.x)
    (files_in (SaysNot c.one-item.result.id) c.args.x.now.retired.items c.tidy_id.new.x.retired.items c.in-Ok.ensures.left) c.tidy_each.ensures.fewer
