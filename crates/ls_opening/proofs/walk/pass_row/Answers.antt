use Rattle.std.proofs.Common.{◌∙◌}
use Rattle.ls_opening.proofs.WalkLemmas.{whole_row}
use Rattle.ls_opening.proofs.walk.pass_row.Goals as goal

pub returns : goal.returns
returns g c = record {
  sees = whole_row (g.B.Board.sight c.args.board.now) (g.B.Board.sight c.with_version.new.board) (g.B.Board.sight c.pass_files.new.board) c.args.walk c.in_ok-walk.walk c.pass_files.result
      c.args.weaver c.args.armed.now c.args.row.now c.as_slice.result.now (c.as_slice.ensures.same ∙ c.in_ok-names.ensures.same) c.in_ok-walk.ensures.sees c.pass_files.ensures.sees;
}
