use Rattle.std.proofs.Common.{◌∙◌, ap}
use Rattle.ls_record.specs.Rows.{Rec}
use Rattle.ls_resume.proofs.TellLemmas.{tell_all}
use Rattle.ls_resume.proofs.revealing.reveal_resumed.Goals as goal

pub returns : goal.returns
returns g c = record {
  passes = tell_all c.as_slice.result.now c.args.rec.now.users c.as_slice-2.result.now c.args.secrets.now c.new-told.result (g.B.Board.sight c.args.board.now) (g.B.Board.sight c.reveal_rows.new.board) c.reveal_rows.result
      (c.as_slice.ensures.same ∙ ap (λ (r : Rec). r.users) c.rec.view_is) c.as_slice-2.ensures.same c.new-told.ensures.none c.reveal_rows.ensures.passes;
}
