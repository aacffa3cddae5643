use Rattle.std.proofs.Common.{refl, sym, ap, ◌∙◌}
use Rattle.ls_record.specs.Rows.{Rec}
use Rattle.ls_turn.proofs.PerformLemmas.{too_heavy}
use Rattle.ls_rebooting.specs.Ending.{unarming}
use Rattle.ls_rebooting.proofs.EndingLemmas.{none_serves}
use Rattle.ls_rebooting.proofs.ending.end_arming.Goals as goal

pub returns-in_default-clause-serves : goal.returns-in_default-clause-serves
returns-in_default-clause-serves g c =
    none_serves (g.B.Board.sight c.args.board.now) c.args.x.now c.requires.can
    (sym (ap (λ (r : Rec). r.armed) c.record.ensures.same) ∙ sym (ap (λ (r : Rec). r.armed) c.behind-x.view_is) ∙ c.in_default.is)

pub returns-in_default-clear_work-clause-serves : goal.returns-in_default-clear_work-clause-serves
returns-in_default-clear_work-clause-serves g c = too_heavy (g.B.Board.sight c.args.board.now) c.args.x.now _ unarming refl refl refl
