use Rattle.std.proofs.Common.{Some}
use Rattle.std.proofs.lemmas.Result.{err_from_is_err_and}
use Rattle.ls_board.specs.declared.action.Action.TheVariants.{ResumeTake}
use Rattle.ls_resume.specs.Each.{each_of, found_behind}
use Rattle.ls_resume.specs.Resuming.{read_of, armed_end}
use Rattle.ls_resume.proofs.LearnLemmas.{a_taking, learn_stops}
use Rattle.ls_resume.proofs.ResumeLemmas.{arming_learns}
use Rattle.ls_resume.proofs.resuming.resume_armed.Goals as goal

pub returns-in_err-found-clause-learns : goal.returns-in_err-found-clause-learns
returns-in_err-found-clause-learns g c =
    let p = err_from_is_err_and c.from_residual.result c.from_residual.ensures.1 in
    rw (p.1, p.2) (learn_stops (Some ResumeTake) a_taking (λ w. found_behind c.new.result (each_of (read_of c.args.rows.now w) c.as_slice-users.result.now)) (armed_end c.args.rows.now c.args.boot (Some c.args.armed.now))
    (g.B.Board.sight c.args.board.now) (g.B.Board.sight c.read_users.new.board) c.in_err-found.field-0.0 c.in_err-found.ensures.learns)

pub returns-clause-learns : goal.returns-clause-learns
returns-clause-learns g c = arming_learns c.args.rows.now c.args.armed.now c.args.boot c.as_slice-users.result.now c.new.result
    (g.B.Board.sight c.args.board.now) (g.B.Board.sight c.read_users.new.board) (g.B.Board.sight c.take_and_open.new.board) c.in_ok-found.found c.take_and_open.result
    c.as_slice-users.ensures.same c.new.ensures.none c.in_ok-found.ensures.learns c.take_and_open.ensures.learns
