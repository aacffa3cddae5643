use Rattle.std.proofs.Common.{Result, Ok, subst}
use Rattle.std.proofs.lemmas.Result.{err_from_is_err_and}
use Rattle.ls_script.specs.declared.reply.Revealed.{Revealed}
use Rattle.ls_resume.specs.declared.fault.FileFault.{FileFault}
use Rattle.ls_resume.proofs.TellLemmas.{TellsOne, tell_failed, tell_lacks, tell_stops, tell_next, tell_skips}
use Rattle.ls_resume.proofs.revealing.+reveal_rows.Goals as goal

pub returns-in_default : goal.returns-in_default
returns-in_default g t c = record {
  passes = tell_skips c.args.rows.now c.args.told (g.B.Board.sight c.args.board.now) c.args.secrets.now c.first-item.result (g.B.Board.sight c.reveal_rows.new.board) c.reveal_rows.result c.in-len1-up.len_at_least c.first-item.is
      c.in_default.ensures.same c.reveal_rows.ensures.passes;
}

pub returns-in_err-fault-in-len1-up : goal.returns-in_err-fault-in-len1-up
returns-in_err-fault-in-len1-up g t c = record {
  passes =
      let p = err_from_is_err_and c.from_residual.result c.from_residual.ensures.1 in
      rw (p.1, p.2) (tell_failed c.args.rows.now c.args.told (g.B.Board.sight c.args.board.now) c.args.secrets.now c.first-item.result c.in-Some.row.now (g.B.Board.sight c.reveal_one.new.board) c.in_err-fault-in-len1-up.field-0.0
      c.in-len1-up.len_at_least c.first-item.is c.in-Some.ensures.same c.in_err-fault-in-len1-up.ensures.passes);
}

pub returns-in_err-push-in-Ok : goal.returns-in_err-push-in-Ok
returns-in_err-push-in-Ok g t c = record {
  passes =
      let p = err_from_is_err_and c.from_residual-in_err-push-in-Ok.result c.from_residual-in_err-push-in-Ok.ensures.1 in
      rw (p.1, p.2) (tell_lacks c.args.rows.now c.args.told (g.B.Board.sight c.args.board.now) c.args.secrets.now c.first-item.result c.in-Some.row.now (g.B.Board.sight c.reveal_one.new.board) c.in_ok-fault-in-len1-up.field-0
      c.in-len1-up.len_at_least c.first-item.is c.in-Some.ensures.same c.in_ok-fault-in-len1-up.ensures.passes);
}

pub returns-in-Err : goal.returns-in-Err
returns-in-Err g t c = record {
  passes =
      let old = g.B.Board.sight c.args.board.now in
      let mid = g.B.Board.sight c.reveal_one.new.board in
      tell_stops c.args.rows.now c.args.told old c.args.secrets.now c.first-item.result c.in-Some.row.now mid c.in-Err.fault c.in-len1-up.len_at_least c.first-item.is c.in-Some.ensures.same
      (subst (λ (x : Result Revealed FileFault). TellsOne c.args.rows.now c.in-Some.row.now c.first-item.result old (Ok x) mid) c.in-Err.is c.in_ok-fault-in-len1-up.ensures.passes);
}

pub returns-in_ok-push-in-Ok : goal.returns-in_ok-push-in-Ok
returns-in_ok-push-in-Ok g t c = record {
  passes =
      let old = g.B.Board.sight c.args.board.now in
      let mid = g.B.Board.sight c.reveal_one.new.board in
      tell_next c.args.rows.now c.args.told old c.args.secrets.now c.first-item.result c.in-Some.row.now mid (g.B.Board.sight c.reveal_rows-in-Ok.new.board) c.in-Ok.one c.push.new.self c.reveal_rows-in-Ok.result
      c.in-len1-up.len_at_least c.first-item.is c.in-Some.ensures.same
      (subst (λ (x : Result Revealed FileFault). TellsOne c.args.rows.now c.in-Some.row.now c.first-item.result old (Ok x) mid) c.in-Ok.is c.in_ok-fault-in-len1-up.ensures.passes)
      c.in_ok-push-in-Ok.ensures.put c.reveal_rows-in-Ok.ensures.passes;
}
