use Rattle.std.proofs.Common.{◌≡◌, None, Result, Ok, IfOk, subst}
use Rattle.ls_resume.specs.declared.fault.FileFault.{FileFault}
use Rattle.ls_resume.specs.declared.secrets.SecretRow.{SecretRow}
use Rattle.ls_resume.specs.Learning.{Learns}
use Rattle.ls_resume.specs.Resuming.{open_of}
use Rattle.ls_resume.specs.Secrets.{users_of}
use Rattle.ls_resume.proofs.AscendingLemmas.{next_above}
use Rattle.ls_resume.proofs.EachLemmas.{each_next}
use Rattle.ls_resume.proofs.opening.+open_users.Goals as goal

pub with_secret-requires : goal.with_secret-requires
with_secret-requires g t c = record {
  ascending = next_above (users_of c.args.rows) c.args.found.now c.first-item.result c.in-Ok.row.user c.in-len1-up.len_at_least c.first-item.is
      (subst (λ (x : Result SecretRow FileFault). IfOk x (λ row. row.user ≡ c.first-item.result.user)) c.in-Ok.is c.in_ok-fault-in-len1-up.ensures.user) c.requires.ascending;
}

pub returns-in_ok-rows-in-Ok-clause-learns : goal.returns-in_ok-rows-in-Ok-clause-learns
returns-in_ok-rows-in-Ok-clause-learns g t c =
    let old = g.B.Board.sight c.args.board.now in
    let mid = g.B.Board.sight c.open_user.new.board in
    let first = c.first-item.result in
    each_next (open_of c.args.once.now) c.args.found.now c.args.rows old mid (g.B.Board.sight c.open_users.new.board) first c.in-Ok.row c.in_ok-rows-in-Ok.rows c.open_users.result
    c.in-len1-up.len_at_least c.first-item.is
    (subst (λ (x : Result SecretRow FileFault). Learns None (λ w. open_of c.args.once.now w first) old (Ok x) mid) c.in-Ok.is c.in_ok-fault-in-len1-up.ensures.learns)
    c.in_ok-rows-in-Ok.ensures.put c.open_users.ensures.learns
