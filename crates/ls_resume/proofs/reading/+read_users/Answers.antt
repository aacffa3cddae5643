use Rattle.std.proofs.Common.{◌≡◌, get_or, None, Result, Ok, IfOk, subst}
use Rattle.ls_resume.specs.declared.fault.FileFault.{FileFault}
use Rattle.ls_resume.specs.declared.reading.Found.{Found}
use Rattle.ls_resume.specs.Learning.{Learns}
use Rattle.ls_resume.specs.Resuming.{read_of}
use Rattle.ls_resume.proofs.AscendingLemmas.{all_users_read}
use Rattle.ls_resume.proofs.EachLemmas.{each_next, first_at}
use Rattle.ls_resume.proofs.reading.+read_users.Goals as goal

pub returns-in_ok-found-in-Ok-clause-learns : goal.returns-in_ok-found-in-Ok-clause-learns
returns-in_ok-found-in-Ok-clause-learns g t c =
    let old = g.B.Board.sight c.args.board.now in
    let mid = g.B.Board.sight c.read_user.new.board in
    let user = get_or c.args.users.now 0 0 in
    each_next (read_of c.args.rows.now) c.args.users.now c.args.found old mid (g.B.Board.sight c.read_users.new.board) user c.in-Ok.files c.in_ok-found-in-Ok.found c.read_users.result
    c.in-len1-up.len_at_least (first_at c.args.users.now c.in-len1-up.len_at_least)
    (subst (λ (x : Result Found FileFault). Learns None (λ w. read_of c.args.rows.now w user) old (Ok x) mid) c.in-Ok.is c.in_ok-fault-in-len1-up.ensures.learns)
    c.in_ok-found-in-Ok.ensures.put c.read_users.ensures.learns

pub returns-in_ok-found-in-Ok-clause-users : goal.returns-in_ok-found-in-Ok-clause-users
returns-in_ok-found-in-Ok-clause-users g t c =
    let user = get_or c.args.users.now 0 0 in
    all_users_read c.args.found c.in_ok-found-in-Ok.found c.in-Ok.files c.args.users.now user c.in-len1-up.len_at_least (first_at c.args.users.now c.in-len1-up.len_at_least)
    (subst (λ (x : Result Found FileFault). IfOk x (λ found. found.user ≡ user)) c.in-Ok.is c.in_ok-fault-in-len1-up.ensures.user)
    c.in_ok-found-in-Ok.ensures.put c.read_users.result c.read_users.ensures.users
