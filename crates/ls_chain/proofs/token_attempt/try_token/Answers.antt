use Rattle.std.proofs.Common.{Bool, IsTrue, sym, subst}
use Rattle.ls_chain.specs.declared.token.TokenEnd.{TokenEnd}
use Rattle.ls_chain.specs.declared.token.TokenFiles.{TokenFiles}
use Rattle.std.proofs.lemmas.Result.{err_from_is_err_and}
use Rattle.ls_chain.specs.Links.{links_at}
use Rattle.ls_chain.specs.Tokens.{token_files}
use Rattle.ls_chain.specs.TokenAttempts.{token_action, token_files_end}
use Rattle.ls_chain.proofs.MetLemmas.{met_behind, met_fault}
use Rattle.ls_chain.proofs.MayTryLemmas.{asked_err, asked_both}
use Rattle.ls_chain.proofs.TokenAttemptLemmas.{token_devices}
use Rattle.ls_chain.proofs.token_attempt.try_token.Goals as goal

pub returns-in_err-files-clause-tries : goal.returns-in_err-files-clause-tries
returns-in_err-files-clause-tries g c =
    let p = err_from_is_err_and c.from_residual.result c.from_residual.ensures.1 in
    rw (p.1, p.2) (asked_err (λ w. token_files (links_at w c.args.user c.args.id) c.args.weaver) (g.B.Board.sight c.args.board.now) (g.B.Board.sight c.read_token.new.board)
    (token_action c.args.slot) (token_devices c.args.slot) (token_files_end c.args.user c.args.id c.args.slot c.args.token.now) c.in_err-files.field-0.0 c.in_err-files.ensures.looks)

pub returns-in_err-files-clause-met : goal.returns-in_err-files-clause-met
returns-in_err-files-clause-met g c = λ told.
    let p = err_from_is_err_and c.from_residual.result c.from_residual.ensures.1 in
    rw (p.1, p.2) (met_fault TokenFiles TokenEnd (g.B.Board.sight c.args.board.now) (g.B.Board.sight c.read_token.new.board) c.in_err-files.field-0.0 c.in_err-files.ensures.met told)

pub returns-clause-tries : goal.returns-clause-tries
returns-clause-tries g c =
    asked_both (λ w. token_files (links_at w c.args.user c.args.id) c.args.weaver) (g.B.Board.sight c.args.board.now) (g.B.Board.sight c.read_token.new.board)
    (token_action c.args.slot) (token_devices c.args.slot) (token_files_end c.args.user c.args.id c.args.slot c.args.token.now) (g.B.Board.sight c.try_files.new.board) c.in_ok-files.files c.try_files.result c.in_ok-files.ensures.looks c.try_files.ensures.tries

pub returns-clause-met : goal.returns-clause-met
returns-clause-met g c = λ told.
    met_behind (g.B.Board.sight c.args.board.now) (g.B.Board.sight c.read_token.new.board) (g.B.Board.sight c.try_files.new.board) c.in_ok-files.files c.try_files.result (token_action c.args.slot c.in_ok-files.files)
    c.in_ok-files.ensures.met (λ told. c.try_files.ensures.tries.calls (subst (λ (b : Bool). IsTrue b) (sym c.in_ok-files.ensures.looks.keeps.told) told)) told
