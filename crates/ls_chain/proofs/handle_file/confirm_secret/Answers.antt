use Rattle.std.proofs.Common.{ℕ, List, subst}
use Rattle.ls_board.specs.Gatekeeper.{verify_answer}
use Rattle.ls_board.specs.declared.action.Action.TheVariants.{GkVerify}
use Rattle.ls_chain.specs.Trying.{Tries}
use Rattle.ls_chain.specs.HandleFile.{confirmed_by}
use Rattle.ls_chain.proofs.handle_file.confirm_secret.Goals as goal

pub returns : goal.returns
returns g c = record {
  tries = subst (λ (k : List ℕ). Tries (GkVerify c.args.handle.now k 0) (λ w. confirmed_by c.args.secure (verify_answer w.gk_key w.gk c.args.handle.now k 0)) (g.B.Board.sight c.args.board.now) c.confirm.result (g.B.Board.sight c.confirm.new.board))
      c.in_ok-password.ensures.same c.confirm.ensures.tries;
}
