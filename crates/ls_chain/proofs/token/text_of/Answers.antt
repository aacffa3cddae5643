use Rattle.std.proofs.Common.{◌≡◌, List, ℕ, Option, Some, Ok, Err, refl, sym, subst, rules}
use Rattle.std.proofs.lemmas.Result.{err_from_is_err_and}
use Rattle.ls_chain.specs.declared.token.TokenEnd.{TokenEnd}
use Rattle.ls_chain.specs.declared.token.TokenEnd.TheVariants.{Opened}
use Rattle.ls_chain.specs.Links.{links_at}
use Rattle.ls_chain.specs.Looking.{Looks}
use Rattle.ls_chain.specs.Tokens.{completed_in, text_of_half}
use Rattle.ls_chain.proofs.LookLemmas.{look_err, look_gives}
use Rattle.ls_chain.proofs.token.text_of.Goals as goal

pub returns-in_err-completed : goal.returns-in_err-completed
returns-in_err-completed g c =
    let old = g.B.Board.sight c.args.board.now in
    let new = g.B.Board.sight c.completed.new.board in
    let p = err_from_is_err_and c.from_residual.result c.from_residual.ensures.1 in
    let is : c.args.half.now ≡ Some c.as_slice.result.now = search rules in
    rw (p.1, p.2) (record {
      looks = subst (λ (o : Option (List ℕ)). Looks {T = TokenEnd} (λ w. text_of_half (links_at w c.args.user c.args.id) c.args.version o) old (Err c.in_err-completed.field-0.0) new) (sym is)
          (look_err (λ w. completed_in (links_at w c.args.user 0) c.args.version c.as_slice.result.now) old new (λ s w. Ok (Opened s)) c.in_err-completed.field-0.0 c.in_err-completed.ensures.looks);
    })

pub returns : goal.returns
returns g c =
    let old = g.B.Board.sight c.args.board.now in
    let new = g.B.Board.sight c.completed.new.board in
    let is : c.args.half.now ≡ Some c.as_slice.result.now = search rules in
    record {
      looks = subst (λ (o : Option (List ℕ)). Looks {T = TokenEnd} (λ w. text_of_half (links_at w c.args.user c.args.id) c.args.version o) old (Ok (Opened c.in_ok-completed.field-0)) new) (sym is)
          (look_gives (λ w. completed_in (links_at w c.args.user 0) c.args.version c.as_slice.result.now) old new (λ s w. Ok (Opened s)) c.in_ok-completed.field-0 (Ok (Opened c.in_ok-completed.field-0))
          c.in_ok-completed.ensures.looks (λ w. refl));
    }
