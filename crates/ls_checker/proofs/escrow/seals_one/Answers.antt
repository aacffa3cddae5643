use Rattle.std.proofs.Common.{List, ℕ, subst}
use Rattle.std.specs.Prelude.{◌↔◌, IsTrue, IfOk}
use Rattle.ls_sealing.specs.Protectors.{Held, held}
use Rattle.ls_sealing.specs.Seals.{SealsToken}
use Rattle.ls_standing.specs.Named.{token_of}
use Rattle.ls_checker.proofs.escrow.seals_one.Goals as goal

pub returns : goal.returns
returns c =
    let decides : Held → List ℕ → Type 0 = λ h bytes. IfOk c.seals_token.result (λ seals. IsTrue seals ↔
    SealsToken h c.args.p1.now bytes c.args.secret.now c.args.p0.now) in
    record {
      decided = subst (λ (bytes : List ℕ). decides (held c.args.world.now (token_of c.args.row.now c.args.id)) bytes) c.as_slice.ensures.same
          (subst (λ (h : Held). decides h c.as_slice.result.now) c.in_ok-held.ensures.held c.seals_token.ensures.decided);
    }
