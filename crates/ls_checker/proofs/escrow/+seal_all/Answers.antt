use Rattle.std.proofs.Common.{get_or, arith}
use Rattle.std.specs.Prelude.{IsTrue}
use Rattle.ls_unsealing.proofs.SealsLemmas.{decided_by}
use Rattle.ls_sealing.specs.Protectors.{held}
use Rattle.ls_sealing.specs.Seals.{SealsToken}
use Rattle.ls_standing.specs.Named.{token_of}
use Rattle.ls_checker.proofs.ZipLemmas.{zip_next, first_at}
use Rattle.ls_checker.proofs.escrow.+seal_all.Goals as goal

pub returns : goal.returns
returns t c =
    let first : IsTrue c.in_ok-seals_one.field-0 = grind (arith, c.if-not-branch.false) in
    record {
      decided = decided_by c.seal_all.result
          (zip_next (λ id t. SealsToken (held c.args.world.now (token_of c.args.row.now id)) c.args.p1.now t.bytes c.args.secret.now c.args.p0.now) c.args.ids.now c.args.tokens.now (get_or c.args.ids.now 0 0) c.token-item.result
          c.in-len1-up.len_at_least c.in-len1-up-tokens.len_at_least (first_at c.args.ids.now c.in-len1-up.len_at_least) c.token-item.is (c.in_ok-seals_one.ensures.decided.0 first))
          c.seal_all.ensures.decided;
    }
