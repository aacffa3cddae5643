use Rattle.std.proofs.Common.{arith}
use Rattle.std.specs.Prelude.{IsTrue}
use Rattle.ls_unsealing.proofs.SealsLemmas.{decided_by}
use Rattle.ls_standing.specs.Named.{held_of_row}
use Rattle.ls_standing.specs.Standing.{HoldsUser}
use Rattle.ls_checker.proofs.ZipLemmas.{zip_next}
use Rattle.ls_checker.proofs.user.+holds_users.Goals as goal

pub returns : goal.returns
returns t c =
    let first : IsTrue c.in_ok-holds_user.field-0 = grind (arith, c.if-not-branch.false) in
    record {
      decided = decided_by c.holds_users.result
          (zip_next (λ row u. HoldsUser row (held_of_row c.args.world.now c.args.armed.now row) u) c.args.rows.now c.args.users.now c.row-item.result c.user-item.result
          c.in-len1-up.len_at_least c.in-len1-up-users.len_at_least c.row-item.is c.user-item.is (c.in_ok-holds_user.ensures.decided.0 first))
          c.holds_users.ensures.decided;
    }
