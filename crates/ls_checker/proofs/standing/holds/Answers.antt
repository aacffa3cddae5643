use Rattle.std.proofs.Common.{arith, sym, ap, ◌∙◌}
use Rattle.std.specs.Prelude.{IsTrue}
use Rattle.ls_record.specs.Rows.{Rec}
use Rattle.ls_standing.specs.Standing.{kept_arming}
use Rattle.ls_checker.proofs.StandingLemmas.{users_decided}
use Rattle.ls_checker.proofs.standing.holds.Goals as goal

pub returns-in-None : goal.returns-in-None
returns-in-None c =
    let armed : IsTrue c.is_arming_of.result = grind (arith, c.if-not-is_arming_of.false) in
    let same = ap (λ (r : Rec). r.armed) c.holder.view_is in
    let arming = ap (λ (r : Rec). kept_arming r.armed c.args.world.now.cell) c.holder.view_is in
    record {
      decided = users_decided c.args.world.now c.args.holder.now c.args.vault.now c.as_slice.result.now c.as_slice-in-None.result.now c.holder.inside.armed c.holds_users.result
          (sym c.in_ok-first_foreign.ensures.exact ∙ c.in-None.is) (c.is_arming_of.ensures.decided.0 armed ∙ arming)
          (c.as_slice.ensures.same ∙ ap (λ (r : Rec). r.users) c.holder.view_is) c.as_slice-in-None.ensures.same same c.holds_users.ensures.decided;
    }
