use Rattle.std.proofs.Common.{◌≡◌, ltb, ◌∙◌, ap}
use Rattle.std.specs.List.{insert, prefix_len}
use Rattle.ls_vault.proofs.InsertLemmas.{user_inserted}
use Rattle.ls_vault.proofs.users.add_user.Goals as goal

pub returns : goal.returns
returns c =
    let seen : c.deref.result.now ≡ c.args.users.now = c.deref.ensures.value ∙ c.users.view_is in
    record {
      same = c.in_ok-insert.ensures.put
          ∙ (ap (λ k. insert c.args.users.now k c.args.user) (c.smaller_front-at.ensures.count ∙ ap (λ us. prefix_len (λ v. ltb v.number c.args.user.number) us) seen)
          ∙ user_inserted c.args.users.now c.args.user);
    }
