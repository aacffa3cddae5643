use Rattle.std.proofs.Common.{◌≡◌, ◌<◌, ◌^◌, true, ℕ, List, length, sym, subst, ap, ◌∙◌}
use Rattle.ls_record.specs.Rows.{is_protector_id}
use Rattle.ls_sweep.specs.FreshIds.{fresh_even}
use Rattle.ls_placing.proofs.NumberLemmas.{fresh_is_protectors, fresh_is_free}
use Rattle.ls_placing.proofs.ids.protector_id.Goals as goal

pub returns-clause-rule : goal.returns-clause-rule
returns-clause-rule c =
    let few : length c.args.taken.now < 2 ^ 32 = subst (λ (n : ℕ). n < 2 ^ 32) c.len-few.ensures.count c.len-few.type_inv in
    subst (λ (n : ℕ). is_protector_id n ≡ true) (sym (c.fresh_protector_id.ensures.same ∙ ap (λ (l : List ℕ). fresh_even c.read_u64.result l) c.as_slice.ensures.same)) (fresh_is_protectors c.read_u64.result c.args.taken.now few)

pub returns-clause-free : goal.returns-clause-free
returns-clause-free c = λ id has same.
    let few : length c.args.taken.now < 2 ^ 32 = subst (λ (n : ℕ). n < 2 ^ 32) c.len-few.ensures.count c.len-few.type_inv in
    fresh_is_free c.read_u64.result c.args.taken.now few id has (same ∙ (c.fresh_protector_id.ensures.same ∙ ap (λ (l : List ℕ). fresh_even c.read_u64.result l) c.as_slice.ensures.same))
