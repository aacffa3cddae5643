use Rattle.std.proofs.Common.{◌≡◌, ◌%◌, ℕ, true, false, sym, subst, arith}
use Rattle.std.proofs.lemmas.Bool.{eq-eqb}
use Rattle.ls_arming.specs.Numbers.{contains}
use Rattle.ls_promises.proofs.FreshLemmas.{fresh_odd, fresh_free}
use Rattle.ls_record.specs.Rows.{is_odd}
use Rattle.ls_vault.specs.Fresh.{fresh}
use Rattle.ls_tokens.proofs.fresh.id_by.Goals as goal

pub returns-clause-odd : goal.returns-clause-odd
returns-clause-odd c =
    let d = c.read_u64.result in
    let taken = c.args.taken.now in
    subst (λ (n : ℕ). is_odd n ≡ true) (sym c.fresh_token_id.ensures.same)
    (eq-eqb (fresh d taken % 2) 1 (fresh_odd d taken (omega (arith, c.read_u64.type_inv))))

pub returns-clause-free : goal.returns-clause-free
returns-clause-free c =
    let d = c.read_u64.result in
    let taken = c.args.taken.now in
    subst (λ (n : ℕ). contains taken n ≡ false) (sym c.fresh_token_id.ensures.same)
    (fresh_free d taken (omega (arith, c.type_inv)))
