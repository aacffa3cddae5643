-- What is found in a table whose rows all pass a test of their keys.
use Rattle.std.proofs.Common.{◌≡◌, ◌<◌, ◌≤◌, zero, suc, Bool, true, false, cond, List, [], ◌∷◌, ℕ, Option, None, Some, length, refl, sym, ap, subst, ◌∙◌, arith, ⊎_elim}
use Rattle.std.specs.Prelude.{◌↔◌, IsTrue, IfSome}
use Rattle.std.specs.Ordering.{eq_by_cmp}
use Rattle.std.specs.Cmp.{IsTotalOrder}
use Rattle.std.specs.declared.cmp.Ordering.{Ordering}
use Rattle.std.specs.FinMap.Entries.{find}
use Rattle.std.proofs.lemmas.Bool.{cases_lt}
use Rattle.std.proofs.lemmas.Cmp.{eq_by_cmp_equiv}
use Rattle.std.proofs.lemmas.Option.{slice_get_past}
use Rattle.std.proofs.lemmas.Map.Lookups.{CmpEqualImpliesEq}
use Rattle.ls_board.proofs.LookupLemmas.{equal}
use Rattle.ls_checker.specs.BareRows.{HasKeyAt}

-- ---- keys that are found

module _ {K X : Type 0} (order : K → K → Ordering) where
  -- a key that is found has P where each row's has
  pub found_passes : CmpEqualImpliesEq order → (P : K → Type 0) (rows : List (K × X)) → ((at : ℕ) → HasKeyAt P rows at)
      → (key : K) (x : X) → find order key rows ≡ Some x → P key
  found_passes exact P [] all key x found = absurd (cc)
  found_passes exact P (row ∷ rows) all key x found = elim (eq_by_cmp order key row.0) as (λ b. eq_by_cmp order key row.0 ≡ b → cond b (Some row.1) (find order key rows) ≡ Some x → P key) [
    | true ↦ λ is it. subst P (sym (exact key row.0 (equal _ is))) (all zero)
    | false ↦ λ is it. found_passes exact P rows (λ at. all (suc at)) key x it
  ] refl found

  none_found : CmpEqualImpliesEq order → (Q : K → Type 0) (rows : List (K × X)) → ((at : ℕ) → HasKeyAt (λ k. ¬ Q k) rows at)
      → (key : K) → Q key → find order key rows ≡ None
  none_found exact Q rows all key is = elim (find order key rows) as (λ o. find order key rows ≡ o → o ≡ None) [
    | None ↦ λ e. refl
    | Some x ↦ λ e. absurd (found_passes exact (λ k. ¬ Q k) rows all key x e is)
  ] refl

  -- a key that isn't found stands in no row
  none_there : IsTotalOrder order → (Q : K → Type 0) (rows : List (K × X)) → ((key : K) → Q key → find order key rows ≡ None)
      → (at : ℕ) → HasKeyAt (λ k. ¬ Q k) rows at
  none_there total Q [] none at = tt
  none_there total Q (row ∷ rows) none zero = λ is.
      let e : cond true (Some row.1) (find order row.0 rows) ≡ None = ap (λ (b : Bool). cond b (Some row.1) (find order row.0 rows)) (sym ((eq_by_cmp_equiv total).refl row.0)) ∙ none row.0 is in
      absurd (cc)
  none_there total Q (row ∷ rows) none (suc at) = none_there total Q rows (λ key is. elim (eq_by_cmp order key row.0) as (λ b. cond b (Some row.1) (find order key rows) ≡ None → find order key rows ≡ None) [
    | true ↦ λ e. absurd (cc)
    | false ↦ λ e. e
  ] (none key is)) at

-- ---- rows that are gone over

module _ {K X : Type 0} (P : K → Type 0) (rows : List (K × X)) where
  -- where all rows have passed, no place has one that fails
  pub all_passed : (at : ℕ) → length rows ≤ at → ((k : ℕ) → k < at → HasKeyAt P rows k) → (k : ℕ) → HasKeyAt P rows k
  all_passed at end below k = ⊎_elim (λ less. below k less) (λ past. subst (λ (o : Option (K × X)). IfSome o (λ row. P row.0)) (sym (slice_get_past rows k (omega (arith, past, end)))) tt) (cases_lt k at)

  -- one that fails is enough
  pub one_fails : (at : ℕ) (b : Bool) → IsTrue b ↔ HasKeyAt P rows at → b ≡ false → ((k : ℕ) → HasKeyAt P rows k) → IsTrue false
  one_fails at b decided fails all = subst IsTrue fails (decided.1 (all at))

-- A table is gone over as far as the first row whose key has Q. None with Q is found exactly where
-- there is no such row.
module _ {K X : Type 0} (order : K → K → Ordering) (total : IsTotalOrder order) (exact : CmpEqualImpliesEq order) (Q : K → Type 0) (rows : List (K × X)) where
  abbrev NoneFound : Type 0
  NoneFound = (key : K) → Q key → find order key rows ≡ None

  abbrev MayBeAt : ℕ → Type 0
  MayBeAt = HasKeyAt (λ k. ¬ Q k) rows

  pub gone_over : (at : ℕ) → length rows ≤ at → ((k : ℕ) → k < at → MayBeAt k) → IsTrue true ↔ NoneFound
  gone_over at end below = (λ _. none_found order exact Q rows (all_passed (λ k. ¬ Q k) rows at end below), λ _. refl)

  pub stopped_at : (at : ℕ) (b : Bool) → IsTrue b ↔ MayBeAt at → b ≡ false → IsTrue false ↔ NoneFound
  stopped_at at b decided fails = (λ never. absurd (cc), λ none. one_fails (λ k. ¬ Q k) rows at b decided fails (none_there order total Q rows none))
