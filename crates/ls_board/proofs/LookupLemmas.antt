-- What is found in a table after a change of one row.
use Rattle.std.proofs.Common.{◌≡◌, ◌≢◌, Bool, true, false, not, cond, List, None, Some, refl, sym, ◌∙◌, ap}
use Rattle.std.specs.Ordering.{eq_by_cmp, is_eq}
use Rattle.std.specs.Cmp.{IsTotalOrder, IsEquivalence}
use Rattle.std.specs.declared.cmp.Ordering.{Ordering}
use Rattle.std.specs.declared.cmp.Ordering.TheVariants.{Less, Equal, Greater}
use Rattle.std.specs.FinMap.Entries.{find, put, find-put, find-where_key}
use Rattle.std.proofs.lemmas.Cmp.{eq_by_cmp_equiv}
use Rattle.std.proofs.lemmas.Map.Lookups.{CmpEqualImpliesEq}
use Rattle.ls_board.specs.Order.{without}

pub equal : (r : Ordering) → is_eq r ≡ true → r ≡ Equal
equal Less e = absurd (cc)
equal Equal e = refl
equal Greater e = absurd (cc)

module _ {K : Type 0} (order : K → K → Ordering) (total : IsTotalOrder order) where
  pub same_key : (k : K) → eq_by_cmp order k k ≡ true
  same_key k = (eq_by_cmp_equiv total).refl k

  pub find_without : {X : Type 0} (rows : List (K × X)) (k q : K) → find order q (without order k rows) ≡ cond (eq_by_cmp order q k) None (find order q rows)
  find_without {X = X} rows k q =
      find-where_key order (λ m. not (eq_by_cmp order k m)) q (λ x e. ap not (sym (congr x e))) rows ∙ turned (eq_by_cmp order k q) (eq_by_cmp order q k) (laws.symm k q)
    where
      laws : IsEquivalence (eq_by_cmp order)
      laws = eq_by_cmp_equiv total

      congr : (x : K) → order q x ≡ Equal → eq_by_cmp order k q ≡ eq_by_cmp order k x
      congr x e = laws.symm k q ∙ laws.congr q x k (ap is_eq e) ∙ laws.symm x k

      turned : (a b : Bool) → a ≡ b → cond (not a) (find order q rows) None ≡ cond b None (find order q rows)
      turned true true e = refl
      turned false false e = refl
      turned true false e = absurd (cc)
      turned false true e = absurd (cc)

  pub put_same : {X : Type 0} (rows : List (K × X)) (k : K) (v : X) → find order k (put order k v rows) ≡ Some v
  put_same rows k v = find-put order total k k v rows ∙ ap (λ (b : Bool). cond b (Some v) (find order k rows)) (same_key k)

  pub without_same : {X : Type 0} (rows : List (K × X)) (k : K) → find order k (without order k rows) ≡ None
  without_same rows k = find_without rows k k ∙ ap (λ (b : Bool). cond b None (find order k rows)) (same_key k)

  module _ (exact : CmpEqualImpliesEq order) where
    pub other_key : (k m : K) → k ≢ m → eq_by_cmp order k m ≡ false
    other_key k m apart = elim (eq_by_cmp order k m) as (λ b. eq_by_cmp order k m ≡ b → b ≡ false) [
      | true ↦ λ e. absurd (apart (exact k m (equal _ e)))
      | false ↦ λ e. refl
    ] refl

    pub put_other : {X : Type 0} (rows : List (K × X)) (k q : K) (v : X) → q ≢ k → find order q (put order k v rows) ≡ find order q rows
    put_other rows k q v apart = find-put order total q k v rows ∙ ap (λ (b : Bool). cond b (Some v) (find order q rows)) (other_key q k apart)

    pub without_other : {X : Type 0} (rows : List (K × X)) (k q : K) → q ≢ k → find order q (without order k rows) ≡ find order q rows
    without_other rows k q apart = find_without rows k q ∙ ap (λ (b : Bool). cond b None (find order q rows)) (other_key q k apart)
