-- Numbers that a list contains, and that a list of different ones isn't longer than one that has them all.
use Rattle.std.proofs.Common.{◌≡◌, ◌≢◌, ◌≤◌, ◌+◌, ◌%◌, ◌^◌, ◌<◌, not, ℕ, zero, suc, Bool, true, false, cond, List, [], ◌∷◌, length, refl, sym, ◌∙◌, ap, subst, arith}
use Rattle.std.specs.Prelude.{◌==◌, ◌&&◌}
use Rattle.std.specs.List.{Contains}
use Rattle.std.proofs.lemmas.Bool.{eq-eqb, ne_eqb}
use Rattle.ls_arming.specs.Numbers.{contains, without_number}
use Rattle.ls_promises.proofs.FreshLemmas.{other_contained, one_less, found_free}
use Rattle.ls_record.specs.Rows.{Pairs, is_protector_id}
use Rattle.ls_standing.proofs.ContainsLemmas.{at_first, behind_first, any_contained}
use Rattle.ls_standing.proofs.PairLemmas.{each_in}
use Rattle.ls_sweep.specs.FreshIds.{even, fresh_even}
use Rattle.ls_vault.specs.Fresh.{first_free}

pub contained : (ns : List ℕ) (n : ℕ) → Contains ns n → contains ns n ≡ true
contained ns n has = any_contained (λ m. m == n) ns n has (eq-eqb n n refl)

pub not_contained : (ns : List ℕ) (n : ℕ) → contains ns n ≡ false → ¬ Contains ns n
not_contained ns n is has = let both : true ≡ false = sym (contained ns n has) ∙ is in cc

-- numbers that differ, each of which is one of these
pub no_more : (ns ms : List ℕ) → Pairs (λ a b. a ≢ b) ns → ((n : ℕ) → Contains ns n → contains ms n ≡ true) → length ns ≤ length ms
no_more [] ms differ all = omega arith
no_more (n ∷ ns) ms differ all =
    let rest = no_more ns (without_number ms n) differ.1
    (λ m has. other_contained ms n m (λ same. each_in (λ b. n ≢ b) ns m differ.0 has (sym same)) ∙ all m (behind_first n ns m has)) in
    let less = one_less ms n (all n (at_first n ns)) in
    omega (arith, rest, less)

-- ---- a fresh even number

even_free : (k d : ℕ) (taken : List ℕ) → d % 2 ≡ 0 → first_free k d taken % 2 ≡ 0
unfolding first_free
even_free zero d taken is = is
even_free (suc k) d taken is = by (contains taken d) (even_free k ((d + 2) % 2 ^ 64) taken (omega (arith, is)))
  where
    by : (b : Bool) → first_free k ((d + 2) % 2 ^ 64) taken % 2 ≡ 0 → cond b (first_free k ((d + 2) % 2 ^ 64) taken) d % 2 ≡ 0
    by true rest = rest
    by false rest = is

module _ (d : ℕ) (taken : List ℕ) (few : length taken < 2 ^ 32) where
  abbrev id : ℕ
  id = fresh_even d taken

  apart_from_all : contains (0 ∷ taken) id ≡ false
  apart_from_all = found_free (length taken + 1) (even d) (0 ∷ taken) (omega arith) (omega (arith, few))

  pub fresh_is_free : (other : ℕ) → Contains taken other → other ≢ id
  fresh_is_free other has same = not_contained (0 ∷ taken) id apart_from_all (subst (Contains (0 ∷ taken)) same (behind_first 0 taken other has))

  pub fresh_is_some : id ≢ 0
  fresh_is_some none = not_contained (0 ∷ taken) id apart_from_all (subst (Contains (0 ∷ taken)) (sym none) (at_first 0 taken))

  pub fresh_is_protectors : is_protector_id id ≡ true
  fresh_is_protectors =
      let halves : id % 2 ≡ 0 = even_free (length taken + 1) (even d) (0 ∷ taken) (omega arith) in
      ap (λ (b : Bool). b && not (id == 0)) (eq-eqb (id % 2) 0 halves) ∙ ap (λ (b : Bool). not b) (ne_eqb id 0 fresh_is_some)
