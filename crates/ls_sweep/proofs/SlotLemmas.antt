-- Fewer numbers than the count leave one below it out.
use Rattle.std.proofs.Common.{◌≡◌, ◌≢◌, ◌≤◌, ◌<◌, ◌||◌, not, ℕ, zero, suc, Bool, true, false, cond, eqb, List, [], ◌∷◌, length, refl, sym, ◌∙◌, ap, arith}
use Rattle.std.proofs.lemmas.Bool.{eqb-true, ne_eqb}
use Rattle.ls_arming.specs.Numbers.{contains, without_number}
use Rattle.ls_sweep.specs.FreshIds.{AreTakenBelow}

-- another number stays
other_contained : (ns : List ℕ) (d e : ℕ) → e ≢ d → contains (without_number ns d) e ≡ contains ns e
other_contained [] d e differ = refl
other_contained (n ∷ ns) d e differ = by_number (eqb n d) refl (other_contained ns d e differ)
  where
    by_number : (b : Bool) → eqb n d ≡ b → contains (without_number ns d) e ≡ contains ns e
        → contains (cond (not b) (n ∷ without_number ns d) (without_number ns d)) e ≡ (eqb n e || contains ns e)
    by_number true is rest =
        rest ∙ sym (ap (λ b. b || contains ns e) (ne_eqb n e (λ same. differ (sym same ∙ eqb-true n d is))))
    by_number false is rest = ap (λ b. eqb n e || b) rest

shorter : (ns : List ℕ) (d : ℕ) → length (without_number ns d) ≤ length ns
shorter [] d = omega arith
shorter (n ∷ ns) d = by_number (eqb n d) (shorter ns d)
  where
    by_number : (b : Bool) → length (without_number ns d) ≤ length ns → length (cond (not b) (n ∷ without_number ns d) (without_number ns d)) ≤ length (n ∷ ns)
    by_number true rest = omega (arith, rest)
    by_number false rest = omega (arith, rest)

one_less : (ns : List ℕ) (d : ℕ) → contains ns d ≡ true → length (without_number ns d) < length ns
one_less [] d is = absurd (cc)
one_less (n ∷ ns) d is = by_number (eqb n d) is (shorter ns d) (λ rest. one_less ns d rest)
  where
    by_number : (b : Bool) → (b || contains ns d) ≡ true → length (without_number ns d) ≤ length ns → (contains ns d ≡ true → length (without_number ns d) < length ns)
        → length (cond (not b) (n ∷ without_number ns d) (without_number ns d)) < length (n ∷ ns)
    by_number true is le rest = omega (arith, le)
    by_number false is le rest = let h = rest is in omega (arith, h)

pub as_many_taken : (count : ℕ) (taken : List ℕ) → AreTakenBelow count taken → count ≤ length taken
as_many_taken zero taken all = omega arith
as_many_taken (suc n) taken all =
    let less = one_less taken n (all n (omega arith)) in
    let rest = as_many_taken n (without_number taken n)
    (λ k below. other_contained taken n k (λ same. omega (arith, same, below)) ∙ all k (omega (arith, below))) in
    omega (arith, less, rest)
