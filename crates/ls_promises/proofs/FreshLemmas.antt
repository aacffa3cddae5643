-- The search for a number that isn't taken ends, and finds the first.
use Rattle.std.proofs.Common.{◌≡◌, ◌≢◌, ◌≤◌, ◌<◌, ◌+◌, ◌*◌, ◌/◌, ◌%◌, ◌^◌, ℕ, zero, suc, Bool, true, false, not, cond, eqb, List, [], ◌∷◌, length, refl, sym, ◌∙◌, ap, subst, arith}
use Rattle.std.specs.Prelude.{◌||◌}
use Rattle.ls_promises.proofs.Lookups.{eqb_is, not_eqb}
use Rattle.ls_promises.specs.FreshNumbers.{step_from, IsFirstFree}
use Rattle.ls_vault.specs.Fresh.{odd, first_free, fresh}
use Rattle.ls_vault.proofs.FreshLemmas.{free_here, free_step, free_last}
use Rattle.ls_arming.specs.Numbers.{contains, without_number}

abbrev next : ℕ → ℕ
next d = (d + 2) % 2 ^ 64

-- ---- numbers modulo 2^64

from_start : (d : ℕ) → d < 2 ^ 64 → step_from d 0 ≡ d
from_start d small = omega (arith, small)

next_step : (d m : ℕ) → next (step_from d m) ≡ step_from d (m + 1)
next_step d m = omega arith

step_next : (d m : ℕ) → step_from (next d) m ≡ step_from d (m + 1)
step_next d m = omega arith

-- fewer than 2^63 steps don't lead back
not_back : (d m : ℕ) → 0 < m → m < 2 ^ 63 → step_from d m ≢ d
not_back d m some few same = omega (arith, some, few, same)

next_small : (d : ℕ) → next d < 2 ^ 64
next_small d = omega arith

-- ---- without one number

pub other_contained : (ns : List ℕ) (d e : ℕ) → e ≢ d → contains (without_number ns d) e ≡ contains ns e
other_contained [] d e differ = refl
other_contained (n ∷ ns) d e differ = by_number (eqb n d) refl (other_contained ns d e differ)
  where
    by_number : (b : Bool) → eqb n d ≡ b → contains (without_number ns d) e ≡ contains ns e
        → contains (cond (not b) (n ∷ without_number ns d) (without_number ns d)) e ≡ (eqb n e || contains ns e)
    by_number true is rest =
        rest ∙ sym (ap (λ b. b || contains ns e) (not_eqb n e (λ same. differ (sym same ∙ eqb_is n d is))))
    by_number false is rest = ap (λ b. eqb n e || b) rest

shorter : (ns : List ℕ) (d : ℕ) → length (without_number ns d) ≤ length ns
shorter [] d = omega arith
shorter (n ∷ ns) d = by_number (eqb n d) (shorter ns d)
  where
    by_number : (b : Bool) → length (without_number ns d) ≤ length ns → length (cond (not b) (n ∷ without_number ns d) (without_number ns d)) ≤ length (n ∷ ns)
    by_number true rest = omega (arith, rest)
    by_number false rest = omega (arith, rest)

pub one_less : (ns : List ℕ) (d : ℕ) → contains ns d ≡ true → length (without_number ns d) < length ns
one_less [] d is = absurd (cc)
one_less (n ∷ ns) d is = by_number (eqb n d) is (shorter ns d) (λ rest. one_less ns d rest)
  where
    by_number : (b : Bool) → (b || contains ns d) ≡ true → length (without_number ns d) ≤ length ns → (contains ns d ≡ true → length (without_number ns d) < length ns)
        → length (cond (not b) (n ∷ without_number ns d) (without_number ns d)) < length (n ∷ ns)
    by_number true is le rest = omega (arith, le)
    by_number false is le rest = let h = rest is in omega (arith, h)

-- ---- the search

-- a search that doesn't lead back to d doesn't ask whether d is taken
same_free : (k m d : ℕ) (taken : List ℕ) → 0 < m → m + k ≤ 2 ^ 63 → first_free k (step_from d m) taken ≡ first_free k (step_from d m) (without_number taken d)
same_free zero m d taken some few = free_last 0 (step_from d m) taken refl ∙ sym (free_last 0 (step_from d m) (without_number taken d) refl)
same_free (suc k) m d taken some few =
    let less : m < 2 ^ 63 = omega (arith, few) in
    by_test (contains taken (step_from d m)) refl (other_contained taken d (step_from d m) (not_back d m some less))
    (same_free k (m + 1) d taken (omega arith) (omega (arith, few)))
  where
    by_test : (b : Bool) → contains taken (step_from d m) ≡ b → contains (without_number taken d) (step_from d m) ≡ contains taken (step_from d m)
        → first_free k (step_from d (m + 1)) taken ≡ first_free k (step_from d (m + 1)) (without_number taken d)
        → first_free (suc k) (step_from d m) taken ≡ first_free (suc k) (step_from d m) (without_number taken d)
    by_test true is same rest =
        free_step (suc k) k (step_from d m) taken refl is
        ∙ (ap (λ e. first_free k e taken) (next_step d m)
        ∙ (rest
        ∙ (sym (ap (λ e. first_free k e (without_number taken d)) (next_step d m))
        ∙ sym (free_step (suc k) k (step_from d m) (without_number taken d) refl (same ∙ is)))))
    by_test false is same rest = free_here (suc k) (step_from d m) taken is ∙ sym (free_here (suc k) (step_from d m) (without_number taken d) (same ∙ is))

-- how far it goes
pub record Goes (k d : ℕ) (taken : List ℕ) : Type 0 where
  pub steps : ℕ
  pub few : steps ≤ k
  pub reached : first_free k d taken ≡ step_from d steps
  pub before : (j : ℕ) → j < steps → contains taken (step_from d j) ≡ true

goes : (k d : ℕ) (taken : List ℕ) → d < 2 ^ 64 → Goes k d taken
goes zero d taken small = record { steps = 0; few = omega arith; reached = free_last 0 d taken refl ∙ sym (from_start d small); before = λ j less. absurd (omega (arith, less)) }
goes (suc k) d taken small = by_test (contains taken d) refl (goes k (next d) taken (next_small d))
  where
    earlier : (h : Goes k (next d) taken) → contains taken d ≡ true → (j : ℕ) → j < h.steps + 1 → contains taken (step_from d j) ≡ true
    earlier h is zero less = ap (contains taken) (from_start d small) ∙ is
    earlier h is (suc j) less =
        let e : step_from (next d) j ≡ step_from d (suc j) = omega arith in
        ap (contains taken) (sym e) ∙ h.before j (omega (arith, less))

    by_test : (b : Bool) → contains taken d ≡ b → Goes k (next d) taken → Goes (suc k) d taken
    by_test true is h = record {
      steps = h.steps + 1;
      few = omega (arith, h.few);
      reached = free_step (suc k) k d taken refl is ∙ (h.reached ∙ step_next d h.steps);
      before = earlier h is;
    }
    by_test false is h = record {
      steps = 0;
      few = omega arith;
      reached = free_here (suc k) d taken is ∙ sym (from_start d small);
      before = λ j less. absurd (omega (arith, less));
    }

-- with as many steps as numbers are taken it finds one that isn't
pub found_free : (k d : ℕ) (taken : List ℕ) → length taken ≤ k → k < 2 ^ 63 → contains taken (first_free k d taken) ≡ false
found_free zero d [] all few = refl
found_free zero d (n ∷ taken) all few = absurd (omega (arith, all))
found_free (suc k) d taken all few = by_test (contains taken d) refl (λ less. found_free k (next d) (without_number taken d) less (omega (arith, few)))
  where
    by_test : (b : Bool) → contains taken d ≡ b
        → (length (without_number taken d) ≤ k → contains (without_number taken d) (first_free k (next d) (without_number taken d)) ≡ false)
        → contains taken (first_free (suc k) d taken) ≡ false
    by_test false is rest = ap (contains taken) (free_here (suc k) d taken is) ∙ is
    by_test true is rest =
        let less = one_less taken d is in
        let start : step_from d 1 ≡ next d = omega arith in
        let same : first_free k (next d) taken ≡ first_free k (next d) (without_number taken d) =
        subst (λ e. first_free k e taken ≡ first_free k e (without_number taken d)) start (same_free k 1 d taken (omega arith) (omega (arith, few))) in
        let way = goes k (next d) (without_number taken d) (next_small d) in
        let other : first_free k (next d) (without_number taken d) ≢ d =
        λ back. not_back d (way.steps + 1) (omega arith) (omega (arith, way.few, few)) (sym (step_next d way.steps) ∙ (sym way.reached ∙ back)) in
        ap (contains taken) (free_step (suc k) k d taken refl is ∙ same)
        ∙ (sym (other_contained taken d (first_free k (next d) (without_number taken d)) other) ∙ rest (omega (arith, less, all)))

odd_small : (d : ℕ) → d < 2 ^ 64 → odd d < 2 ^ 64
odd_small d small = omega (arith, small)

pub fresh_first : (d : ℕ) (taken : List ℕ) → d < 2 ^ 64 → length taken < 2 ^ 63 → IsFirstFree (odd d) taken (fresh d taken)
fresh_first d taken small few =
    let way = goes (length taken) (odd d) taken (odd_small d small) in
    record {
      steps = way.steps;
      reached = way.reached;
      before = way.before;
      free = found_free (length taken) (odd d) taken (omega arith) few;
    }

pub fresh_odd : (d : ℕ) (taken : List ℕ) → d < 2 ^ 64 → fresh d taken % 2 ≡ 1
fresh_odd d taken small =
    let way = goes (length taken) (odd d) taken (odd_small d small) in
    ap (λ n. n % 2) way.reached ∙ stays_odd (d / 2) way.steps
  where
    stays_odd : (h m : ℕ) → step_from (2 * h + 1) m % 2 ≡ 1
    stays_odd h m = omega arith

pub fresh_small : (d : ℕ) (taken : List ℕ) → d < 2 ^ 64 → fresh d taken < 2 ^ 64
fresh_small d taken small =
    let way = goes (length taken) (odd d) taken (odd_small d small) in
    subst (λ n. n < 2 ^ 64) (sym way.reached) (below (odd d) way.steps)
  where
    below : (e m : ℕ) → step_from e m < 2 ^ 64
    below e m = omega arith

-- it isn't taken
pub fresh_free : (d : ℕ) (taken : List ℕ) → length taken < 2 ^ 63 → contains taken (fresh d taken) ≡ false
fresh_free d taken few = found_free (length taken) (odd d) taken (omega arith) few
