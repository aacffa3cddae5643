-- The counts of a credential that keeps its rule are small.
use Rattle.std.proofs.Common.{◌≡◌, ◌≤◌, ◌+◌, ◌||◌, not, ℕ, Bool, true, false, cond, List, [], ◌∷◌, ◌++◌, length, map, filter, max, None, refl, arith}
use Rattle.std.specs.Prelude.{count_by}
use Rattle.std.proofs.lemmas.Bool.Decides.{nat_tests}
use Rattle.std.proofs.lemmas.List.Sums.{sum_by-cons}
use Rattle.ls_credential.specs.Counts.{IsSmall, is_upper, is_lower, is_digit, metrics_of}
use Rattle.ls_credential.specs.Rules.{KindAndText, fault_of}
use Rattle.ls_credential.specs.Stretches.{fronts, parts, is_stretch, greatest_length, run_of}
use Rattle.ls_credential.proofs.RuleLemmas.{at_most_16}

-- ---- classes

-- a byte is of one class at most
at_most_one : (b : ℕ) → cond (is_upper b) 1 0 + cond (is_lower b) 1 0 + cond (is_digit b) 1 0 + cond (not (is_upper b || (is_lower b || is_digit b))) 1 0 ≤ 1
at_most_one b = by (is_upper b) (is_lower b) (is_digit b) (λ u l. grind (arith, nat_tests)) (λ u d. grind (arith, nat_tests)) (λ l d. grind (arith, nat_tests))
  where
    by : (u l d : Bool) → (u ≡ true → l ≡ true → ⊥) → (u ≡ true → d ≡ true → ⊥) → (l ≡ true → d ≡ true → ⊥) → cond u 1 0 + cond l 1 0 + cond d 1 0 + cond (not (u || (l || d))) 1 0 ≤ 1
    by true true d ul ud ld = absurd (ul refl refl)
    by true false true ul ud ld = absurd (ud refl refl)
    by true false false ul ud ld = omega arith
    by false true true ul ud ld = absurd (ld refl refl)
    by false true false ul ud ld = omega arith
    by false false true ul ud ld = omega arith
    by false false false ul ud ld = omega arith

-- of none of the others
abbrev is_symbol : ℕ → Bool
is_symbol b = not (is_upper b || (is_lower b || is_digit b))

one_more : (test : ℕ → Bool) (b : ℕ) (text : List ℕ) → count_by test (b ∷ text) ≡ cond (test b) 1 0 + count_by test text
one_more test b text = sum_by-cons (λ x. cond (test x) 1 0) b text

counted : (text : List ℕ) → count_by is_upper text + count_by is_lower text + count_by is_digit text + count_by is_symbol text ≤ length text
counted [] = omega arith
counted (b ∷ text) =
    let here = at_most_one b in
    let later = counted text in
    rw (one_more is_upper b text, one_more is_lower b text, one_more is_digit b text, one_more is_symbol b text) (omega (arith, here, later))

-- ---- stretches

kept : (p : List ℕ → Bool) (texts : List (List ℕ)) → greatest_length (filter p texts) ≤ greatest_length texts
kept p [] = omega arith
kept p (text ∷ texts) = by (p text) (filter p texts) (kept p texts)
  where
    by : (b : Bool) (some : List (List ℕ)) → greatest_length some ≤ greatest_length texts → greatest_length (cond b (text ∷ some) some) ≤ max (length text) (greatest_length texts)
    by true some less = omega (arith, less)
    by false some less = omega (arith, less)

joined : (a b : List (List ℕ)) → greatest_length (a ++ b) ≤ max (greatest_length a) (greatest_length b)
joined [] b = omega arith
joined (text ∷ a) b = let later = joined a b in omega (arith, later)

begun : (b : ℕ) (texts : List (List ℕ)) → greatest_length (map (λ (front : List ℕ). b ∷ front) texts) ≤ 1 + greatest_length texts
begun b [] = omega arith
begun b (text ∷ texts) = let later = begun b texts in omega (arith, later)

fronts_fit : (text : List ℕ) → greatest_length (fronts text) ≤ length text
fronts_fit [] = omega arith
fronts_fit (b ∷ text) = let here = begun b (fronts text) in let later = fronts_fit text in omega (arith, here, later)

parts_fit : (text : List ℕ) → greatest_length (parts text) ≤ length text
parts_fit [] = omega arith
parts_fit (b ∷ text) =
    let both = joined (fronts (b ∷ text)) (parts text) in
    let here = fronts_fit (b ∷ text) in
    let later = parts_fit text in
    omega (arith, both, here, later)

run_fits : (text : List ℕ) → run_of text ≤ length text
unfolding run_of
run_fits text = let some = kept is_stretch (parts text) in let all = parts_fit text in omega (arith, some, all)

-- ---- the counts

pub counts_are_small : (c : KindAndText) → fault_of c.kind c.text ≡ None → IsSmall (metrics_of c)
counts_are_small c keeps =
    let m = metrics_of c in
    let most : m.length ≤ 16 = at_most_16 c.kind c.text keeps in
    let all : m.upper + m.lower + m.numeric + m.symbols ≤ m.length = counted c.text in
    let run : m.run ≤ m.length = run_fits c.text in
    small m.upper m.lower m.numeric m.symbols m.length m.run most all run
  where
    small : (u l d s n run : ℕ) → n ≤ 16 → u + l + d + s ≤ n → run ≤ n
        → IsSmall (record { kind = c.kind; length = n; letters = u + l; upper = u; lower = l; numeric = d; symbols = s; non_letter = d + s; non_numeric = (u + l) + s; run = run })
    small u l d s n run most all fits = record {
      length = most;
      letters = omega (arith, most, all);
      upper = omega (arith, most, all);
      lower = omega (arith, most, all);
      numeric = omega (arith, most, all);
      symbols = omega (arith, most, all);
      non_letter = omega (arith, most, all);
      non_numeric = omega (arith, most, all);
      run = omega (arith, most, fits);
    }
