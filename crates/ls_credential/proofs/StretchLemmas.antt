-- The longest stretch, step by step and from each byte on.
use Rattle.std.proofs.Common.{◌≡◌, ℕ, ◌+◌, ◌≤◌, ◌<◌, Bool, true, false, ◌||◌, List, [], ◌∷◌, ◌++◌, length, take, drop, get_or, ◌-◌, map, filter, max, if◌then◌else◌, refl, sym, ap, ◌∙◌, arith}
use Rattle.std.proofs.lemmas.List.Elements.{filter-append}
use Rattle.std.proofs.lemmas.Grind.{common_steps}
use Rattle.ls_credential.specs.declared.stretch.Step.{Step}
use Rattle.ls_credential.specs.declared.stretch.Step.TheVariants.{Down, Level, Up}
use Rattle.ls_credential.specs.Stretches.{follows, is_stretch_of, fronts, parts, greatest_length, run_of}

-- the longest stretch of one step among the texts
abbrev pub longest_of : Step → List (List ℕ) → ℕ
longest_of step texts = greatest_length (filter (is_stretch_of step) texts)

pub greatest_length-append : (a b : List (List ℕ)) → greatest_length (a ++ b) ≡ max (greatest_length a) (greatest_length b)
greatest_length-append [] b = omega arith
greatest_length-append (text ∷ a) b = let ih = greatest_length-append a b in omega arith

-- what one or the other test lets through
pub greatest_length-or : (p q : List ℕ → Bool) (texts : List (List ℕ))
    → greatest_length (filter (λ t. p t || q t) texts) ≡ max (greatest_length (filter p texts)) (greatest_length (filter q texts))
greatest_length-or p q [] = refl
greatest_length-or p q (text ∷ texts) = greatest_or (p text) (q text) text _ _ _ (greatest_length-or p q texts)
  where
    greatest_or : (a b : Bool) (text : List ℕ) (r s t : List (List ℕ)) → greatest_length r ≡ max (greatest_length s) (greatest_length t)
        → greatest_length (if a || b then text ∷ r else r) ≡ max (greatest_length (if a then text ∷ s else s)) (greatest_length (if b then text ∷ t else t))
    greatest_or true true text r s t e = omega (arith, e)
    greatest_or true false text r s t e = omega (arith, e)
    greatest_or false true text r s t e = omega (arith, e)
    greatest_or false false text r s t e = e

-- the text without its first byte, as a slice pattern gives it
abbrev pub rest_of : List ℕ → List ℕ
rest_of text = take (length text - 1) (drop 1 text)

rest_is : (b : ℕ) (text : List ℕ) → rest_of (b ∷ text) ≡ text
rest_is b text = grind (arith, common_steps)

-- ---- the stretch that a text begins with

-- one byte more before texts that begin with a byte which follows it
before_each : (step : Step) (b c : ℕ) (texts : List (List ℕ)) → follows step b c ≡ true
    → max 1 (longest_of step (map (λ t. b ∷ t) (map (λ t. c ∷ t) texts))) ≡ 1 + longest_of step (map (λ t. c ∷ t) texts)
before_each step b c [] e = refl
before_each step b c (text ∷ texts) e = rw e (one_more (is_stretch_of step (c ∷ text)) _ _ (before_each step b c texts e))
  where
    one_more : (a : Bool) (r s : List (List ℕ)) → max 1 (greatest_length r) ≡ 1 + greatest_length s
        → max 1 (greatest_length (if a then (b ∷ c ∷ text) ∷ r else r)) ≡ 1 + greatest_length (if a then (c ∷ text) ∷ s else s)
    one_more true r s h = omega (arith, h)
    one_more false r s h = h

-- before texts that begin with another byte there is none
none_before : (step : Step) (b c : ℕ) (texts : List (List ℕ)) → follows step b c ≡ false
    → longest_of step (map (λ t. b ∷ t) (map (λ t. c ∷ t) texts)) ≡ 0
none_before step b c [] e = refl
none_before step b c (text ∷ texts) e = rw e (none_before step b c texts e)

pub front_of_one : (step : Step) (text : List ℕ) → 1 ≤ length text → length text < 2 → longest_of step (fronts text) ≡ 1
front_of_one step [] low high = absurd (omega arith)
front_of_one step (b ∷ []) low high = refl
front_of_one step (b ∷ c ∷ text) low high = absurd (omega arith)

pub front_goes_on : (step : Step) (text : List ℕ) → 2 ≤ length text → follows step (get_or text 0 0) (get_or (rest_of text) 0 0) ≡ true
    → 1 + longest_of step (fronts (rest_of text)) ≡ longest_of step (fronts text)
front_goes_on step [] low e = absurd (omega arith)
front_goes_on step (b ∷ []) low e = absurd (omega arith)
front_goes_on step (b ∷ c ∷ text) low e =
    let one = before_each step b c (fronts text) (rw (rest_is b (c ∷ text)) at e) in
    rw (rest_is b (c ∷ text)) (omega (arith, one))

pub front_stops : (step : Step) (text : List ℕ) → 2 ≤ length text → follows step (get_or text 0 0) (get_or (rest_of text) 0 0) ≡ false
    → longest_of step (fronts text) ≡ 1
front_stops step [] low e = absurd (omega arith)
front_stops step (b ∷ []) low e = absurd (omega arith)
front_stops step (b ∷ c ∷ text) low e =
    let none = none_before step b c (fronts text) (rw (rest_is b (c ∷ text)) at e) in
    omega (arith, none)

-- ---- the stretches from each byte on

pub longest_goes_on : (step : Step) (text : List ℕ) → 1 ≤ length text
    → max (longest_of step (fronts text)) (longest_of step (parts (rest_of text))) ≡ longest_of step (parts text)
longest_goes_on step [] low = absurd (omega arith)
longest_goes_on step (b ∷ text) low =
    rw (rest_is b text) (sym (ap greatest_length (filter-append (is_stretch_of step) (fronts (b ∷ text)) (parts text))
    ∙ greatest_length-append (filter (is_stretch_of step) (fronts (b ∷ text))) (filter (is_stretch_of step) (parts text))))

pub longest_of_any : (text : List ℕ) → run_of text ≡ max (max (longest_of Down (parts text)) (longest_of Level (parts text))) (longest_of Up (parts text))
unfolding run_of
longest_of_any text =
    let outer = greatest_length-or (is_stretch_of Down) (λ t. is_stretch_of Level t || is_stretch_of Up t) (parts text) in
    let inner = greatest_length-or (is_stretch_of Level) (is_stretch_of Up) (parts text) in
    omega arith
