-- A number of 32 bits.
use Rattle.std.proofs.Common.{◌≡◌, ℕ, zero, suc, ◌+◌, ◌-◌, ◌*◌, ◌^◌, ◌<◌, ◌≤◌, ◌≢◌, true, false, List, [], ◌∷◌, ◌++◌, length, get_or, Ok, Err, refl, sym, ap, subst, ◌∙◌, append_assoc, arith, inl, inr, length-append}
use Rattle.std.specs.Prelude.{nat_lt, ◌&&◌, ◌==◌}
use Rattle.std.specs.Char.{is_ascii_digit, digit_value}
use Rattle.std.specs.Fmt.{decimal}
use Rattle.std.specs.Str.Parse.{AllDigits, digits_value}
use Rattle.std.proofs.lemmas.Bool.{cases_Bool, cases_lt, cases_eq, false≢true}
use Rattle.std.proofs.lemmas.Bool.Decides.{nat_tests}
use Rattle.std.proofs.lemmas.List.{append-nil, take_at}
use Rattle.std.proofs.lemmas.Int.Digits.{digits_value_push, digits_push}
use Rattle.std.proofs.lemmas.Str.Parse.{IsNumeralModel, numerals_by_value, tells_digits, digits_value-take-le, digit_from_value}
use Rattle.std.proofs.lemmas.Fmt.{decimal-digits_value, digits_decimal, digits_value-decimal, decimal_injective, decimal_nonempty, first_decimal, length-decimal-le, decimal_digit}
use Rattle.ls_grammar.specs.Words.{Word, fixed, number, hex, credential, word_text, a_number, IsOf}
use Rattle.ls_grammar.specs.Reads.{shared, Reads}
use Rattle.ls_grammar.specs.Reading.{read_number, read_digits}
use Rattle.ls_grammar.proofs.SharedLemmas.{HasNoSpace, shared-nil, shared-le, shared-append}
use Rattle.ls_grammar.proofs.FurthestLemmas.{furthest_at, none_has, shared-front}
use Rattle.ls_grammar.proofs.SequenceLemmas.{Fits, IsLawful}

own : IsNumeralModel (AllDigits 10) (digits_value 10)
own = numerals_by_value (AllDigits 10) tells_digits

-- ---- digits

digits-front : (p rest : List ℕ) → AllDigits 10 (p ++ rest) → AllDigits 10 p
digits-front [] rest h = tt
digits-front (b ∷ p) rest h = (h.0, digits-front p rest h.1)

digits-last : (p : List ℕ) (b : ℕ) → AllDigits 10 (p ++ b ∷ []) → digit_value b < 10
digits-last [] b h = h.0
digits-last (c ∷ p) b h = digits-last p b h.1

no_space_in_digits : (ds : List ℕ) → AllDigits 10 ds → HasNoSpace ds
no_space_in_digits [] h = tt
no_space_in_digits (b ∷ ds) h = (let k = digit_from_value b h.0 in λ e. absurd (omega arith), no_space_in_digits ds h.1)

digit_is : (b : ℕ) → 48 ≤ b → b ≤ 57 → digit_value b ≡ b - 48
digit_is b low high = grind (arith, nat_tests)

-- what the test of the next digit says
test_true : (n b : ℕ) → (is_ascii_digit b && nat_lt (n * 10 + (b - 48)) (2 ^ 32)) ≡ true
    → (48 ≤ b) × (b ≤ 57) × (n * 10 + (b - 48) < 2 ^ 32)
test_true n b h = grind (arith, nat_tests)

test_holds : (n b : ℕ) → 48 ≤ b → b ≤ 57 → n * 10 + (b - 48) < 2 ^ 32
    → (is_ascii_digit b && nat_lt (n * 10 + (b - 48)) (2 ^ 32)) ≡ true
test_holds n b low high lt = grind (arith, nat_tests)

-- ---- the words

no_others : (P : Word → Type 0) → ((m : ℕ) → m < 2 ^ 32 → P (number m)) → (w : Word)
    → IsOf a_number w → P w
no_others P h (fixed y) g = absurd g
no_others P h (number m) g = h m g
no_others P h (hex bytes) g = absurd g
no_others P h (credential kind y) g = absurd g

short : (m : ℕ) → m < 2 ^ 32 → length (decimal m) ≤ 10
short m lt = length-decimal-le 10 m (omega arith) (omega arith) (omega arith)

-- the number whose digits are all of the text
all_read : (room : ℕ) (text : List ℕ) (n : ℕ) → 10 ≤ room → n < 2 ^ 32 → decimal n ≡ text
    → Reads (Fits a_number room) word_text text (Ok (number n))
all_read room text n fits lt e = (
  (lt, omega (arith, short n lt)),
  e,
  λ w g h. no_others (λ w. word_text w ≡ text → w ≡ number n) (λ m small k. ap number (decimal_injective m n (omega arith) (omega arith) (k ∙ sym e))) w g.0 h,
)

-- no number goes further than the digits ds, where the next byte is no digit or too much
digits_stop : (ds : List ℕ) (b : ℕ) (text : List ℕ) → AllDigits 10 ds
    → (is_ascii_digit b && nat_lt (digits_value 10 ds * 10 + (b - 48)) (2 ^ 32)) ≡ false
    → (m : ℕ) → m < 2 ^ 32 → shared (decimal m) (ds ++ b ∷ text) ≤ length ds
digits_stop ds b text all test m lt =
    elim (cases_lt (length ds) (shared (decimal m) (ds ++ b ∷ text))) [
      | inr le ↦ le
      | inl more ↦
          let p = ds ++ b ∷ [] in
          let len : length p ≡ length ds + 1 = omega (arith, length-append ds (b ∷ [])) in
          let same : ds ++ b ∷ text ≡ p ++ text = sym (append_assoc ds (b ∷ []) text) in
          let f = shared-front p (decimal m) text (subst (λ (x : List ℕ). length p ≤ shared (decimal m) x) same (omega arith)) in
          let digits : AllDigits 10 (p ++ f.0) = subst (AllDigits 10) f.1 (digits_decimal own m (omega arith)) in
          let last = digit_from_value b (digits-last ds b (digits-front p f.0 digits)) in
          let value : digits_value 10 p ≡ digits_value 10 ds * 10 + (b - 48) = digits_value_push 10 ds b ∙ ap (λ (d : ℕ). digits_value 10 ds * 10 + d) (digit_is b last.0 last.1) in
          let whole : digits_value 10 (p ++ f.0) ≡ m = ap (digits_value 10) (sym f.1) ∙ digits_value-decimal own m (omega arith) in
          let part : digits_value 10 p ≤ digits_value 10 (p ++ f.0) = subst (λ (x : List ℕ). digits_value 10 x ≤ digits_value 10 (p ++ f.0)) (take_at p f.0 (length p) refl) (digits_value-take-le 10 (p ++ f.0) (length p) (omega arith)) in
          absurd (false≢true (sym test ∙ test_holds (digits_value 10 ds) b last.0 last.1 (omega arith)))
    ]

-- a number that begins with the digits ds
with_digits : (ds : List ℕ) (b : ℕ) (text : List ℕ) → AllDigits 10 ds → digits_value 10 ds < 2 ^ 32
    → get_or (ds ++ b ∷ text) 0 0 ≢ 48
    → (m : ℕ) × (m < 2 ^ 32) × (length ds ≤ shared (decimal m) (ds ++ b ∷ text))
with_digits [] b text all lt first = (0, omega arith, omega arith)
with_digits (d ∷ ds) b text all lt first =
    let e : decimal (digits_value 10 (d ∷ ds)) ≡ d ∷ ds = decimal-digits_value own (d ∷ ds) all (omega arith) (λ h. absurd (first h)) (omega arith) in (
      digits_value 10 (d ∷ ds),
      lt,
      subst (λ (x : List ℕ). length (d ∷ ds) ≤ shared x ((d ∷ ds) ++ b ∷ text)) (sym e) (
          let s = shared-append (d ∷ ds) [] (b ∷ text) in
          let k : length (d ∷ ds) ≤ shared ((d ∷ ds) ++ []) ((d ∷ ds) ++ b ∷ text) = omega arith in
          subst (λ (x : List ℕ). length (d ∷ ds) ≤ shared x ((d ∷ ds) ++ b ∷ text)) (append-nil (d ∷ ds)) k),
    )

number_furthest : (room : ℕ) (text : List ℕ) (n : ℕ)
    → ((m : ℕ) → m < 2 ^ 32 → shared (decimal m) text ≤ n) → (w : Word) → Fits a_number room w
    → shared (word_text w) text ≤ n
number_furthest room text n h w g = no_others (λ w. shared (word_text w) text ≤ n) h w g.0

-- the number stops within the text
stops_at : (room : ℕ) (text : List ℕ) (n : ℕ) → 10 ≤ room → n < length text → (m : ℕ) → m < 2 ^ 32
    → n ≤ shared (decimal m) text → ((m : ℕ) → m < 2 ^ 32 → shared (decimal m) text ≤ n)
    → Reads (Fits a_number room) word_text text (Err n)
stops_at room text n fits lt m small reached furthest = (
  furthest_at (Fits a_number room) word_text text n (number m) (small, omega (arith, short m small)) reached (number_furthest room text n furthest),
  none_has (Fits a_number room) word_text text n lt (number_furthest room text n furthest),
)

digits_read : (room : ℕ) (ds text : List ℕ) → 10 ≤ room → AllDigits 10 ds
    → digits_value 10 ds < 2 ^ 32 → get_or (ds ++ text) 0 0 ≢ 48 → 0 < length (ds ++ text)
    → Reads (Fits a_number room) word_text (ds ++ text)
    (read_digits (digits_value 10 ds) (length ds) text)
digits_read room ds [] fits all lt first some =
    let nil = append-nil ds in
    let e : decimal (digits_value 10 ds) ≡ ds = decimal-digits_value own ds all (omega (arith, ap length nil)) (λ h. absurd (first (ap (λ (x : List ℕ). get_or x 0 0) nil ∙ h))) (omega arith) in
    all_read room (ds ++ []) (digits_value 10 ds) fits lt (e ∙ sym nil)
digits_read room ds (b ∷ text) fits all lt first some =
    elim (cases_Bool (is_ascii_digit b && nat_lt (digits_value 10 ds * 10 + (b - 48)) (2 ^ 32))) [
      | inl t ↦
          let k = test_true (digits_value 10 ds) b t in
          let d = digit_is b k.0 k.1 in
          let value : digits_value 10 (ds ++ b ∷ []) ≡ digits_value 10 ds * 10 + (b - 48) = digits_value_push 10 ds b ∙ ap (λ (x : ℕ). digits_value 10 ds * 10 + x) d in
          let len : length (ds ++ b ∷ []) ≡ length ds + 1 = omega (arith, length-append ds (b ∷ [])) in
          let same : (ds ++ b ∷ []) ++ text ≡ ds ++ b ∷ text = append_assoc ds (b ∷ []) text in
          let ih = digits_read room (ds ++ b ∷ []) text fits (digits_push 10 ds b all (omega arith)) (omega arith)
          (λ h. first (ap (λ (x : List ℕ). get_or x 0 0) (sym same) ∙ h)) (omega (arith, ap length same)) in
          rw t (subst (λ (x : List ℕ). Reads (Fits a_number room) word_text x (read_digits (digits_value 10 ds * 10 + (b - 48)) (length ds + 1) text)) same
          (rw (value, len) at ih))
      | inr f ↦
          let w = with_digits ds b text all lt first in
          rw f (stops_at room (ds ++ b ∷ text) (length ds) fits (omega (arith, length-append ds (b ∷ text))) w.0 w.1 w.2 (digits_stop ds b text all f))
    ]

zero_alone : (c : ℕ) (text : List ℕ) (m : ℕ) → m < 2 ^ 32 → shared (decimal m) (48 ∷ (c ∷ text)) ≤ 1
zero_alone c text zero lt = omega (arith, shared-le (decimal 0) (48 ∷ (c ∷ text)), short_zero)
  where
    short_zero : length (decimal 0) ≤ 1
    short_zero = length-decimal-le 1 0 (omega arith) (omega arith) (omega arith)
zero_alone c text (suc m) lt =
    elim (cases_lt 0 (shared (decimal (suc m)) (48 ∷ (c ∷ text)))) [
      | inr le ↦ omega arith
      | inl more ↦
          let f = shared-front (48 ∷ []) (decimal (suc m)) (c ∷ text) (omega arith) in
          let e : get_or (decimal (suc m)) 0 0 ≡ 48 = ap (λ (x : List ℕ). get_or x 0 0) f.1 in
          absurd (omega (arith, first_decimal (suc m) (omega arith) (omega arith)))
    ]

number_reads : (room : ℕ) (text : List ℕ) → 10 ≤ room
    → Reads (Fits a_number room) word_text text (read_number text)
unfolding read_number
number_reads room [] fits = (
  furthest_at (Fits a_number room) word_text [] 0 (number 0) (omega arith, omega (arith, short 0 (omega arith))) (omega arith) (number_furthest room [] 0 (λ m lt. omega (arith, shared-nil (decimal m)))),
  λ w g. no_others (λ w. ¬ (word_text w ≡ [])) (λ m lt e. absurd (omega (arith, ap length e, decimal_nonempty m (omega arith)))) w g.0,
)
number_reads room (b ∷ []) fits =
    elim (cases_eq b 48) [
      | inl e ↦
          let t : (b == 48) ≡ true = grind (arith, nat_tests) in
          rw t (all_read room (b ∷ []) 0 fits (omega arith) (cc (decimal_digit 0 (omega arith), e)))
      | inr e ↦
          let t : (b == 48) ≡ false = grind (arith, nat_tests) in
          rw t (digits_read room [] (b ∷ []) fits tt (omega arith) e (omega arith))
    ]
number_reads room (b ∷ c ∷ text) fits =
    elim (cases_eq b 48) [
      | inl e ↦
          let t : (b == 48) ≡ true = grind (arith, nat_tests) in
          let z : (length (c ∷ text) == 0) ≡ false = grind (arith, nat_tests) in
          rw (t, z) (subst (λ (x : ℕ). Reads (Fits a_number room) word_text (x ∷ (c ∷ text)) (Err 1)) (sym e)
          (stops_at room (48 ∷ (c ∷ text)) 1 fits (omega arith) 0 (omega arith)
          (subst (λ (x : List ℕ). 1 ≤ shared x (48 ∷ (c ∷ text))) (sym (decimal_digit 0 (omega arith))) (omega arith))
          (zero_alone c text)))
      | inr e ↦
          let t : (b == 48) ≡ false = grind (arith, nat_tests) in
          rw t (digits_read room [] (b ∷ c ∷ text) fits tt (omega arith) e (omega arith))
    ]

pub number_lawful : IsLawful a_number
number_lawful = record {
  reads = λ room text fits. number_reads room text fits;
  no_space = no_others (λ w. HasNoSpace (word_text w)) (λ m lt. no_space_in_digits (decimal m) (digits_decimal own m (omega arith)));
  shortest = number 0;
  shortest_is = omega arith;
  shortest_len = ap length (decimal_digit 0 (omega arith));
  at_least = no_others (λ w. 1 ≤ length (word_text w)) (λ m lt. decimal_nonempty m (omega arith));
  at_most = λ room w g. no_others (λ w. length (word_text w) ≤ 10) short w g.0;
  least_room = omega arith;
}
