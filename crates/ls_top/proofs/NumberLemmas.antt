-- Numbers in decimal.
use Rattle.std.proofs.Common.{◌≡◌, ◌≢◌, ◌<◌, ◌≤◌, ◌⊎◌, ◌^◌, ℕ, List, length, get_or, sym, ◌∙◌, ap, subst, arith, inl, inr}
use Rattle.std.specs.Prelude.{Result, Ok, Err, Option, Some, IfSome}
use Rattle.std.specs.Result.{result_ok}
use Rattle.std.specs.Fmt.{decimal}
use Rattle.std.specs.Str.{IsUtf8}
use Rattle.std.specs.Str.Parse.{AllDigits, digits_value, ParsesUnsigned}
use Rattle.std.proofs.lemmas.Bool.{cases_lt}
use Rattle.std.proofs.lemmas.Str.{IsUtf8-from_ascii}
use Rattle.std.proofs.lemmas.Str.Parse.{IsNumeralModel, numerals_by_value, tells_digits, digit_at, parse_plain}
use Rattle.std.proofs.lemmas.Fmt.{digits_decimal, decimal_nonempty, first_decimal, decimal_digit, IsAscii-decimal, decimal-digits_value, parse-decimal}

pub own : IsNumeralModel (AllDigits 10) (digits_value 10)
own = numerals_by_value (AllDigits 10) tells_digits

-- the first digit is none of a sign
pub no_sign : (n : ℕ) (text : List ℕ) → n < 2 ^ 32 → text ≡ decimal n → get_or text 0 0 ≢ 43
no_sign n text small is plus =
    let digits : AllDigits 10 (decimal n) = digits_decimal own n (omega arith) in
    let first = digit_at (decimal n) 0 digits (decimal_nonempty n (omega arith)) in
    let same : get_or text 0 0 ≡ get_or (decimal n) 0 0 = ap (λ (t : List ℕ). get_or t 0 0) is in
    omega (arith, first.0, same, plus)

-- and no zero stands before other digits
pub no_zero : (n : ℕ) (text : List ℕ) → n < 2 ^ 32 → text ≡ decimal n → get_or text 0 0 ≡ 48 → length text ≤ 1
no_zero n text small is zero =
    let same : get_or text 0 0 ≡ get_or (decimal n) 0 0 = ap (λ (t : List ℕ). get_or t 0 0) is in
    elim (cases_lt 0 n) [
      | inl some ↦ absurd (omega (arith, first_decimal n some (omega arith), same, zero))
      | inr none ↦ omega (arith, ap length (is ∙ decimal_digit n (omega (arith, none))))
    ]

pub is_text : (n : ℕ) (text : List ℕ) → n < 2 ^ 32 → text ≡ decimal n → IsUtf8 text
is_text n text small is = subst (λ (t : List ℕ). IsUtf8 t) (sym is) (IsUtf8-from_ascii (decimal n) (IsAscii-decimal n (omega arith)))

-- what was parsed is spelled so
pub spelled : (E : Type 0) (text : List ℕ) (n : ℕ) → get_or text 0 0 ≢ 43 → (get_or text 0 0 ≡ 48 → length text ≤ 1)
    → ParsesUnsigned {E = E} 32 10 text (Ok n) → text ≡ decimal n
spelled E text n sign zero parses =
    let is = parse_plain own {E = E} 32 text (Ok n) parses sign in
    let back : decimal (digits_value 10 text) ≡ text = decimal-digits_value own text is.0.0 is.0.1 (λ z. omega (arith, zero z, is.0.1)) (omega (arith, is.0.2)) in
    sym back ∙ ap decimal (sym is.1)

pub bad_front : (n : ℕ) (text : List ℕ) → n < 2 ^ 32 → text ≡ decimal n
    → (get_or text 0 0 ≡ 43) ⊎ ((get_or text 0 0 ≡ 48) × (1 < length text)) → ⊥
bad_front n text small is (inl plus) = no_sign n text small is plus
bad_front n text small is (inr zero) = omega (arith, no_zero n text small is zero.0, zero.1)

pub parsed_spelled : {E : Type 0} (text parsed : List ℕ) (r : Result ℕ E) (o : Option ℕ) → o ≡ result_ok r → parsed ≡ text
    → (get_or text 0 0 ≢ 43) × (get_or text 0 0 ≡ 48 → length text ≤ 1) → ParsesUnsigned {E = E} 32 10 parsed r
    → IfSome o (λ n. text ≡ decimal n)
parsed_spelled {E} text parsed (Ok n) o gives same front parses =
    subst (λ (p : Option ℕ). IfSome p (λ n. text ≡ decimal n)) (sym gives)
    (spelled E text n front.0 front.1 (subst (λ (t : List ℕ). ParsesUnsigned {E = E} 32 10 t (Ok n)) same parses))
parsed_spelled {E} text parsed (Err e) o gives same front parses =
    subst (λ (p : Option ℕ). IfSome p (λ n. text ≡ decimal n)) (sym gives) tt

pub parsed_only : {E : Type 0} (n : ℕ) (text parsed : List ℕ) (r : Result ℕ E) (o : Option ℕ) → n < 2 ^ 32 → text ≡ decimal n
    → o ≡ result_ok r → parsed ≡ text → ParsesUnsigned {E = E} 32 10 parsed r → o ≡ Some n
parsed_only {E} n text parsed r o small is gives same parses =
    gives ∙ ap (λ (q : Result ℕ E). result_ok q) (parse-decimal {E = E} 32 n parsed r small (omega arith) (same ∙ is) parses)
