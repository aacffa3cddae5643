-- Hex text in lower case: its digits, and what they are the text of.
use Rattle.std.proofs.Common.{◌≡◌, ◌≤◌, ◌<◌, ◌^◌, inl, inr, ℕ, zero, suc, ◌+◌, ◌-◌, ◌*◌, ◌/◌, ◌%◌, ◌++◌, ◌&&◌, ◌||◌, Bool, true, not, cond, List, [], ◌∷◌, length, take, replicate, get_or, Result, Ok, refl, sym, ap, ◌∙◌, arith}
use Rattle.std.specs.List.{prefix_len}
use Rattle.std.proofs.Math.Dec.{ltb, leb, eqb}
use Rattle.std.proofs.lemmas.Bool.{agree_below, agree_below_at, and_parts, or_cases, both_ways, not_from_true, leb-true, ltb-true, eqb-true, eq-eqb, ne_eqb, cases_Bool}
use Rattle.std.proofs.lemmas.List.{length-append, get_or-take}
use Rattle.std.proofs.lemmas.List.Sums.{prefix_len_passes}
use Rattle.hex.specs.declared.error.FromHexError.{FromHexError}
use Rattle.hex.specs.Hex.{lower_digits, encode_with, encode_lower, decode_of}
use Rattle.hex.proofs.HexLemmas.{decode_of-encode_lower, length-encode_with}
use Rattle.byteorder.specs.Endian.{big_number}
use Rattle.ls_bytes.specs.Fields.{be64}
use Rattle.ls_bytes.proofs.FieldLemmas.{big_number-be64}
use Rattle.ls_formats.specs.declared.field.Rule.{Rule}
use Rattle.ls_formats.specs.declared.field.Rule.TheVariants.{HexDigit}
use Rattle.ls_formats.specs.Rules.{passes}
use Rattle.ls_formats.specs.FileNames.{is_zero}
use Rattle.ls_formats.specs.Contents.{AreBytes}
use Rattle.ls_formats.proofs.FieldLemmas.{front_passes}
use Rattle.ls_formats.proofs.ContentLemmas.{big_are_bytes}

-- ---- one digit

-- the number of a digit
value : ℕ → ℕ
value d = cond (leb 97 d) (d - 87) (d - 48)

-- a digit is that of its number, which is below 16
is_good : ℕ → Bool
unfolding value
is_good d = not (passes HexDigit d) || (eqb (get_or lower_digits (value d) 0) d && ltb (value d) 16)

always : ℕ → Bool
always d = true

all_good : agree_below is_good always 256 ≡ true
unfolding is_good value always
all_good = refl

digit_small : (d : ℕ) → passes HexDigit d ≡ true → d < 256
digit_small d h =
    elim (or_cases (leb 48 d && leb d 57) (leb 97 d && leb d 102) h) [
      | inl a ↦ let le : d ≤ 57 = leb-true d 57 (and_parts (leb 48 d) (leb d 57) a).1 in omega arith
      | inr a ↦ let le : d ≤ 102 = leb-true d 102 (and_parts (leb 97 d) (leb d 102) a).1 in omega arith
    ]

record IsDigitOf (d : ℕ) : Type 0 where
  number : ℕ
  small : number < 16
  is : get_or lower_digits number 0 ≡ d

digit_of : (d : ℕ) → passes HexDigit d ≡ true → IsDigitOf d
unfolding is_good always
digit_of d h =
    let good : is_good d ≡ true = agree_below_at is_good always 256 d all_good (digit_small d h) in
    elim (or_cases (not (passes HexDigit d)) (eqb (get_or lower_digits (value d) 0) d && ltb (value d) 16) good) [
      | inl bad ↦ absurd (both_ways (not (passes HexDigit d)) (not_from_true (passes HexDigit d) h) bad)
      | inr parts ↦
          let both = and_parts (eqb (get_or lower_digits (value d) 0) d) (ltb (value d) 16) parts in
          record { number = value d; small = ltb-true (value d) 16 both.1; is = eqb-true (get_or lower_digits (value d) 0) d both.0 }
    ]

is_digit : ℕ → Bool
is_digit v = passes HexDigit (get_or lower_digits v 0)

all_digits : agree_below is_digit always 16 ≡ true
unfolding is_digit always
all_digits = refl

-- the digit of a number below 16
digit_passes : (v : ℕ) → v < 16 → passes HexDigit (get_or lower_digits v 0) ≡ true
unfolding is_digit always
digit_passes v lt = agree_below_at is_digit always 16 v all_digits lt

-- ---- texts

-- bytes that these digits are the text of
pub record IsTextOf (n : ℕ) (digits : List ℕ) : Type 0 where
  pub bytes : List ℕ
  pub are : AreBytes n bytes
  pub is : encode_lower bytes ≡ digits

push_byte : (n b : ℕ) (bytes : List ℕ) → b < 256 → AreBytes n bytes → AreBytes (suc n) (b ∷ bytes)
push_byte n b bytes lt are = record { long = omega (arith, are.long); each = each }
  where
    each : (i : ℕ) → get_or (b ∷ bytes) i 0 < 256
    each zero = lt
    each (suc i) = are.each i

pair_text : (n h l : ℕ) (rest : List ℕ) → IsDigitOf h → IsDigitOf l → IsTextOf n rest → IsTextOf (suc n) (h ∷ l ∷ rest)
unfolding encode_with
pair_text n h l rest high low text =
    let byte = high.number * 16 + low.number in
    let lt : byte < 256 = omega (arith, high.small, low.small) in
    let front : byte / 16 ≡ high.number = omega (arith, low.small) in
    let back : byte % 16 ≡ low.number = omega (arith, low.small, front) in
    record {
      bytes = byte ∷ text.bytes;
      are = push_byte n byte text.bytes lt text.are;
      is = λ i. (ap (λ (v : ℕ). get_or lower_digits v 0) front ∙ high.is) i ∷ (ap (λ (v : ℕ). get_or lower_digits v 0) back ∙ low.is) i ∷ text.is i;
    }

pub hex_reads : (n : ℕ) (digits : List ℕ) → length digits ≡ 2 * n → ((i : ℕ) → i < length digits → passes HexDigit (get_or digits i 0) ≡ true) → IsTextOf n digits
unfolding encode_with
hex_reads zero [] long each = record { bytes = []; are = record { long = refl; each = λ i. omega arith }; is = refl }
hex_reads (suc n) [] long each = absurd (omega arith)
hex_reads zero (h ∷ digits) long each = absurd (omega arith)
hex_reads (suc n) (h ∷ []) long each = absurd (omega arith)
hex_reads (suc n) (h ∷ l ∷ rest) long each =
    pair_text n h l rest (digit_of h (each 0 (omega arith))) (digit_of l (each 1 (omega arith)))
    (hex_reads n rest (omega arith) (λ i lt. each (suc (suc i)) (omega arith)))

-- the front of a text that passes a rule, cut off
pub cut_front : (rule : Rule) (n : ℕ) (bytes : List ℕ) → n ≤ prefix_len (passes rule) bytes
    → (i : ℕ) → i < length (take n bytes) → i < n → passes rule (get_or (take n bytes) i 0) ≡ true
cut_front rule n bytes le i within lt = rw (get_or-take n bytes i 0 lt) (prefix_len_passes (passes rule) bytes i 0 (omega arith))

-- the text of bytes is of digits
text_passes : (bytes : List ℕ) → ((i : ℕ) → get_or bytes i 0 < 256) → (i : ℕ) → i < 2 * length bytes → passes HexDigit (get_or (encode_lower bytes) i 0) ≡ true
unfolding encode_with
text_passes [] each i lt = absurd (omega arith)
text_passes (b ∷ bytes) each zero lt = digit_passes (b / 16) (let small : b < 256 = each 0 in omega arith)
text_passes (b ∷ bytes) each (suc zero) lt = digit_passes (b % 16) (omega arith)
text_passes (b ∷ bytes) each (suc (suc i)) lt = text_passes bytes (λ k. each (suc k)) i (omega arith)

pub hex_front : (n : ℕ) (bytes rest : List ℕ) → AreBytes n bytes → 2 * n ≤ prefix_len (passes HexDigit) (encode_lower bytes ++ rest)
hex_front n bytes rest are =
    let long : length (encode_lower bytes) ≡ 2 * length bytes = length-encode_with lower_digits bytes in
    front_passes HexDigit (2 * n) (encode_lower bytes ++ rest) (omega (arith, long, are.long, length-append (encode_lower bytes) rest))
    (λ i lt. rw (get_or-front (encode_lower bytes) rest i (omega (arith, long, are.long))) (text_passes bytes are.each i (omega (arith, are.long))))
  where
    get_or-front : (xs ys : List ℕ) (i : ℕ) → i < length xs → get_or (xs ++ ys) i 0 ≡ get_or xs i 0
    get_or-front [] ys i lt = absurd (omega arith)
    get_or-front (x ∷ xs) ys zero lt = refl
    get_or-front (x ∷ xs) ys (suc i) lt = get_or-front xs ys i (omega arith)

-- ---- the text of 0

zeros : (digits : List ℕ) → is_zero digits ≡ true → digits ≡ replicate (length digits) 48
zeros [] h = refl
zeros (d ∷ digits) h =
    let parts = and_parts (eqb d 48) (is_zero digits) h in
    let rest = zeros digits parts.1 in
    λ i. eqb-true d 48 parts.0 i ∷ rest i

-- a number below 2 ^ 64 by the text of its bytes
text_number : (m n : ℕ) → m < 2 ^ 64 → n < 2 ^ 64 → encode_lower (be64 m) ≡ encode_lower (be64 n) → m ≡ n
text_number m n m_small n_small e =
    let decoded : ◌≡◌ {A = Result (List ℕ) FromHexError} (Ok (be64 m)) (Ok (be64 n)) = sym (decode_of-encode_lower (be64 m) (big_are_bytes 8 m).each) ∙ ap decode_of e ∙ decode_of-encode_lower (be64 n) (big_are_bytes 8 n).each in
    let bytes : be64 m ≡ be64 n = cc in
    sym (big_number-be64 m [] m_small) ∙ ap (λ (b : List ℕ). big_number 8 (b ++ [])) bytes ∙ big_number-be64 n [] n_small

no_digits : encode_lower (be64 0) ≡ replicate 16 48
unfolding encode_with
no_digits = refl

zero_from_text : (n : ℕ) → n < 2 ^ 64 → is_zero (encode_lower (be64 n)) ≡ true → n ≡ 0
zero_from_text n small h =
    let long : length (encode_lower (be64 n)) ≡ 16 = length-encode_with lower_digits (be64 n) in
    text_number n 0 small (omega arith) (zeros (encode_lower (be64 n)) h ∙ ap (λ (k : ℕ). replicate k 48) long ∙ sym no_digits)

text_of_zero : is_zero (encode_lower (be64 0)) ≡ true
text_of_zero = ap is_zero no_digits

-- the digits of an id are all 0 exactly where it is 0
pub zero_text : (n : ℕ) → n < 2 ^ 64 → is_zero (encode_lower (be64 n)) ≡ eqb n 0
zero_text n small =
    elim (cases_Bool (is_zero (encode_lower (be64 n)))) [
      | inl yes_ ↦ yes_ ∙ sym (eq-eqb n 0 (zero_from_text n small yes_))
      | inr no_ ↦ no_ ∙ sym (ne_eqb n 0 (λ e. both_ways (is_zero (encode_lower (be64 n))) no_ (ap (λ (k : ℕ). is_zero (encode_lower (be64 k))) e ∙ text_of_zero)))
    ]
