-- A field is read at once: its bytes pass, and the rest is read behind them.
use Rattle.std.proofs.Common.{◌≡◌, ◌≤◌, ◌<◌, inl, inr, ℕ, zero, suc, ◌+◌, Bool, true, false, List, [], ◌∷◌, ◌++◌, length, get_or, take, drop, Option, None, Some, refl, sym, ap, subst, ◌∙◌, arith}
use Rattle.std.specs.List.{prefix_len}
use Rattle.std.specs.Option.{option_map}
use Rattle.std.proofs.Math.ListN.{drop_of_length-le}
use Rattle.std.proofs.lemmas.Bool.{cases_lt, ltb-true, lt-ltb}
use Rattle.std.proofs.lemmas.List.{append-nil, take-append-drop, length-take, length-append, get_or-take, get_or_past, get_or_append_left}
use Rattle.std.proofs.lemmas.List.Sums.{sum_by-cons, prefix_len-le-length, prefix_len_passes}
use Rattle.ls_formats.specs.declared.field.Rule.{Rule}
use Rattle.ls_formats.specs.declared.field.Rule.TheVariants.{Any}
use Rattle.ls_formats.specs.Files.{field}
use Rattle.ls_formats.specs.Contents.{AreBytes}
use Rattle.ls_formats.specs.Format.{Format, ended, byte, IsIn, first_fault}
use Rattle.ls_formats.specs.Rules.{passes, field_then, behind, row, width_of}
use Rattle.ls_formats.specs.declared.field.Field.{Field}

behind_zero : (at : Option ℕ) → behind 0 at ≡ at
behind_zero None = refl
behind_zero (Some k) = ap Some (omega arith)

behind_suc : (n : ℕ) (at : Option ℕ) → option_map suc (behind n at) ≡ behind (suc n) at
behind_suc n None = refl
behind_suc n (Some k) = ap Some (omega arith)

-- one byte more of a field that is too short
short_byte : (n : ℕ) (rule : Rule) (next : ℕ → Format) (b : ℕ) (bytes : List ℕ) (good : Bool) → passes rule b ≡ good
    → prefix_len (passes rule) (b ∷ bytes) < suc n
    → (prefix_len (passes rule) bytes < n → first_fault (next b) bytes ≡ Some (prefix_len (passes rule) bytes))
    → first_fault (byte (passes rule) next) (b ∷ bytes) ≡ Some (prefix_len (passes rule) (b ∷ bytes))
short_byte n rule next b bytes true is lt rest =
    let less : 1 + prefix_len (passes rule) bytes < suc n = rw is at lt in
    rw is (ap (option_map suc) (rest (omega arith)) ∙ ap Some (omega arith))
short_byte n rule next b bytes false is lt rest = rw is refl

-- the front of the bytes is too short for the field
pub short_field : (n : ℕ) (rule : Rule) (next : List ℕ → Format) (bytes : List ℕ) → prefix_len (passes rule) bytes < n
    → first_fault (field_then n rule next) bytes ≡ Some (prefix_len (passes rule) bytes)
unfolding field_then
short_field zero rule next bytes lt = absurd (omega arith)
short_field (suc n) rule next [] lt = refl
short_field (suc n) rule next (b ∷ bytes) lt =
    short_byte n rule (λ b. field_then n rule (λ bs. next (b ∷ bs))) b bytes (passes rule b) refl lt
    (λ less. short_field n rule (λ bs. next (b ∷ bs)) bytes less)

-- one byte more of a field that is long enough
whole_byte : (n : ℕ) (rule : Rule) (next : ℕ → Format) (b : ℕ) (bytes : List ℕ) (rest : Option ℕ) (good : Bool) → passes rule b ≡ good
    → suc n ≤ prefix_len (passes rule) (b ∷ bytes)
    → (n ≤ prefix_len (passes rule) bytes → first_fault (next b) bytes ≡ behind n rest)
    → first_fault (byte (passes rule) next) (b ∷ bytes) ≡ behind (suc n) rest
whole_byte n rule next b bytes rest true is le so =
    let more : suc n ≤ 1 + prefix_len (passes rule) bytes = rw is at le in
    rw is (ap (option_map suc) (so (omega arith)) ∙ behind_suc n rest)
whole_byte n rule next b bytes rest false is le so = let none : suc n ≤ 0 = rw is at le in absurd (omega arith)

-- it is long enough
pub whole_field : (n : ℕ) (rule : Rule) (next : List ℕ → Format) (bytes : List ℕ) → n ≤ prefix_len (passes rule) bytes
    → first_fault (field_then n rule next) bytes ≡ behind n (first_fault (next (take n bytes)) (drop n bytes))
unfolding field_then
whole_field zero rule next bytes le = sym (behind_zero (first_fault (next []) bytes))
whole_field (suc n) rule next [] le = absurd (omega arith)
whole_field (suc n) rule next (b ∷ bytes) le =
    whole_byte n rule (λ b. field_then n rule (λ bs. next (b ∷ bs))) b bytes (first_fault (next (b ∷ take n bytes)) (drop n bytes)) (passes rule b) refl le
    (λ more. whole_field n rule (λ bs. next (b ∷ bs)) bytes more)

-- the first of some fields is too short, or it is whole
pub row_short : (fields : List Field) (bytes : List ℕ) (d : Field) → 0 < length fields
    → prefix_len (passes (get_or fields 0 d).rule) bytes < (get_or fields 0 d).width
    → first_fault (row fields) bytes ≡ Some (prefix_len (passes (get_or fields 0 d).rule) bytes)
row_short [] bytes d some lt = absurd (omega arith)
row_short (f ∷ fields) bytes d some lt = short_field f.width f.rule (λ _. row fields) bytes lt

pub row_whole : (fields : List Field) (bytes : List ℕ) (d : Field) → 0 < length fields
    → (get_or fields 0 d).width ≤ prefix_len (passes (get_or fields 0 d).rule) bytes
    → first_fault (row fields) bytes ≡ behind (get_or fields 0 d).width (first_fault (row (drop 1 fields)) (drop (get_or fields 0 d).width bytes))
row_whole [] bytes d some le = absurd (omega arith)
row_whole (f ∷ fields) bytes d some le = whole_field f.width f.rule (λ _. row fields) bytes le

pub width_rest : (fields : List Field) (d : Field) → 0 < length fields → width_of fields ≡ (get_or fields 0 d).width + width_of (drop 1 fields)
width_rest [] d some = absurd (omega arith)
width_rest (f ∷ fields) d some = sum_by-cons (λ (g : Field). g.width) f fields

-- ---- bytes that are in a format

-- what is in a field and what follows it
pub in_field : (n : ℕ) (rule : Rule) (next : List ℕ → Format) (bytes : List ℕ) → IsIn (field_then n rule next) bytes
    → (n ≤ prefix_len (passes rule) bytes) × IsIn (next (take n bytes)) (drop n bytes)
unfolding field_then
in_field zero rule next bytes h = (omega arith, h)
in_field (suc n) rule next [] h = absurd h
in_field (suc n) rule next (b ∷ bytes) h =
    let rest = in_field n rule (λ bs. next (b ∷ bs)) bytes h.1 in
    (rw h.0 (omega (arith, rest.0)), rest.1)

pub field_in : (n : ℕ) (rule : Rule) (next : List ℕ → Format) (bytes : List ℕ) → n ≤ prefix_len (passes rule) bytes
    → IsIn (next (take n bytes)) (drop n bytes) → IsIn (field_then n rule next) bytes
unfolding field_then
field_in zero rule next bytes le h = h
field_in (suc n) rule next [] le h = absurd (omega arith)
field_in (suc n) rule next (b ∷ bytes) le h = by (passes rule b) refl (λ more. field_in n rule (λ bs. next (b ∷ bs)) bytes more h)
  where
    by : (good : Bool) → passes rule b ≡ good → (n ≤ prefix_len (passes rule) bytes → IsIn (field_then n rule (λ bs. next (b ∷ bs))) bytes)
        → IsIn (field_then (suc n) rule next) (b ∷ bytes)
    by true is rest = let more : suc n ≤ 1 + prefix_len (passes rule) bytes = rw is at le in (is, rest (omega arith))
    by false is rest = let none : suc n ≤ 0 = rw is at le in absurd (omega arith)

-- the front of a text that passes, by place
pub front_passes : (rule : Rule) (n : ℕ) (bytes : List ℕ) → n ≤ length bytes → ((i : ℕ) → i < n → passes rule (get_or bytes i 0) ≡ true) → n ≤ prefix_len (passes rule) bytes
front_passes rule zero bytes le h = omega arith
front_passes rule (suc n) [] le h = absurd (omega arith)
front_passes rule (suc n) (b ∷ bytes) le h =
    let rest = front_passes rule n bytes (omega arith) (λ i lt. h (suc i) (omega arith)) in
    rw (h 0 (omega arith)) (omega arith)

-- ---- a field of any bytes, and nothing behind it

pub any_front : (n : ℕ) (bytes : List ℕ) → n ≤ prefix_len (passes Any) bytes → AreBytes n (take n bytes)
any_front n bytes le =
    let long : n ≤ length bytes = omega (arith, prefix_len-le-length (passes Any) bytes) in
    record {
      long = omega (arith, length-take n bytes);
      each = λ i. elim (cases_lt i n) [
        | inl lt ↦ rw (get_or-take n bytes i 0 lt) (ltb-true (get_or bytes i 0) 256 (prefix_len_passes (passes Any) bytes i 0 (omega arith)))
        | inr past ↦ rw (get_or_past (take n bytes) i 0 (omega (arith, length-take n bytes))) (omega arith)
      ];
    }

pub bytes_front : (n : ℕ) (bytes rest : List ℕ) → AreBytes n bytes → n ≤ prefix_len (passes Any) (bytes ++ rest)
bytes_front n bytes rest are =
    front_passes Any n (bytes ++ rest) (omega (arith, are.long, length-append bytes rest))
    (λ i lt. lt-ltb _ _ (rw (get_or_append_left bytes rest 0 i (omega (arith, are.long))) (are.each i)))

pub ended_none : (bytes : List ℕ) → IsIn ended bytes → bytes ≡ []
ended_none [] h = refl
ended_none (b ∷ bytes) h = absurd h

pub in_plain : (n : ℕ) (bytes : List ℕ) → IsIn (row (field n Any ∷ [])) bytes → AreBytes n bytes
in_plain n bytes h =
    let parts = in_field n Any (λ _. ended) bytes h in
    let whole : take n bytes ≡ bytes = sym (append-nil (take n bytes)) ∙ ap (λ (rest : List ℕ). take n bytes ++ rest) (sym (ended_none (drop n bytes) parts.1)) ∙ take-append-drop n bytes in
    subst (AreBytes n) whole (any_front n bytes parts.0)

pub plain_in : (n : ℕ) (bytes : List ℕ) → AreBytes n bytes → IsIn (row (field n Any ∷ [])) bytes
plain_in n bytes are =
    field_in n Any (λ _. ended) bytes (rw append-nil at (bytes_front n bytes [] are))
    (subst (IsIn ended) (sym (drop_of_length-le bytes (omega (arith, are.long)))) tt)
