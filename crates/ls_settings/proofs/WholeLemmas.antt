-- A file that was written in whole.
use Rattle.std.proofs.Common.{◌≡◌, ◌⊎◌, inl, inr, ◌≤◌, ◌<◌, ◌+◌, ◌%◌, ◌^◌, ◌==◌, ℕ, Bool, true, false, List, [], ◌∷◌, ◌++◌, length, take, drop, get_or, if◌then◌else◌, nat_lt, nat_le, Some, Ok, Err, refl, sym, ◌∙◌, ap, arith, le-ltb, le-leb, ne_eqb, append_assoc}
use Rattle.std.proofs.lemmas.Bool.{cases_eq, cases_order, and_right}
use Rattle.std.proofs.lemmas.List.{take_at, get_or-drop, get_or_at, ext_get_or}
use Rattle.std.proofs.lemmas.Nat.{mod_low}
use Rattle.byteorder.specs.Endian.{big_number}
use Rattle.ls_bytes.specs.Fields.{be32}
use Rattle.ls_bytes.proofs.FieldLemmas.{big_number-be32, big_number-be64}
use Rattle.ls_formats.specs.declared.side.Side.{Side}
use Rattle.ls_record.specs.Rows.{Rec}
use Rattle.ls_record.specs.Reading.{record_of}
use Rattle.ls_naming.specs.Current.{settled, is_open, open_gate, base_of, length_word, body_length, body_of, body_says, format_of, has_journal, journal_start, journal_end, entry_places, stands_at, end_behind, changed_by, found_at, file_says}
use Rattle.ls_board.specs.Images.{SameOutside}
use Rattle.ls_board.specs.Effect.{span_of}
use Rattle.ls_settings.specs.Commits.{whole_bytes}
use Rattle.ls_settings.proofs.JournalLemmas.{rest_none}
use Rattle.ls_settings.proofs.FileLemmas.{IsFile, joined, places_rest, end_of_journal, open_at}

module _ (base : ℕ) (body tail : List ℕ) (next : Rec) (small : base < 2 ^ 64) (fits : 14 + length body ≤ 4096)
    (reads : record_of body ≡ Ok next) (second : get_or body 0 0 ≡ 2) (long : length (open_gate ∷ (whole_bytes base body ++ tail)) ≡ 4096) where
  abbrev pub whole : List ℕ
  whole = open_gate ∷ (whole_bytes base body ++ tail)

  pub whole_base : base_of (Some whole) ≡ base
  whole_base =
      ap (λ (b : Bool). if b then 0 else big_number 8 (drop 1 whole)) (le-ltb (length whole) 9 (omega (arith, long)))
      ∙ big_number-be64 base (be32 (2 ^ 31 + length body) ++ ((body ++ 0 ∷ []) ++ tail)) small

  word : length_word whole ≡ 2 ^ 31 + length body
  word = big_number-be32 (2 ^ 31 + length body) ((body ++ 0 ∷ []) ++ tail) (omega (arith, fits))

  long_body : body_length whole ≡ length body
  long_body = ap (λ (w : ℕ). w % 2 ^ 31) word ∙ mod_low 1 31 (length body) (omega (arith, fits))

  has : has_journal whole ≡ true
  has = ap (λ (w : ℕ). nat_le (2 ^ 31) w) word ∙ le-leb (2 ^ 31) (2 ^ 31 + length body) (omega arith)

  behind : drop 13 whole ≡ body ++ (0 ∷ tail)
  behind = append_assoc body (0 ∷ []) tail

  its_body : body_of whole ≡ body
  its_body = (λ i. take (long_body i) (behind i)) ∙ take_at body (0 ∷ tail) (length body) refl

  format : format_of whole ≡ 2
  format = sym (get_or-drop 13 whole 0 0) ∙ ap (λ (l : List ℕ). get_or l 0 0) behind ∙ first body second
    where
      first : (b : List ℕ) → get_or b 0 0 ≡ 2 → get_or (b ++ (0 ∷ tail)) 0 0 ≡ 2
      first [] e = absurd (omega (arith, e))
      first (x ∷ b) e = e

  begins : journal_start whole ≡ 13 + length body
  begins = ap (λ (n : ℕ). 13 + n) long_body

  next_byte : get_or whole (13 + length body) 0 ≡ 0
  next_byte = sym (get_or-drop 13 whole (length body) 0) ∙ ap (λ (l : List ℕ). get_or l (length body) 0) behind ∙ get_or_at body 0 tail 0 (length body) refl

  none : stands_at whole (journal_start whole) ≡ false
  none = ap (stands_at whole) begins ∙ and_right (nat_lt (13 + length body) (length whole)) (get_or whole (13 + length body) 0 == open_gate) (ap (λ (b : ℕ). b == open_gate) next_byte)

  no_places : entry_places whole ≡ []
  no_places = places_rest whole has ∙ rest_none whole (journal_start whole) none

  says_body : body_says whole ≡ Ok next
  says_body =
      ap (λ (b : Bool). if b then Err 9 else found_at 13 (record_of (body_of whole))) (le-ltb 4083 (body_length whole) (omega (arith, long_body, fits)))
      ∙ ap (λ (b : List ℕ). found_at 13 (record_of b)) its_body ∙ ap (found_at 13) reads

  file : IsFile whole next
  file = record {
    long = long;
    first = next;
    body = says_body;
    changes = ap (λ (places : List ℕ). changed_by whole places (base_of (Some whole)) next) no_places;
  }

  pub whole_says_next : file_says whole ≡ Ok next
  whole_says_next = joined whole next file

  ends : journal_end whole ≡ Some (13 + length body)
  ends = end_of_journal whole has ∙ (λ i. Some (end_behind whole (begins i) (no_places i)))

  pub whole_settled : (side : Side) → settled side whole next ≡ record { rec = next; sequence = base; side = Some side; end = Some (13 + length body); format = 2 }
  whole_settled side =
      let count : base_of (Some whole) + length (entry_places whole) ≡ base = (λ i. whole_base i + length (no_places i)) ∙ omega arith in
      λ i. record { rec = next; sequence = count i; side = Some side; end = ends i; format = format i }

-- a torn gate: the file is whole, or not open
pub gate_or_shut : (f g b : List ℕ) → length b ≡ 1 → 1 ≤ length f → get_or f 0 0 ≡ open_gate → SameOutside (span_of 0 b ∷ []) f g → (g ≡ f) ⊎ (is_open (Some g) ≡ false)
gate_or_shut f g b one some opened torn = elim (cases_eq (get_or g 0 0) open_gate) [
  | inl same ↦ inl (ext_get_or 0 g f torn.long (each same))
  | inr shut ↦ inr (open_at g (omega (arith, torn.long, some)) ∙ ne_eqb (get_or g 0 0) open_gate shut)
]
  where
    each : get_or g 0 0 ≡ open_gate → (i : ℕ) → i < length g → get_or g i 0 ≡ get_or f i 0
    each same i lt = elim (cases_eq i 0) [
      | inl zero ↦ ap (λ (n : ℕ). get_or g n 0) zero ∙ same ∙ sym opened ∙ ap (λ (n : ℕ). get_or f n 0) (sym zero)
      | inr more ↦ torn.kept i (inr (behind more), tt)
    ]
      where
        behind : (i ≡ 0 → ⊥) → 0 + length b ≤ i
        behind more = elim (cases_order i 0) [
          | inl same ↦ absurd (more same)
          | inr (inl less) ↦ absurd (omega arith)
          | inr (inr above) ↦ omega (arith, one)
        ]
