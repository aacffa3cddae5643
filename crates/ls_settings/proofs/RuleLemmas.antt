-- Where the settings files hold bytes, the current record keeps its rules.
use Rattle.std.proofs.Common.{◌≡◌, ◌<◌, ◌+◌, ◌==◌, ℕ, zero, suc, Bool, true, false, if◌then◌else◌, List, [], ◌∷◌, length, take, drop, get_or, Option, None, Some, Result, Ok, Err, refl, sym, subst, arith}
use Rattle.std.specs.Prelude.{not, nat_lt, slice_index, IfSome}
use Rattle.std.proofs.lemmas.List.{get_or-drop}
use Rattle.ls_formats.specs.declared.side.Side.{Side}
use Rattle.ls_formats.specs.declared.side.Side.TheVariants.{First, Second}
use Rattle.ls_formats.specs.PartNames.{settings_text}
use Rattle.ls_record.specs.declared.fault.RecordFault.{RecordFault}
use Rattle.ls_record.specs.Rows.{Rec, IsRecord, rec}
use Rattle.ls_record.specs.Reading.{record_of}
use Rattle.ls_record.specs.EditReading.{edited_of}
use Rattle.ls_record.proofs.ReaderLemmas.{IsBytes}
use Rattle.ls_record.proofs.RecordReaders.{record_takes}
use Rattle.ls_record.proofs.ChangeLemmas.{changed_keeps}
use Rattle.ls_record.proofs.EditedLemmas.{is_found}
use Rattle.ls_naming.specs.Named.{Files}
use Rattle.ls_naming.specs.Current.{Settled, Foreign, base_of, body_length, body_of, format_of, entry_fits, entry_change, entry_length, entry_places, found_at, and_then, place_of, last_sequence, changed_at, changed_by, body_says, whole_says, front_says, file_says, unsettled, settled, settled_in, side_says, said_by, current_side, current}

-- ---- bytes

taken : (n : ℕ) (bytes : List ℕ) → IsBytes bytes → IsBytes (take n bytes)
taken zero bytes each = λ i. omega arith
taken (suc n) [] each = λ i. omega arith
taken (suc n) (b ∷ bytes) each = at (taken n bytes (λ j. each (suc j)))
  where
    at : IsBytes (take n bytes) → (i : ℕ) → get_or (b ∷ take n bytes) i 0 < 256
    at behind zero = each 0
    at behind (suc i) = behind i

dropped : (n : ℕ) (bytes : List ℕ) → IsBytes bytes → IsBytes (drop n bytes)
dropped n bytes each = λ i. subst (λ (b : ℕ). b < 256) (sym (get_or-drop n bytes i 0)) (each (n + i))

-- ---- answers that are a value

abbrev ok : {A E : Type 0} → A → Result A E
ok v = Ok v

value_found : {A : Type 0} (at : ℕ) (x : Result A RecordFault) (v : A) → found_at at x ≡ Ok v → x ≡ Ok v
value_found {A} at (Ok u) v is = let same : ◌≡◌ {A = Result A ℕ} (Ok u) (Ok v) = is in cc
value_found {A} at (Err f) v is = absurd (let no : ◌≡◌ {A = Result A ℕ} (Err (at + place_of f)) (Ok v) = is in cc)

both_values : {A B : Type 0} (x : Result A ℕ) (next : A → Result B ℕ) (v : B) → and_then x next ≡ Ok v → (u : A) × (x ≡ Ok u) × (next u ≡ Ok v)
both_values (Ok u) next v is = (u, refl, is)
both_values {A} {B} (Err at) next v is = absurd (let no : ◌≡◌ {A = Result B ℕ} (Err at) (Ok v) = is in cc)

value_else : {A : Type 0} (b : Bool) (at : ℕ) (x : Result A ℕ) (v : A) → (if b then Err at else x) ≡ Ok v → x ≡ Ok v
value_else {A} true at x v is = absurd (let no : ◌≡◌ {A = Result A ℕ} (Err at) (Ok v) = is in cc)
value_else false at x v is = is

value_then : {A : Type 0} (b : Bool) (at : ℕ) (u v : A) → ◌≡◌ {A = Result A ℕ} (if b then Ok u else Err at) (Ok v) → u ≡ v
value_then {A} true at u v is = let same : ◌≡◌ {A = Result A ℕ} (Ok u) (Ok v) = is in cc
value_then {A} false at u v is = absurd (let no : ◌≡◌ {A = Result A ℕ} (Err at) (Ok v) = is in cc)

-- ---- a file

module _ (bytes : List ℕ) (each : IsBytes bytes) where
  change_keeps : (at sequence : ℕ) (r next : Rec) → IsRecord r → changed_at bytes at sequence r ≡ Ok next → IsRecord next
  change_keeps at sequence r next keeps is =
      let fits = value_else (sequence == last_sequence) at (if not (entry_fits bytes at) then Err (at + 1) else found_at (at + 5) (edited_of (format_of bytes) r (entry_change bytes at))) next is in
      let found = value_else (not (entry_fits bytes at)) (at + 1) (found_at (at + 5) (edited_of (format_of bytes) r (entry_change bytes at))) next fits in
      let edit = is_found (format_of bytes) r keeps (entry_change bytes at) (taken (entry_length bytes at) (drop (at + 5) bytes) (dropped (at + 5) bytes each)) (Ok next)
      (value_found (at + 5) (edited_of (format_of bytes) r (entry_change bytes at)) next found) in
      subst IsRecord (sym edit.2) (changed_keeps r keeps edit.0 edit.1.may)

  changes_keep : (places : List ℕ) (sequence : ℕ) (r next : Rec) → IsRecord r → changed_by bytes places sequence r ≡ Ok next → IsRecord next
  changes_keep [] sequence r next keeps is = subst IsRecord (let same : ◌≡◌ {A = Result Rec ℕ} (Ok r) (Ok next) = is in cc) keeps
  changes_keep (at ∷ places) sequence r next keeps is =
      let two = both_values (changed_at bytes at sequence r) (λ s. changed_by bytes places (sequence + 1) s) next is in
      changes_keep places (sequence + 1) two.0 next (change_keeps at sequence r two.0 keeps two.1) two.2

  body_keeps : (r : Rec) → body_says bytes ≡ Ok r → IsRecord r
  body_keeps r is =
      let found = value_else (nat_lt 4083 (body_length bytes)) 9 (found_at 13 (record_of (body_of bytes))) r is in
      (record_takes (body_of bytes) r (taken (body_length bytes) (drop 13 bytes) (dropped 13 bytes each)) (value_found 13 (record_of (body_of bytes)) r found)).0

  front_keeps : (r : Rec) → front_says bytes ≡ Ok r → IsRecord r
  front_keeps r is =
      let two = both_values (body_says bytes) (changed_by bytes (entry_places bytes) (base_of (Some bytes))) r is in
      changes_keep (entry_places bytes) (base_of (Some bytes)) two.0 r (body_keeps two.0 two.1) two.2

file_keeps : (bytes : List ℕ) → IsBytes bytes → (r : Rec) → file_says bytes ≡ Ok r → IsRecord r
file_keeps bytes each r is =
    let head = value_else (nat_lt (length bytes) 13) (length bytes) (and_then (front_says (take 4096 bytes)) (whole_says (length bytes))) r is in
    let two = both_values (front_says (take 4096 bytes)) (whole_says (length bytes)) r head in
    subst IsRecord (value_then (length bytes == 4096) _ two.0 r two.2) (front_keeps (take 4096 bytes) (taken 4096 bytes each) two.0 two.1)

-- ---- the settings

blank_keeps : IsRecord (rec [] None)
blank_keeps = record { few = omega arith; rows = tt; pairs = tt; armed = tt }

same_settled : (x y : Settled) → ◌≡◌ {A = Result Settled Foreign} (Ok x) (Ok y) → x ≡ y
same_settled x y is = cc

in_side : (side : Side) (bytes : List ℕ) (says : Result Rec ℕ) → ((r : Rec) → says ≡ Ok r → IsRecord r) → (s : Settled) → settled_in side bytes says ≡ Ok s → IsRecord s.rec
in_side side bytes (Ok r) keeps s is = subst (λ (x : Settled). IsRecord x.rec) (same_settled (settled side bytes r) s is) (keeps r refl)
in_side side bytes (Err at) keeps s is = absurd (let no : ◌≡◌ {A = Result Settled Foreign} (Err (record { name = settings_text side; at = at })) (Ok s) = is in cc)

-- each byte of a file that is there
abbrev HoldsBytes : Option (List ℕ) → Type 0
HoldsBytes file = IfSome file (λ bytes. (i : ℕ) → slice_index bytes i < 256)

side_keeps : (side : Side) (file : Option (List ℕ)) → HoldsBytes file → (s : Settled) → side_says side file ≡ Ok s → IsRecord s.rec
side_keeps side None each s is = subst (λ (x : Settled). IsRecord x.rec) (same_settled unsettled s is) blank_keeps
side_keeps side (Some bytes) each s is = in_side side bytes (file_says bytes) (file_keeps bytes each) s is

said_keeps : (first second : Option (List ℕ)) → HoldsBytes first → HoldsBytes second → (side : Option Side) → (s : Settled) → said_by first second side ≡ Ok s → IsRecord s.rec
said_keeps first second one other None s is = subst (λ (x : Settled). IsRecord x.rec) (same_settled unsettled s is) blank_keeps
said_keeps first second one other (Some First) s is = side_keeps First first one s is
said_keeps first second one other (Some Second) s is = side_keeps Second second other s is

pub current_keeps : (files : Files) (s : Settled) → ((side : Side) → HoldsBytes (files (settings_text side))) → current files ≡ Ok s → IsRecord s.rec
current_keeps files s each is =
    said_keeps (files (settings_text First)) (files (settings_text Second)) (each First) (each Second) (current_side (files (settings_text First)) (files (settings_text Second))) s is
