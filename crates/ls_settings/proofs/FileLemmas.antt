-- What a settings file says, in its parts.
use Rattle.std.proofs.Common.{◌≡◌, inl, inr, ◌≤◌, ◌+◌, ◌==◌, min, ℕ, Bool, true, false, List, [], ◌∷◌, length, take, drop, get_or, if◌then◌else◌, nat_lt, Option, Some, None, Result, Ok, Err, refl, sym, ◌∙◌, ap, subst, arith, le-ltb, ltb-false, eqb-true}
use Rattle.std.proofs.lemmas.Bool.{cases_eq}
use Rattle.std.proofs.lemmas.List.{take_all}
use Rattle.ls_record.specs.declared.fault.RecordFault.{RecordFault}
use Rattle.ls_record.specs.declared.fault.RecordFault.TheVariants.{Short}
use Rattle.ls_record.specs.Rows.{Rec}
use Rattle.ls_record.specs.Reading.{record_of, body_at, number}
use Rattle.ls_naming.specs.Current.{is_open, open_gate, base_of, body_length, body_of, body_says, has_journal, journal_start, journal_end, entry_places, places_from, end_behind, changed_by, found_at, place_of, and_then, whole_says, front_says, file_says}
use Rattle.ls_settings.specs.FileReading.{rest_from}
use Rattle.ls_settings.proofs.JournalLemmas.{IsWalk, rest_walk}

-- ---- the steps of reading

rec_same : (x y : Rec) → ◌≡◌ {A = Result Rec ℕ} (Ok x) (Ok y) → x ≡ y
rec_same x y e = cc

no_rec : (at : ℕ) (x : Rec) → ◌≡◌ {A = Result Rec ℕ} (Err at) (Ok x) → ⊥
no_rec at x e = cc

and_then_ok : (x : Result Rec ℕ) (next : Rec → Result Rec ℕ) (v : Rec) → and_then x next ≡ Ok v → (a : Rec) × ((x ≡ Ok a) × (next a ≡ Ok v))
and_then_ok (Ok a) next v e = (a, (refl, e))
and_then_ok (Err at) next v e = absurd (no_rec at v e)

whole_ok : (n : ℕ) (q r : Rec) → whole_says n q ≡ Ok r → (n ≡ 4096) × (q ≡ r)
whole_ok n q r e = by (n == 4096) refl e
  where
    by : (b : Bool) → (n == 4096) ≡ b → (if b then Ok q else Err (min n 4096)) ≡ Ok r → (n ≡ 4096) × (q ≡ r)
    by true is found = (eqb-true n 4096 is, rec_same q r found)
    by false is found = absurd (no_rec (min n 4096) r found)

-- ---- a file without a fault

pub record IsFile (bytes : List ℕ) (r : Rec) : Type 0 where
  pub long : length bytes ≡ 4096
  pub first : Rec
  pub body : body_says bytes ≡ Ok first
  pub changes : changed_by bytes (entry_places bytes) (base_of (Some bytes)) first ≡ Ok r

pub parts : (bytes : List ℕ) (r : Rec) → file_says bytes ≡ Ok r → IsFile bytes r
parts bytes r e = by (nat_lt (length bytes) 13) e
  where
    by : (b : Bool) → (if b then Err (length bytes) else and_then (front_says (take 4096 bytes)) (whole_says (length bytes))) ≡ Ok r → IsFile bytes r
    by true found = absurd (no_rec (length bytes) r found)
    by false found =
        let a = and_then_ok (front_says (take 4096 bytes)) (whole_says (length bytes)) r found in
        let w = whole_ok (length bytes) a.0 r a.1.1 in
        let all : take 4096 bytes ≡ bytes = take_all 4096 bytes (omega (arith, w.0)) in
        let front : front_says bytes ≡ Ok a.0 = ap front_says (sym all) ∙ a.1.0 in
        let b = and_then_ok (body_says bytes) (changed_by bytes (entry_places bytes) (base_of (Some bytes))) a.0 front in
        record { long = w.0; first = b.0; body = b.1.0; changes = b.1.1 ∙ ap (λ (q : Rec). Ok q) w.1 }

pub joined : (bytes : List ℕ) (r : Rec) → IsFile bytes r → file_says bytes ≡ Ok r
joined bytes r f =
    ap (λ (b : Bool). if b then Err (length bytes) else and_then (front_says (take 4096 bytes)) (whole_says (length bytes))) (le-ltb (length bytes) 13 (omega (arith, f.long)))
    ∙ ap (λ (l : List ℕ). and_then (front_says l) (whole_says (length bytes))) (take_all 4096 bytes (omega (arith, f.long)))
    ∙ ap (λ (x : Result Rec ℕ). and_then (and_then x (changed_by bytes (entry_places bytes) (base_of (Some bytes)))) (whole_says (length bytes))) f.body
    ∙ ap (λ (x : Result Rec ℕ). and_then x (whole_says (length bytes))) f.changes
    ∙ ap (λ (n : ℕ). whole_says n r) f.long

-- ---- its body

no_body : record_of [] ≡ Err (Short 0)
unfolding body_at number
no_body = refl

pub record IsBody (bytes : List ℕ) (first : Rec) : Type 0 where
  pub few : body_length bytes ≤ 4083
  pub some : 1 ≤ body_length bytes
  pub reads : record_of (body_of bytes) ≡ Ok first

body_reads : (bytes : List ℕ) (first : Rec) (x : Result Rec RecordFault) → record_of (body_of bytes) ≡ x → found_at 13 x ≡ Ok first → record_of (body_of bytes) ≡ Ok first
body_reads bytes first (Ok q) e found = e ∙ ap (λ (z : Rec). Ok z) (rec_same q first found)
body_reads bytes first (Err f) e found = absurd (no_rec (13 + place_of f) first found)

body_some : (bytes : List ℕ) (first : Rec) → record_of (body_of bytes) ≡ Ok first → 1 ≤ body_length bytes
body_some bytes first reads = elim (cases_eq (body_length bytes) 0) [
  | inl none ↦
      let no : ◌≡◌ {A = Result Rec RecordFault} (Err (Short 0)) (Ok first) =
      sym no_body ∙ ap (λ (n : ℕ). record_of (take n (drop 13 bytes))) (sym none) ∙ reads in
      absurd (cc)
  | inr some ↦ omega arith
]

pub body_parts : (bytes : List ℕ) (first : Rec) → body_says bytes ≡ Ok first → IsBody bytes first
body_parts bytes first e = by (nat_lt 4083 (body_length bytes)) refl e
  where
    by : (b : Bool) → nat_lt 4083 (body_length bytes) ≡ b → (if b then Err 9 else found_at 13 (record_of (body_of bytes))) ≡ Ok first → IsBody bytes first
    by true is found = absurd (no_rec 9 first found)
    by false is found =
        let reads = body_reads bytes first (record_of (body_of bytes)) refl found in
        record { few = ltb-false 4083 (body_length bytes) is; some = body_some bytes first reads; reads = reads }

-- ---- its journal

pub record IsJournal (bytes : List ℕ) (p : ℕ) : Type 0 where
  pub has : has_journal bytes ≡ true
  pub end : end_behind bytes (journal_start bytes) (entry_places bytes) ≡ p
  pub walk : IsWalk bytes (journal_start bytes) (entry_places bytes)

pub places_rest : (bytes : List ℕ) → has_journal bytes ≡ true → entry_places bytes ≡ rest_from bytes (journal_start bytes)
places_rest bytes has = ap (λ (b : Bool). if b then places_from (length bytes) bytes (journal_start bytes) else []) has

pub end_of_journal : (bytes : List ℕ) → has_journal bytes ≡ true → journal_end bytes ≡ Some (end_behind bytes (journal_start bytes) (entry_places bytes))
end_of_journal bytes has = ap (λ (b : Bool). if b then Some (end_behind bytes (journal_start bytes) (entry_places bytes)) else None) has

some_same : (x y : ℕ) → ◌≡◌ {A = Option ℕ} (Some x) (Some y) → x ≡ y
some_same x y e = cc

pub journal : (bytes : List ℕ) (p : ℕ) → journal_end bytes ≡ Some p → IsJournal bytes p
journal bytes p e = by (has_journal bytes) refl e
  where
    by : (b : Bool) → has_journal bytes ≡ b → (if b then Some (end_behind bytes (journal_start bytes) (entry_places bytes)) else None) ≡ Some p → IsJournal bytes p
    by true has found = record {
      has = has;
      end = some_same _ p found;
      walk = subst (IsWalk bytes (journal_start bytes)) (sym (places_rest bytes has)) (rest_walk bytes (journal_start bytes));
    }
    by false has found = absurd (let no : ◌≡◌ {A = Option ℕ} None (Some p) = found in cc)

-- ---- its gate

pub open_at : (bytes : List ℕ) → 1 ≤ length bytes → is_open (Some bytes) ≡ (get_or bytes 0 0 == open_gate)
open_at [] some = absurd (omega arith)
open_at (gate ∷ rest) some = refl
