-- An entry whose gate is opened at the end of a journal, and what it changes.
use Rattle.std.proofs.Common.{◌≡◌, ◌⊎◌, ◌≤◌, ◌<◌, ◌^◌, ◌%◌, ℕ, zero, suc, ◌+◌, not, true, false, cond, List, [], ◌∷◌, ◌++◌, length, get_or, Result, Ok, Err, refl, sym, ap, subst, ◌∙◌, arith, inl, inr}
use Rattle.std.specs.List.{AllByRecursion}
use Rattle.std.proofs.Math.Dec.{eqb, ltb, leb}
use Rattle.std.proofs.lemmas.Bool.{and_parts, ltb-true, cases_Bool}
use Rattle.ls_record.specs.Rows.{Rec}
use Rattle.ls_record.specs.EditReading.{edited_of}
use Rattle.ls_naming.specs.Current.{open_gate, journal_start, stands_at, entry_end, format_of, places_from, entry_places, end_behind, has_journal, SameEntry, SameChange, OpensEntry, and_then, found_at, last_sequence, changed_at, changed_by}
use Rattle.ls_naming.proofs.CurrentLemmas.{place_there, no_place, no_more}

-- ---- how many entries there are

-- none stands where nothing stands
pub nowhere : (most : ℕ) (bytes : List ℕ) (at : ℕ) → stands_at bytes at ≡ false → places_from most bytes at ≡ []
nowhere zero bytes at none = no_more bytes at
nowhere (suc most) bytes at none = no_place most bytes at none

within : (bytes : List ℕ) (at : ℕ) → stands_at bytes at ≡ true → at < length bytes
within bytes at there = ltb-true at (length bytes) (and_parts (ltb at (length bytes)) (eqb (get_or bytes at 0) open_gate) there).0

-- fewer than there are bytes from the place on, or none
abbrev Few : List ℕ → ℕ → List ℕ → Type 0
Few bytes at places = (length places ≡ 0) ⊎ (length places + at ≤ length bytes)

few : (most : ℕ) (bytes : List ℕ) (at : ℕ) → Few bytes at (places_from most bytes at)
few zero bytes at = inl (ap length (no_more bytes at))
few (suc most) bytes at = by (cases_Bool (stands_at bytes at)) (few most bytes (entry_end bytes at))
  where
    by : (stands_at bytes at ≡ true) ⊎ (stands_at bytes at ≡ false) → Few bytes (entry_end bytes at) (places_from most bytes (entry_end bytes at)) → Few bytes at (places_from (suc most) bytes at)
    by (inl there) rest =
        let here = within bytes at there in
        let more : length (places_from (suc most) bytes at) ≡ suc (length (places_from most bytes (entry_end bytes at))) = ap length (place_there most bytes at there) in
        elim rest [
          | inl none ↦ inr (omega arith)
          | inr some ↦ inr (omega arith)
        ]
    by (inr none) rest = inl (ap length (no_place most bytes at none))

-- ---- one more entry

module _ (old new : List ℕ) where
  -- the entries from a place on are the same, an entry stands behind them, and none behind it
  record IsOneMore (at : ℕ) (places : List ℕ) : Type 0 where
    entries : AllByRecursion (SameEntry old new) places
    opened : stands_at new (end_behind old at places) ≡ true
    closed : stands_at new (entry_end new (end_behind old at places)) ≡ false

  one_more : (most at : ℕ) → length (places_from most old at) < most → IsOneMore at (places_from most old at) → places_from most new at ≡ places_from most old at ++ end_behind old at (places_from most old at) ∷ []
  one_more zero at less h = absurd (omega arith)
  one_more (suc most) at less h = by (cases_Bool (stands_at old at)) (one_more most (entry_end old at))
    where
      by : (stands_at old at ≡ true) ⊎ (stands_at old at ≡ false)
          → (length (places_from most old (entry_end old at)) < most → IsOneMore (entry_end old at) (places_from most old (entry_end old at))
          → places_from most new (entry_end old at) ≡ places_from most old (entry_end old at) ++ end_behind old (entry_end old at) (places_from most old (entry_end old at)) ∷ [])
          → places_from (suc most) new at ≡ places_from (suc most) old at ++ end_behind old at (places_from (suc most) old at) ∷ []
      by (inl there) rest =
          let was = place_there most old at there in
          let here : IsOneMore at (at ∷ places_from most old (entry_end old at)) = subst (IsOneMore at) was h in
          let longer : length (places_from (suc most) old at) ≡ suc (length (places_from most old (entry_end old at))) = ap length was in
          let behind : entry_end new at ≡ entry_end old at = ap (λ n. at + 5 + n) here.entries.0.long in
          let more = rest (omega arith) (record { entries = here.entries.1; opened = here.opened; closed = here.closed }) in
          place_there most new at (here.entries.0.gate ∙ there) ∙ (λ i. at ∷ places_from most new (behind i)) ∙ ap (λ (l : List ℕ). at ∷ l) more
          ∙ ap (λ (l : List ℕ). l ++ end_behind old at l ∷ []) (sym was)
      by (inr none) rest =
          let was = no_place most old at none in
          let here : IsOneMore at [] = subst (IsOneMore at) was h in
          place_there most new at here.opened ∙ ap (λ (l : List ℕ). at ∷ l) (nowhere most new (entry_end new at) here.closed)
          ∙ ap (λ (l : List ℕ). l ++ end_behind old at l ∷ []) (sym was)

  pub opens : OpensEntry old new → entry_places new ≡ entry_places old ++ end_behind old (journal_start old) (entry_places old) ∷ []
  opens h =
      let word : has_journal new ≡ true = ap (λ n. leb (2 ^ 31) n) h.word ∙ h.journal in
      let start : journal_start new ≡ journal_start old = ap (λ n. 13 + n % 2 ^ 31) h.word in
      let places : entry_places old ≡ places_from (length old) old (journal_start old) = rw h.journal refl in
      let now : entry_places new ≡ places_from (length new) new (journal_start new) = rw word refl in
      let one : IsOneMore (journal_start old) (places_from (length old) old (journal_start old)) =
      subst (IsOneMore (journal_start old)) places (record { entries = h.entries; opened = h.opened; closed = h.closed }) in
      let inside = within new (end_behind old (journal_start old) (entry_places old)) h.opened in
      let less : length (places_from (length old) old (journal_start old)) < length old =
      elim (few (length old) old (journal_start old)) [
        | inl none ↦ omega (arith, none, h.long, inside)
        | inr some ↦ omega (arith, some)
      ] in
      now ∙ (λ i. places_from (h.long i) new (start i)) ∙ one_more (length old) (journal_start old) less one
      ∙ ap (λ (l : List ℕ). l ++ end_behind old (journal_start old) l ∷ []) (sym places)

-- ---- changes

then_then : {A B C : Type 0} (p : Result A ℕ) (f : A → Result C ℕ) (g : A → Result B ℕ) (h : B → Result C ℕ) → ((v : A) → f v ≡ and_then (g v) h)
    → and_then p f ≡ and_then (and_then p g) h
then_then (Ok v) f g h each = each v
then_then (Err at) f g h each = refl

pub changed_append : (bytes places more : List ℕ) (sequence : ℕ) (r : Rec)
    → changed_by bytes (places ++ more) sequence r ≡ and_then (changed_by bytes places sequence r) (changed_by bytes more (sequence + length places))
changed_append bytes [] more sequence r = ap (λ n. changed_by bytes more n r) (omega arith)
changed_append bytes (at ∷ places) more sequence r =
    then_then (changed_at bytes at sequence r) (changed_by bytes (places ++ more) (sequence + 1)) (changed_by bytes places (sequence + 1)) (changed_by bytes more (sequence + length (at ∷ places)))
    (λ next. changed_append bytes places more (sequence + 1) next
    ∙ ap (λ n. and_then (changed_by bytes places (sequence + 1) next) (changed_by bytes more n)) (omega arith))

pub changed_same : (old new : List ℕ) → format_of new ≡ format_of old → (places : List ℕ) → AllByRecursion (SameChange old new) places → (sequence : ℕ) (r : Rec)
    → changed_by new places sequence r ≡ changed_by old places sequence r
changed_same old new format [] all sequence r = refl
changed_same old new format (at ∷ places) all sequence r =
    (λ i. and_then (here i) (λ next. changed_same old new format places all.1 (sequence + 1) next i))
  where
    here : changed_at new at sequence r ≡ changed_at old at sequence r
    here = λ i.
        cond (eqb sequence last_sequence) (Err at)
        (cond (not (all.0.fits i)) (Err (at + 1)) (found_at (at + 5) (edited_of (format i) r (all.0.change i))))
