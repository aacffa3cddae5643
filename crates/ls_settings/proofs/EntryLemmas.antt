-- A file with another entry behind its journal, whole or torn.
use Rattle.std.proofs.Common.{◌≡◌, ◌⊎◌, inl, inr, ◌≤◌, ◌<◌, ◌+◌, ◌%◌, ◌^◌, ◌==◌, not, ℕ, true, false, List, [], ◌∷◌, ◌++◌, length, take, drop, get_or, if◌then◌else◌, nat_lt, nat_le, Some, Result, Ok, Err, refl, sym, ◌∙◌, ap, subst, arith, ne_eqb, lt-ltb, le-leb, append_assoc, length-append, length-take, drop-drop}
use Rattle.std.proofs.lemmas.Bool.{cases_eq, cases_order, and_from, and_right}
use Rattle.std.proofs.lemmas.List.{take_at, drop_at, get_or-drop, get_or_at, ext_get_or}
use Rattle.byteorder.specs.Endian.{big_number}
use Rattle.ls_bytes.proofs.FieldLemmas.{big_number-be32}
use Rattle.ls_formats.specs.declared.side.Side.{Side}
use Rattle.ls_record.specs.Rows.{Rec}
use Rattle.ls_record.specs.Reading.{record_of}
use Rattle.ls_record.specs.EditReading.{edited_of}
use Rattle.ls_naming.specs.Current.{settled, is_open, open_gate, base_of, length_word, body_length, body_of, body_says, format_of, has_journal, journal_start, journal_end, entry_places, entry_length, entry_change, entry_end, entry_fits, stands_at, end_behind, changed_by, changed_at, found_at, and_then, file_says, last_sequence}
use Rattle.ls_board.specs.Images.{SameOutside}
use Rattle.ls_board.specs.Effect.{poked_bytes, span_of}
use Rattle.ls_settings.specs.Commits.{entry_bytes}
use Rattle.ls_settings.specs.FileReading.{rest_from}
use Rattle.ls_settings.proofs.SyncedLemmas.{length_poked, poked_back}
use Rattle.ls_settings.proofs.JournalLemmas.{SameBelow, Chain, IsWalk, walk_rest, chain_forward, chain_append, end_append, changed_append, same_number, same_range, same_stands, same_chain, same_changes}
use Rattle.ls_settings.proofs.FileLemmas.{IsFile, IsBody, IsJournal, joined, body_parts, places_rest, end_of_journal, open_at}

pub poked_below : (old : List ℕ) (at : ℕ) (b : List ℕ) → at + length b ≤ length old → SameBelow old (poked_bytes old at b) at
poked_below old at b fits = record {
  long = length_poked old at b fits;
  kept = λ i lt. sym ((poked_back old at b fits).kept i (inl lt, tt));
}

pub below_trans : (a b c : List ℕ) (n : ℕ) → SameBelow a b n → SameBelow b c n → SameBelow a c n
below_trans a b c n first second = record { long = second.long ∙ first.long; kept = λ i lt. second.kept i lt ∙ first.kept i lt }

pub below_less : (a b : List ℕ) (m n : ℕ) → m ≤ n → SameBelow a b n → SameBelow a b m
below_less a b m n le same = record { long = same.long; kept = λ i lt. same.kept i (omega arith) }

module _ (f : List ℕ) (r : Rec) (file : IsFile f r) (p : ℕ) (j : IsJournal f p) where
  body : IsBody f file.first
  body = body_parts f file.first file.body

  abbrev start : ℕ
  start = journal_start f

  begins : start ≤ p
  begins = omega (arith, chain_forward f start (entry_places f) j.walk.chain, j.end)

  pub above_head : 14 ≤ p
  above_head = omega (arith, begins, body.some)

  module _ (g : List ℕ) (same : SameBelow f g p) where
    word : length_word g ≡ length_word f
    word = same_number f g p same 4 9 (omega (arith, above_head))

    pub same_base : base_of (Some g) ≡ base_of (Some f)
    same_base =
        let num : big_number 8 (drop 1 g) ≡ big_number 8 (drop 1 f) = same_number f g p same 8 1 (omega (arith, above_head)) in
        λ i. if nat_lt (same.long i) 9 then 0 else num i

    pub same_gate : is_open (Some g) ≡ is_open (Some f)
    same_gate = open_at g (omega (arith, same.long, file.long)) ∙ ap (λ (b : ℕ). b == open_gate) (same.kept 0 (omega (arith, above_head))) ∙ sym (open_at f (omega (arith, file.long)))

    format : format_of g ≡ format_of f
    format = same.kept 13 (omega (arith, above_head))

    start_same : journal_start g ≡ start
    start_same = ap (λ (w : ℕ). 13 + w % 2 ^ 31) word

    has : has_journal g ≡ true
    has = ap (λ (w : ℕ). nat_le (2 ^ 31) w) word ∙ j.has

    bodies : body_of g ≡ body_of f
    bodies = ap (λ (w : ℕ). take (w % 2 ^ 31) (drop 13 g)) word ∙ same_range f g p same 13 (body_length f) begins

    says_same : body_says g ≡ body_says f
    says_same = λ i. if nat_lt 4083 (word i % 2 ^ 31) then Err 9 else found_at 13 (record_of (bodies i))

    chains : Chain g start (entry_places f) × (end_behind g start (entry_places f) ≡ end_behind f start (entry_places f))
    chains = same_chain f g p same start (entry_places f) j.walk.chain (omega (arith, j.end))

    ends_at : end_behind g start (entry_places f) ≡ p
    ends_at = chains.1 ∙ j.end

    changes : changed_by g (entry_places f) (base_of (Some f)) file.first ≡ Ok r
    changes = same_changes f g p same start (entry_places f) (base_of (Some f)) file.first j.walk.chain (omega (arith, j.end)) format ∙ file.changes

    -- these are its places
    places : (more : List ℕ) → IsWalk g start more → entry_places g ≡ more
    places more w = places_rest g has ∙ ap (rest_from g) start_same ∙ walk_rest g start more w

    -- no open entry stands there: it says the same
    module _ (none : stands_at g p ≡ false) where
      old_places : entry_places g ≡ entry_places f
      old_places = places (entry_places f) (record { chain = chains.0; ended = ap (stands_at g) ends_at ∙ none })

      old_file : IsFile g r
      old_file = record {
        long = same.long ∙ file.long;
        first = file.first;
        body = says_same ∙ file.body;
        changes = (λ i. changed_by g (old_places i) (same_base i) file.first) ∙ changes;
      }

      pub old_says : file_says g ≡ Ok r
      old_says = joined g r old_file

      old_end : journal_end g ≡ journal_end f
      old_end =
          end_of_journal g has ∙ (λ i. Some (end_behind g (start_same i) (old_places i))) ∙ ap (λ (n : ℕ). Some n) (ends_at ∙ sym j.end) ∙ sym (end_of_journal f j.has)

      pub old_settled : (side : Side) → settled side g r ≡ settled side f r
      old_settled side = λ i. record {
        rec = r;
        sequence = same_base i + length (old_places i);
        side = Some side;
        end = old_end i;
        format = format i;
      }

    -- one more entry stands there, and none behind it
    module _ (there : stands_at g p ≡ true) (ended : stands_at g (entry_end g p) ≡ false) (next : Rec)
        (fits : entry_end g p ≤ 4096) (unworn : base_of (Some f) + length (entry_places f) + 1 < 2 ^ 64)
        (edits : edited_of (format_of f) r (entry_change g p) ≡ Ok next) where
      new_places : entry_places g ≡ entry_places f ++ p ∷ []
      new_places = places (entry_places f ++ p ∷ []) (record {
        chain = chain_append g start (entry_places f) (p ∷ []) chains.0 (ends_at, (there, tt));
        ended = ap (stands_at g) (end_append g start (entry_places f) (p ∷ [])) ∙ ended;
      })

      unworn_test : (base_of (Some f) + length (entry_places f) == last_sequence) ≡ false
      unworn_test = ne_eqb (base_of (Some f) + length (entry_places f)) last_sequence (λ is. omega (arith, is, unworn))

      fits_test : entry_fits g p ≡ true
      fits_test = and_from (nat_le (p + 5) (length g)) (nat_le (entry_end g p) (length g))
          (le-leb (p + 5) (length g) (omega (arith, same.long, file.long, fits))) (le-leb (entry_end g p) (length g) (omega (arith, same.long, file.long, fits)))

      changed : changed_at g p (base_of (Some f) + length (entry_places f)) r ≡ Ok next
      changed =
          (λ i. if unworn_test i then Err p else if not (fits_test i) then Err (p + 1) else found_at (p + 5) (edited_of (format i) r (entry_change g p)))
          ∙ ap (found_at (p + 5)) edits

      new_file : IsFile g next
      new_file = record {
        long = same.long ∙ file.long;
        first = file.first;
        body = says_same ∙ file.body;
        changes = (λ i. changed_by g (new_places i) (same_base i) file.first)
            ∙ changed_append g (entry_places f) (p ∷ []) (base_of (Some f)) file.first
            ∙ ap (λ (x : Result Rec ℕ). and_then x (λ q. changed_by g (p ∷ []) (base_of (Some f) + length (entry_places f)) q)) changes
            ∙ ap (λ (x : Result Rec ℕ). and_then x (λ q. Ok q)) changed;
      }

      pub new_says : file_says g ≡ Ok next
      new_says = joined g next new_file

      new_end : journal_end g ≡ Some (entry_end g p)
      new_end = end_of_journal g has ∙ (λ i. Some (end_behind g (start_same i) (new_places i)))
          ∙ ap (λ (n : ℕ). Some n) (end_append g start (entry_places f) (p ∷ []))

      pub new_settled : (side : Side) → settled side g next ≡ record {
        rec = next;
        sequence = base_of (Some f) + length (entry_places f) + 1;
        side = Some side;
        end = Some (entry_end g p);
        format = format_of f;
      }
      new_settled side =
          let count : base_of (Some g) + length (entry_places g) ≡ base_of (Some f) + length (entry_places f) + 1 =
          (λ i. same_base i + length (new_places i)) ∙ omega (arith, length-append (entry_places f) (p ∷ [])) in
          λ i. record { rec = next; sequence = count i; side = Some side; end = new_end i; format = format i }

  -- ---- the bytes that are written

  module _ (change : List ℕ) (fits : p + 6 + length change ≤ 4096) where
    abbrev pub with_change : List ℕ
    with_change = poked_bytes f (p + 1) (entry_bytes change)

    abbrev pub with_gate : List ℕ
    with_gate = poked_bytes with_change p (open_gate ∷ [])

    entry_long : length (entry_bytes change) ≡ 5 + length change
    entry_long = omega (arith, length-append change (0 ∷ []))

    pub first_fits : p + 1 + length (entry_bytes change) ≤ length f
    first_fits = omega (arith, entry_long, file.long)

    change_below : SameBelow f with_change (p + 1)
    change_below = poked_below f (p + 1) (entry_bytes change) first_fits

    pub second_fits : p + 1 ≤ length with_change
    second_fits = omega (arith, change_below.long, file.long)

    gate_below : SameBelow f with_gate p
    gate_below = below_trans f with_change with_gate p (below_less f with_change p (p + 1) (omega arith) change_below) (poked_below with_change p (open_gate ∷ []) second_fits)

    abbrev rest : List ℕ
    rest = drop (p + 1 + length (entry_bytes change)) f

    behind_gate : drop (p + 1) with_gate ≡ entry_bytes change ++ rest
    behind_gate =
        drop_at (take p with_change ++ open_gate ∷ []) (drop (p + 1) with_change) (p + 1) (omega (arith, length-append (take p with_change) (open_gate ∷ []), length-take p with_change, second_fits))
        ∙ ap (drop (p + 1)) (append_assoc (take (p + 1) f) (entry_bytes change) rest)
        ∙ drop_at (take (p + 1) f) (entry_bytes change ++ rest) (p + 1) (omega (arith, length-take (p + 1) f, first_fits))

    gate_byte : get_or with_gate p 0 ≡ open_gate
    gate_byte =
        ap (λ (l : List ℕ). get_or l p 0) (append_assoc (take p with_change) (open_gate ∷ []) (drop (p + 1) with_change))
        ∙ get_or_at (take p with_change) open_gate (drop (p + 1) with_change) 0 p (omega (arith, length-take p with_change, second_fits))

    length_is : entry_length with_gate p ≡ length change
    length_is = ap (big_number 4) behind_gate ∙ big_number-be32 (length change) ((change ++ 0 ∷ []) ++ rest) (omega (arith, fits))

    end_is : entry_end with_gate p ≡ p + 5 + length change
    end_is = ap (λ (n : ℕ). p + 5 + n) length_is

    behind_length : drop (p + 5) with_gate ≡ change ++ (0 ∷ rest)
    behind_length =
        ap (λ (n : ℕ). drop n with_gate) (omega arith) ∙ sym (drop-drop 4 (p + 1) with_gate) ∙ ap (drop 4) behind_gate ∙ append_assoc change (0 ∷ []) rest

    change_is : entry_change with_gate p ≡ change
    change_is = (λ i. take (length_is i) (behind_length i)) ∙ take_at change (0 ∷ rest) (length change) refl

    next_byte : get_or with_gate (p + 5 + length change) 0 ≡ 0
    next_byte = sym (get_or-drop (p + 5) with_gate (length change) 0) ∙ ap (λ (l : List ℕ). get_or l (length change) 0) behind_length ∙ get_or_at change 0 rest 0 (length change) refl

    stands : stands_at with_gate p ≡ true
    stands = and_from (nat_lt p (length with_gate)) (get_or with_gate p 0 == open_gate) (lt_test (omega (arith, gate_below.long, file.long, fits))) (ap (λ (b : ℕ). b == open_gate) gate_byte)
      where
        lt_test : p < length with_gate → nat_lt p (length with_gate) ≡ true
        lt_test lt = lt-ltb p (length with_gate) lt

    no_next : stands_at with_gate (entry_end with_gate p) ≡ false
    no_next =
        ap (stands_at with_gate) end_is
        ∙ and_right (nat_lt (p + 5 + length change) (length with_gate)) (get_or with_gate (p + 5 + length change) 0 == open_gate) (ap (λ (b : ℕ). b == open_gate) next_byte)

    -- ---- what is said of them

    module _ (side : Side) (next : Rec) (unworn : base_of (Some f) + length (entry_places f) + 1 < 2 ^ 64) (edits : edited_of (format_of f) r change ≡ Ok next) where
      edits_there : edited_of (format_of f) r (entry_change with_gate p) ≡ Ok next
      edits_there = ap (edited_of (format_of f) r) change_is ∙ edits

      -- the file with the entry
      pub record SaysNew (g : List ℕ) : Type 0 where
        pub gate : is_open (Some g) ≡ is_open (Some f)
        pub base : base_of (Some g) ≡ base_of (Some f)
        pub says : file_says g ≡ Ok next
        pub settled_is : settled side g next ≡ record {
          rec = next;
          sequence = base_of (Some f) + length (entry_places f) + 1;
          side = Some side;
          end = Some (p + 5 + length change);
          format = format_of f;
        }

      pub record SaysOld (g : List ℕ) : Type 0 where
        pub gate : is_open (Some g) ≡ is_open (Some f)
        pub base : base_of (Some g) ≡ base_of (Some f)
        pub says : file_says g ≡ Ok r
        pub settled_is : settled side g r ≡ settled side f r

      pub with_entry_says : SaysNew with_gate
      with_entry_says = record {
        gate = same_gate with_gate gate_below;
        base = same_base with_gate gate_below;
        says = new_says with_gate gate_below stands no_next next (omega (arith, end_is, fits)) unworn edits_there;
        settled_is = new_settled with_gate gate_below stands no_next next (omega (arith, end_is, fits)) unworn edits_there side
            ∙ ap (λ (n : ℕ). record { rec = next; sequence = base_of (Some f) + length (entry_places f) + 1; side = Some side; end = Some n; format = format_of f }) end_is;
      }

      says_old : (g : List ℕ) → SameBelow f g p → stands_at g p ≡ false → SaysOld g
      says_old g same none = record {
        gate = same_gate g same;
        base = same_base g same;
        says = old_says g same none;
        settled_is = old_settled g same none side;
      }

      -- a torn entry behind a closed gate
      pub torn_change : (g : List ℕ) → SameOutside (span_of (p + 1) (entry_bytes change) ∷ []) with_change g → SaysOld g
      torn_change g torn =
          let same : SameBelow f g (p + 1) = record {
            long = torn.long ∙ change_below.long;
            kept = λ i lt. torn.kept i (inl lt, tt) ∙ change_below.kept i lt;
          } in
          says_old g (below_less f g p (p + 1) (omega arith) same)
          (same_stands f g (p + 1) same p (omega arith) ∙ ap (stands_at f) (sym j.end) ∙ j.walk.ended)

      -- a torn gate
      pub torn_gate : (g : List ℕ) → SameOutside (span_of p (open_gate ∷ []) ∷ []) with_gate g → SaysOld g ⊎ SaysNew g
      torn_gate g torn =
          let same : SameBelow f g p = record {
            long = torn.long ∙ gate_below.long;
            kept = λ i lt. torn.kept i (inl lt, tt) ∙ gate_below.kept i lt;
          } in
          elim (cases_eq (get_or g p 0) open_gate) [
            | inl opened ↦ inr (subst SaysNew (sym (whole opened)) with_entry_says)
            | inr shut ↦ inl (says_old g same (and_right (nat_lt p (length g)) (get_or g p 0 == open_gate) (ne_eqb (get_or g p 0) open_gate shut)))
          ]
        where
          whole : get_or g p 0 ≡ open_gate → g ≡ with_gate
          whole opened = ext_get_or 0 g with_gate torn.long each
            where
              each : (i : ℕ) → i < length g → get_or g i 0 ≡ get_or with_gate i 0
              each i lt = elim (cases_eq i p) [
                | inl here ↦ ap (λ (n : ℕ). get_or g n 0) here ∙ opened ∙ sym gate_byte ∙ ap (λ (n : ℕ). get_or with_gate n 0) (sym here)
                | inr other ↦ torn.kept i (apart other, tt)
              ]
                where
                  apart : (i ≡ p → ⊥) → (i < p) ⊎ (p + 1 ≤ i)
                  apart other = elim (cases_order i p) [
                    | inl same ↦ absurd (other same)
                    | inr (inl less) ↦ inl less
                    | inr (inr more) ↦ inr (omega arith)
                  ]
