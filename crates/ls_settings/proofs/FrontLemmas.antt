-- What the code reads of the front of a settings file, part by part: its head, body and journal.
use Rattle.std.proofs.Common.{◌≡◌, ◌⊎◌, inl, inr, ◌≤◌, ◌<◌, ◌+◌, ◌%◌, ◌^◌, ℕ, Bool, true, false, List, [], length, take, drop, if◌then◌else◌, None, Some, Result, Ok, Err, sym, ◌∙◌, ap, subst, arith, le-ltb, lt-ltb, length-take, nat_lt}
use Rattle.std.specs.Prelude.{slice_index, get_or}
use Rattle.std.proofs.lemmas.Bool.{lt-leb, le-leb}
use Rattle.std.proofs.lemmas.List.{get_or-take, get_or-drop}
use Rattle.ls_record.specs.Rows.{Rec}
use Rattle.ls_record.specs.declared.fault.RecordFault.{RecordFault}
use Rattle.ls_record.specs.Reading.{record_of}
use Rattle.ls_record.specs.Spelling.{HasFormat, IsTextOf}
use Rattle.ls_naming.specs.Current.{length_word, body_length, body_of, base_of, has_journal, journal_start, entry_places, end_behind, places_from, format_of, found_at, and_then, changed_by, front_says}
use Rattle.ls_settings.specs.declared.content.Content.{Content}
use Rattle.ls_settings.specs.declared.fault.FileFault.{FileFault}
use Rattle.ls_settings.specs.declared.fault.FileFault.TheVariants.{Foreign, Memory}
use Rattle.ls_settings.specs.FileReading.{TellsPlace, IsContent, rest_from}
use Rattle.ls_settings.proofs.FileLemmas.{places_rest, end_of_journal}

-- the first byte of the body is its format
pub body_format : (file body : List ℕ) (n : ℕ) (r : Rec) → body ≡ take n (drop 13 file) → IsTextOf body r → (slice_index file 13 ≡ 1) ⊎ (slice_index file 13 ≡ 2)
body_format file body n r is text = by text.1.1
  where
    some : 0 < n
    some = omega (arith, ap length (text.1.2 ∙ is), length-take n (drop 13 file))

    first : slice_index file 13 ≡ text.1.0
    first = sym (ap (λ (l : List ℕ). get_or l 0 0) (text.1.2 ∙ is) ∙ get_or-take n (drop 13 file) 0 0 some ∙ get_or-drop 13 file 0 0)

    by : HasFormat text.1.0 r → (slice_index file 13 ≡ 1) ⊎ (slice_index file 13 ≡ 2)
    by (inl plain) = inl (first ∙ plain.0)
    by (inr full) = inr (first ∙ full)

module _ (bytes : List ℕ) (word sequence : ℕ) (word_is : word ≡ length_word bytes) (sequence_is : sequence ≡ base_of (Some bytes)) where
  long_is : word % 2 ^ 31 ≡ body_length bytes
  long_is = ap (λ (w : ℕ). w % 2 ^ 31) word_is

  by_length : (b : Bool) → nat_lt 4083 (body_length bytes) ≡ b
      → front_says bytes ≡ and_then (if b then Err 9 else found_at 13 (record_of (body_of bytes))) (changed_by bytes (entry_places bytes) (base_of (Some bytes)))
  by_length b is = ap (λ (x : Bool). and_then (if x then Err 9 else found_at 13 (record_of (body_of bytes))) (changed_by bytes (entry_places bytes) (base_of (Some bytes)))) is

  pub too_long : 4083 < word % 2 ^ 31 → front_says bytes ≡ Err 9
  too_long long = by_length true (lt-ltb 4083 (body_length bytes) (subst (λ (n : ℕ). 4083 < n) long_is long))

  module _ (few : word % 2 ^ 31 ≤ 4083) (body : List ℕ) (body_is : body ≡ take (word % 2 ^ 31) (drop 13 bytes)) where
    by_body : front_says bytes ≡ and_then (found_at 13 (record_of body)) (changed_by bytes (entry_places bytes) (base_of (Some bytes)))
    by_body =
        by_length false (le-ltb 4083 (body_length bytes) (subst (λ (n : ℕ). n ≤ 4083) long_is few))
        ∙ ap (λ (l : List ℕ). and_then (found_at 13 (record_of l)) (changed_by bytes (entry_places bytes) (base_of (Some bytes))))
        (sym (body_is ∙ ap (λ (n : ℕ). take n (drop 13 bytes)) long_is))

    pub bad_body : (e : FileFault) → TellsPlace (found_at 13 (record_of body)) e → TellsPlace (front_says bytes) e
    bad_body (Foreign at) tells = by_body ∙ ap (λ (x : Result Rec ℕ). and_then x (changed_by bytes (entry_places bytes) (base_of (Some bytes)))) tells
    bad_body Memory tells = tt

    module _ (r : Rec) (reads : record_of body ≡ Ok r) where
      by_changes : front_says bytes ≡ changed_by bytes (entry_places bytes) sequence r
      by_changes =
          by_body ∙ ap (λ (x : Result Rec RecordFault). and_then (found_at 13 x) (changed_by bytes (entry_places bytes) (base_of (Some bytes)))) reads
          ∙ ap (λ (s : ℕ). changed_by bytes (entry_places bytes) s r) (sym sequence_is)

      -- there is no journal
      pub plain : word < 2 ^ 31 → (c : Content) → c.record ≡ r → c.sequence ≡ sequence → c.end ≡ None → c.format ≡ format_of bytes → IsContent bytes (front_says bytes) c
      plain less c record_is count ends format =
          let none : has_journal bytes ≡ false = lt-leb (2 ^ 31) (length_word bytes) (subst (λ (w : ℕ). w < 2 ^ 31) word_is less) in
          let places : entry_places bytes ≡ [] = ap (λ (b : Bool). if b then places_from (length bytes) bytes (journal_start bytes) else []) none in
          record {
            says_record = by_changes ∙ ap (λ (l : List ℕ). changed_by bytes l sequence r) places ∙ ap (λ (q : Rec). Ok q) (sym record_is);
            sequence = omega (arith, count, sequence_is, ap length places);
            end = ends ∙ sym (ap (λ (b : Bool). if b then Some (end_behind bytes (journal_start bytes) (entry_places bytes)) else None) none);
            format = format;
          }

      module _ (more : 2 ^ 31 ≤ word) where
        has : has_journal bytes ≡ true
        has = le-leb (2 ^ 31) (length_word bytes) (subst (λ (w : ℕ). 2 ^ 31 ≤ w) word_is more)

        places_are : entry_places bytes ≡ rest_from bytes (13 + word % 2 ^ 31)
        places_are = places_rest bytes has ∙ ap (λ (n : ℕ). rest_from bytes (13 + n)) (sym long_is)

        by_walk : front_says bytes ≡ changed_by bytes (rest_from bytes (13 + word % 2 ^ 31)) sequence r
        by_walk = by_changes ∙ ap (λ (l : List ℕ). changed_by bytes l sequence r) places_are

        pub bad_entry : (e : FileFault) → TellsPlace (changed_by bytes (rest_from bytes (13 + word % 2 ^ 31)) sequence r) e → TellsPlace (front_says bytes) e
        bad_entry (Foreign at) tells = by_walk ∙ tells
        bad_entry Memory tells = tt

        pub with_journal : (c : Content) (at : ℕ) → changed_by bytes (rest_from bytes (13 + word % 2 ^ 31)) sequence r ≡ Ok c.record
            → c.sequence ≡ sequence + length (rest_from bytes (13 + word % 2 ^ 31)) → at ≡ end_behind bytes (13 + word % 2 ^ 31) (rest_from bytes (13 + word % 2 ^ 31))
            → c.end ≡ Some at → c.format ≡ format_of bytes → IsContent bytes (front_says bytes) c
        with_journal c at says count behind ends format = record {
          says_record = by_walk ∙ says;
          sequence = omega (arith, count, sequence_is, ap length places_are);
          end = ends ∙ ap (λ (n : ℕ). Some n) (behind ∙ (λ i. end_behind bytes (13 + long_is i) (sym places_are i))) ∙ sym (end_of_journal bytes has);
          format = format;
        }
