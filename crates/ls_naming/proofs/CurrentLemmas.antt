-- What the current settings depend on, and that their record keeps its rules.
use Rattle.std.proofs.Common.{◌≡◌, ◌⊎◌, ◌^◌, ◌%◌, ℕ, zero, suc, ◌+◌, Bool, true, false, List, [], ◌∷◌, length, refl, sym, ap, subst, ◌∙◌, inl, inr}
use Rattle.std.specs.List.{AllByRecursion}
use Rattle.std.proofs.Math.Dec.{leb}
use Rattle.std.proofs.lemmas.Bool.{cases_Bool}
use Rattle.ls_formats.specs.PartNames.{settings_text}
use Rattle.ls_formats.specs.declared.side.Side.TheVariants.{First, Second}
use Rattle.ls_naming.specs.Named.{Files}
use Rattle.ls_naming.specs.Current.{journal_start, stands_at, entry_end, places_from, entry_places, end_behind, has_journal, settings_of, current, SameEntry, SameEntries}

pub settings_follow : (old new : Files) → new (settings_text First) ≡ old (settings_text First) → new (settings_text Second) ≡ old (settings_text Second) → current new ≡ current old
settings_follow old new first second = λ i. settings_of (first i) (second i)

-- ---- entries

-- the places after one that stands, and none where none stands
pub place_there : (most : ℕ) (bytes : List ℕ) (at : ℕ) → stands_at bytes at ≡ true → places_from (suc most) bytes at ≡ at ∷ places_from most bytes (entry_end bytes at)
unfolding places_from
place_there most bytes at e = rw e refl

pub no_place : (most : ℕ) (bytes : List ℕ) (at : ℕ) → stands_at bytes at ≡ false → places_from (suc most) bytes at ≡ []
unfolding places_from
no_place most bytes at e = rw e refl

pub no_more : (bytes : List ℕ) (at : ℕ) → places_from 0 bytes at ≡ []
unfolding places_from
no_more bytes at = refl

-- the same gates and lengths along the entries, and behind them
abbrev Along : List ℕ → List ℕ → ℕ → List ℕ → Type 0
Along old new at places = AllByRecursion (SameEntry old new) places × (stands_at new (end_behind old at places) ≡ stands_at old (end_behind old at places))

follow : (most : ℕ) (old new : List ℕ) (at : ℕ) → Along old new at (places_from most old at) → places_from most new at ≡ places_from most old at
follow zero old new at h = no_more new at ∙ sym (no_more old at)
follow (suc most) old new at h = by (cases_Bool (stands_at old at)) (follow most old new (entry_end old at))
  where
    by : (stands_at old at ≡ true) ⊎ (stands_at old at ≡ false)
        → (Along old new (entry_end old at) (places_from most old (entry_end old at)) → places_from most new (entry_end old at) ≡ places_from most old (entry_end old at))
        → places_from (suc most) new at ≡ places_from (suc most) old at
    by (inl there) rest =
        let here : Along old new at (at ∷ places_from most old (entry_end old at)) = subst (Along old new at) (place_there most old at there) h in
        let behind : entry_end new at ≡ entry_end old at = ap (λ n. at + 5 + n) here.0.0.long in
        place_there most new at (here.0.0.gate ∙ there) ∙ (λ i. at ∷ places_from most new (behind i))
        ∙ ap (λ l. at ∷ l) (rest (here.0.1, here.1)) ∙ sym (place_there most old at there)
    by (inr none) rest =
        let here : Along old new at [] = subst (Along old new at) (no_place most old at none) h in
        no_place most new at (here.1 ∙ none) ∙ sym (no_place most old at none)

pub entries_follow : (old new : List ℕ) → SameEntries old new → entry_places new ≡ entry_places old
entries_follow old new h = by (has_journal old) refl
  where
    word : has_journal new ≡ has_journal old
    word = ap (λ n. leb (2 ^ 31) n) h.word

    start : journal_start new ≡ journal_start old
    start = ap (λ n. 13 + n % 2 ^ 31) h.word

    by : (b : Bool) → has_journal old ≡ b → entry_places new ≡ entry_places old
    by true e =
        let places : entry_places old ≡ places_from (length old) old (journal_start old) = rw e refl in
        let along = subst (Along old new (journal_start old)) places (h.entries, h.behind) in
        let same : entry_places new ≡ places_from (length new) new (journal_start new) = rw (word ∙ e) refl in
        same ∙ (λ i. places_from (h.long i) new (start i)) ∙ follow (length old) old new (journal_start old) along ∙ sym places
    by false e =
        let none : entry_places old ≡ [] = rw e refl in
        let none_new : entry_places new ≡ [] = rw (word ∙ e) refl in
        none_new ∙ sym none
