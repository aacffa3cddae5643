-- The entries of a journal, one behind the other.
use Rattle.std.proofs.Common.{◌≡◌, ◌⊎◌, inl, inr, ◌≤◌, ◌<◌, ◌+◌, ◌-◌, ◌*◌, ◌^◌, ◌==◌, ◌&&◌, not, min, ℕ, zero, suc, Bool, true, false, List, [], ◌∷◌, ◌++◌, length, take, drop, get_or, if◌then◌else◌, nat_lt, nat_le, Result, Ok, Err, refl, sym, ◌∙◌, ap, subst, arith, le-ltb, length-take, length-drop}
use Rattle.std.proofs.lemmas.Bool.{cases_Bool}
use Rattle.std.proofs.lemmas.List.{get_or-take, get_or-drop, ext_get_or}
use Rattle.byteorder.specs.Endian.{big_from, big_number}
use Rattle.ls_record.specs.Rows.{Rec}
use Rattle.ls_record.specs.EditReading.{edited_of}
use Rattle.ls_naming.specs.Current.{open_gate, stands_at, entry_length, entry_change, entry_end, places_from, end_behind, format_of, found_at, and_then, changed_at, changed_by, last_sequence}
use Rattle.ls_naming.proofs.CurrentLemmas.{place_there, no_place}
use Rattle.ls_settings.specs.FileReading.{rest_from}

-- ---- one entry more

none_past : (bytes : List ℕ) (at : ℕ) → length bytes ≤ at → stands_at bytes at ≡ false
none_past bytes at past = ap (λ (b : Bool). b && (get_or bytes at 0 == open_gate)) (le-ltb at (length bytes) past)

none_from : (most : ℕ) (bytes : List ℕ) (at : ℕ) → stands_at bytes at ≡ false → places_from most bytes at ≡ []
unfolding places_from
none_from zero bytes at e = refl
none_from (suc most) bytes at e = no_place most bytes at e

-- the places are those of any number of entries that is enough
enough : (m n : ℕ) (bytes : List ℕ) (at : ℕ) → length bytes ≤ at + m → length bytes ≤ at + n → places_from m bytes at ≡ places_from n bytes at
enough zero n bytes at h k = none_from zero bytes at (none_past bytes at (omega arith)) ∙ sym (none_from n bytes at (none_past bytes at (omega arith)))
enough (suc m) zero bytes at h k = none_from (suc m) bytes at (none_past bytes at (omega arith)) ∙ sym (none_from zero bytes at (none_past bytes at (omega arith)))
enough (suc m) (suc n) bytes at h k = by (cases_Bool (stands_at bytes at)) (enough m n bytes (entry_end bytes at) (omega arith) (omega arith))
  where
    by : (stands_at bytes at ≡ true) ⊎ (stands_at bytes at ≡ false) → places_from m bytes (entry_end bytes at) ≡ places_from n bytes (entry_end bytes at)
        → places_from (suc m) bytes at ≡ places_from (suc n) bytes at
    by (inl there) rest = place_there m bytes at there ∙ ap (λ (l : List ℕ). at ∷ l) rest ∙ sym (place_there n bytes at there)
    by (inr none) rest = no_place m bytes at none ∙ sym (no_place n bytes at none)

pub rest_there : (bytes : List ℕ) (at : ℕ) → stands_at bytes at ≡ true → rest_from bytes at ≡ at ∷ rest_from bytes (entry_end bytes at)
rest_there bytes at there = enough (length bytes) (suc (length bytes)) bytes at (omega arith) (omega arith) ∙ place_there (length bytes) bytes at there

pub rest_none : (bytes : List ℕ) (at : ℕ) → stands_at bytes at ≡ false → rest_from bytes at ≡ []
rest_none bytes at none = none_from (length bytes) bytes at none

-- ---- a walk along the entries

-- open entries stand at these places, each behind the one before
abbrev pub Chain : List ℕ → ℕ → List ℕ → Type 0
Chain bytes at [] = Unit {0}
Chain bytes at (p ∷ places) = (at ≡ p) × ((stands_at bytes p ≡ true) × Chain bytes (entry_end bytes p) places)

-- and none behind them
pub record IsWalk (bytes : List ℕ) (at : ℕ) (places : List ℕ) : Type 0 where
  pub chain : Chain bytes at places
  pub ended : stands_at bytes (end_behind bytes at places) ≡ false

walk_from : (most : ℕ) (bytes : List ℕ) (at : ℕ) → length bytes ≤ at + most → IsWalk bytes at (places_from most bytes at)
unfolding places_from
walk_from zero bytes at h = record { chain = tt; ended = none_past bytes at (omega arith) }
walk_from (suc most) bytes at h = by (cases_Bool (stands_at bytes at)) (walk_from most bytes (entry_end bytes at) (omega arith))
  where
    by : (stands_at bytes at ≡ true) ⊎ (stands_at bytes at ≡ false) → IsWalk bytes (entry_end bytes at) (places_from most bytes (entry_end bytes at))
        → IsWalk bytes at (places_from (suc most) bytes at)
    by (inl there) rest = subst (IsWalk bytes at) (sym (place_there most bytes at there)) (record { chain = (refl, (there, rest.chain)); ended = rest.ended })
    by (inr none) rest = subst (IsWalk bytes at) (sym (no_place most bytes at none)) (record { chain = tt; ended = none })

pub rest_walk : (bytes : List ℕ) (at : ℕ) → IsWalk bytes at (rest_from bytes at)
rest_walk bytes at = walk_from (length bytes) bytes at (omega arith)

-- there is one walk
pub walk_rest : (bytes : List ℕ) (at : ℕ) (places : List ℕ) → IsWalk bytes at places → rest_from bytes at ≡ places
walk_rest bytes at [] w = rest_none bytes at w.ended
walk_rest bytes at (p ∷ places) w =
    ap (rest_from bytes) w.chain.0 ∙ rest_there bytes p w.chain.1.0 ∙ ap (λ (l : List ℕ). p ∷ l) (walk_rest bytes (entry_end bytes p) places (record { chain = w.chain.1.1; ended = w.ended }))

-- it goes forward
pub chain_forward : (bytes : List ℕ) (at : ℕ) (places : List ℕ) → Chain bytes at places → at ≤ end_behind bytes at places
chain_forward bytes at [] c = omega arith
chain_forward bytes at (p ∷ places) c = omega (arith, c.0, chain_forward bytes (entry_end bytes p) places c.1.1)

-- one chain behind another
pub chain_append : (bytes : List ℕ) (at : ℕ) (places more : List ℕ) → Chain bytes at places → Chain bytes (end_behind bytes at places) more → Chain bytes at (places ++ more)
chain_append bytes at [] more c d = d
chain_append bytes at (p ∷ places) more c d = (c.0, (c.1.0, chain_append bytes (entry_end bytes p) places more c.1.1 d))

pub end_append : (bytes : List ℕ) (at : ℕ) (places more : List ℕ) → end_behind bytes at (places ++ more) ≡ end_behind bytes (end_behind bytes at places) more
end_append bytes at [] more = refl
end_append bytes at (p ∷ places) more = end_append bytes (entry_end bytes p) places more

and_then_last : (bytes more : List ℕ) (n : ℕ) (places : List ℕ) (sequence : ℕ) (x : Result Rec ℕ)
    → ((r : Rec) → changed_by bytes (places ++ more) (sequence + 1) r ≡ and_then (changed_by bytes places (sequence + 1) r) (λ next. changed_by bytes more (sequence + 1 + length places) next))
    → and_then x (λ next. changed_by bytes (places ++ more) (sequence + 1) next)
    ≡ and_then (and_then x (λ next. changed_by bytes places (sequence + 1) next)) (λ next. changed_by bytes more (sequence + suc (length places)) next)
and_then_last bytes more n places sequence (Ok r) h =
    h r ∙ ap (λ (k : ℕ). and_then (changed_by bytes places (sequence + 1) r) (λ next. changed_by bytes more k next)) (omega arith)
and_then_last bytes more n places sequence (Err at) h = refl

zero_more : (sequence : ℕ) → sequence ≡ sequence + 0
zero_more sequence = omega arith

pub changed_append : (bytes : List ℕ) (places more : List ℕ) (sequence : ℕ) (r : Rec)
    → changed_by bytes (places ++ more) sequence r ≡ and_then (changed_by bytes places sequence r) (λ next. changed_by bytes more (sequence + length places) next)
changed_append bytes [] more sequence r = ap (λ (k : ℕ). changed_by bytes more k r) (zero_more sequence)
changed_append bytes (p ∷ places) more sequence r =
    and_then_last bytes more 0 places sequence (changed_at bytes p sequence r) (changed_append bytes places more (sequence + 1))

-- ---- two files that are the same below a place

pub record SameBelow (old new : List ℕ) (n : ℕ) : Type 0 where
  pub long : length new ≡ length old
  pub kept : (i : ℕ) → i < n → get_or new i 0 ≡ get_or old i 0

same_big : (n i : ℕ) (xs ys : List ℕ) → ((j : ℕ) → j < i + n → get_or xs j 0 ≡ get_or ys j 0) → big_from i n xs ≡ big_from i n ys
same_big zero i xs ys h = refl
same_big (suc n) i xs ys h =
    let first : get_or xs i 0 ≡ get_or ys i 0 = h i (omega arith) in
    let rest : big_from (suc i) n xs ≡ big_from (suc i) n ys = same_big n (suc i) xs ys (λ j lt. h j (omega arith)) in
    λ k. first k * 256 ^ n + rest k

module _ (old new : List ℕ) (n : ℕ) (same : SameBelow old new n) where
  same_drop : (k j : ℕ) → k + j < n → get_or (drop k new) j 0 ≡ get_or (drop k old) j 0
  same_drop k j lt = get_or-drop k new j 0 ∙ same.kept (k + j) lt ∙ sym (get_or-drop k old j 0)

  pub same_number : (width k : ℕ) → k + width ≤ n → big_number width (drop k new) ≡ big_number width (drop k old)
  same_number width k fits = same_big width 0 (drop k new) (drop k old) (λ j lt. same_drop k j (omega arith))

  pub same_range : (k len : ℕ) → k + len ≤ n → take len (drop k new) ≡ take len (drop k old)
  same_range k len fits = ext_get_or 0 (take len (drop k new)) (take len (drop k old)) lengths each
    where
      lengths : length (take len (drop k new)) ≡ length (take len (drop k old))
      lengths = length-take len (drop k new) ∙ ap (min len) (length-drop k new ∙ ap (λ (l : ℕ). l - k) same.long ∙ sym (length-drop k old)) ∙ sym (length-take len (drop k old))

      each : (i : ℕ) → i < length (take len (drop k new)) → get_or (take len (drop k new)) i 0 ≡ get_or (take len (drop k old)) i 0
      each i lt =
          let within : i < len = omega (arith, length-take len (drop k new)) in
          get_or-take len (drop k new) i 0 within ∙ same_drop k i (omega arith) ∙ sym (get_or-take len (drop k old) i 0 within)

  pub same_stands : (at : ℕ) → at < n → stands_at new at ≡ stands_at old at
  same_stands at lt =
      let byte : get_or new at 0 ≡ get_or old at 0 = same.kept at lt in
      λ i. nat_lt at (same.long i) && (byte i == open_gate)

  same_length : (p : ℕ) → p + 5 ≤ n → entry_length new p ≡ entry_length old p
  same_length p fits = same_number 4 (p + 1) (omega arith)

  same_end : (p : ℕ) → p + 5 ≤ n → entry_end new p ≡ entry_end old p
  same_end p fits = ap (λ (l : ℕ). p + 5 + l) (same_length p fits)

  pub same_chain : (at : ℕ) (places : List ℕ) → Chain old at places → end_behind old at places ≤ n → Chain new at places × (end_behind new at places ≡ end_behind old at places)
  same_chain at [] c below = (tt, refl)
  same_chain at (p ∷ places) c below =
      let ahead : entry_end old p ≤ n = omega (arith, chain_forward old (entry_end old p) places c.1.1) in
      let end : entry_end new p ≡ entry_end old p = same_end p (omega arith) in
      let rest = same_chain (entry_end old p) places c.1.1 below in (
        (c.0, (same_stands p (omega arith) ∙ c.1.0, subst (λ (e : ℕ). Chain new e places) (sym end) rest.0)),
        ap (λ (e : ℕ). end_behind new e places) end ∙ rest.1,
      )

  same_change : (p sequence : ℕ) (r : Rec) → entry_end old p ≤ n → format_of new ≡ format_of old → changed_at new p sequence r ≡ changed_at old p sequence r
  same_change p sequence r ahead format =
      let end : entry_end new p ≡ entry_end old p = same_end p (omega arith) in
      let len : entry_length new p ≡ entry_length old p = same_length p (omega arith) in
      let change : entry_change new p ≡ entry_change old p = ap (λ (l : ℕ). take l (drop (p + 5) new)) len ∙ same_range (p + 5) (entry_length old p) ahead in
      λ i. if sequence == last_sequence then Err p
      else if not (nat_le (p + 5) (same.long i) && nat_le (end i) (same.long i)) then Err (p + 1)
      else found_at (p + 5) (edited_of (format i) r (change i))

  pub same_changes : (at : ℕ) (places : List ℕ) (sequence : ℕ) (r : Rec) → Chain old at places → end_behind old at places ≤ n → format_of new ≡ format_of old
      → changed_by new places sequence r ≡ changed_by old places sequence r
  same_changes at [] sequence r c below format = refl
  same_changes at (p ∷ places) sequence r c below format =
      let ahead : entry_end old p ≤ n = omega (arith, chain_forward old (entry_end old p) places c.1.1) in
      ap (λ (x : Result Rec ℕ). and_then x (λ next. changed_by new places (sequence + 1) next)) (same_change p sequence r ahead format)
      ∙ each (λ next. same_changes (entry_end old p) places (sequence + 1) next c.1.1 below format) (changed_at old p sequence r)
    where
      each : ((next : Rec) → changed_by new places (sequence + 1) next ≡ changed_by old places (sequence + 1) next)
          → (x : Result Rec ℕ) → and_then x (λ next. changed_by new places (sequence + 1) next) ≡ and_then x (λ next. changed_by old places (sequence + 1) next)
      each later (Ok next) = later next
      each later (Err e) = refl
