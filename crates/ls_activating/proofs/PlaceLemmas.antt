-- The places of the new protectors: none is that of a protector that is named or retired, and no two are one.
use Rattle.std.proofs.Common.{◌≡◌, ◌≢◌, ◌⊎◌, inl, inr, ⊎_elim, ◌≤◌, ◌<◌, ◌+◌, ◌%◌, ◌^◌, not, ℕ, zero, suc, Bool, true, false, List, [], ◌∷◌, ◌++◌, map, length, Option, None, Some, refl, sym, ◌∙◌, ap, subst, arith}
use Rattle.std.specs.Prelude.{◌==◌, ◌&&◌, is_some}
use Rattle.std.specs.List.{AllByRecursion, Contains}
use Rattle.std.proofs.lemmas.Bool.{eq-eqb, eqb-true}
use Rattle.std.proofs.lemmas.List.Elements.{Contains-append_left, Contains-append_right}
use Rattle.ls_arming.specs.Numbers.{contains}
use Rattle.ls_board.specs.Acts.{Sight}
use Rattle.ls_formats.specs.declared.parts.Parts.{Parts}
use Rattle.ls_placing.specs.Placing.{HasNewPlace, IsFreeSlot, slot_list, slots_of}
use Rattle.ls_protector.specs.Parts.{parts_of}
use Rattle.ls_record.specs.declared.row.UserRow.{UserRow}
use Rattle.ls_record.specs.Rows.{Rec, IsRow, Pairs, has, is_odd, is_protector_id}
use Rattle.ls_sealing.specs.Protectors.{Protector, HasNumbers}
use Rattle.ls_standing.specs.Named.{credential_of, token_of}
use Rattle.ls_standing.specs.NamedProtectors.{NamesProtector, row_protectors}
use Rattle.ls_standing.proofs.ContainsLemmas.{any_contained, at_first, behind_first, first_or_behind, in_flat, in_map, none_in, of_flat, of_map}
use Rattle.ls_standing.proofs.IdLemmas.{is_row}
use Rattle.ls_standing.proofs.PairLemmas.{all_from, each_in}
use Rattle.ls_turn.specs.declared.session.Pending.{Pending}
use Rattle.ls_turn.specs.declared.session.Session.{Session}
use Rattle.ls_turn.specs.Agreeing.{retired_files}
use Rattle.ls_turn.specs.Serving.{CanServe, FitsBoard}
use Rattle.ls_activating.specs.declared.planned.Planned.{Planned}
use Rattle.ls_activating.specs.Counting.{chosen_for, token_ids}
use Rattle.ls_activating.specs.Planning.{AreFree, IsPlannedFor, Made}
use Rattle.ls_activating.proofs.ListLemmas.{has_one}
use Rattle.ls_activating.proofs.MayLemmas.{chosen_in, chosen_odd, chosen_once, here, not_active}

-- ---- slots

slot_in : (slot : Option ℕ) (n : ℕ) → slot ≡ Some n → Contains (slot_list slot) n
slot_in slot n is = subst (λ (o : Option ℕ). Contains (slot_list o) n) (sym is) (at_first n [])

free_of : (slots : ℕ) (taken : List ℕ) (slot : Option ℕ) → IsFreeSlot slots taken slot → (n : ℕ) → Contains taken n → slot ≢ Some n
free_of slots taken None free n has is = absurd (cc)
free_of slots taken (Some m) free n has is =
    let same : m ≡ n = cc in
    let bad : true ≡ false = sym (any_contained (λ (k : ℕ). k == m) taken m (subst (Contains taken) (sym same) has) (eq-eqb m m refl)) ∙ free.lowest.free in
    absurd (cc)

-- each slot fits the board, and none is taken
pub fit_each : (slots : ℕ) (taken : List ℕ) (made : List Made) → AreFree slots taken made → (m : Made) → Contains made m → FitsBoard slots m.slot
fit_each slots taken [] all m within = absurd (none_in m within)
fit_each slots taken (f ∷ made) all m within =
    ⊎_elim (λ (e : f ≡ m). subst (λ (z : Made). FitsBoard slots z.slot) e all.0.fits) (fit_each slots (taken ++ slot_list f.slot) made all.1 m) (first_or_behind f made m within)

pub free_each : (slots : ℕ) (taken : List ℕ) (made : List Made) → AreFree slots taken made → (m : Made) → Contains made m → (n : ℕ) → Contains taken n → m.slot ≢ Some n
free_each slots taken [] all m within n has = absurd (none_in m within)
free_each slots taken (f ∷ made) all m within n has =
    ⊎_elim (λ (e : f ≡ m). subst (λ (z : Made). z.slot ≢ Some n) e (free_of slots taken f.slot all.0 n has))
    (λ later. free_each slots (taken ++ slot_list f.slot) made all.1 m later n (Contains-append_left taken (slot_list f.slot) n has)) (first_or_behind f made m within)

-- no two are one
abbrev pub HasOtherSlot : Made → Made → Type 0
HasOtherSlot m o = (n : ℕ) → m.slot ≡ Some n → o.slot ≢ Some n

pub slots_apart : (slots : ℕ) (taken : List ℕ) (made : List Made) → AreFree slots taken made → Pairs HasOtherSlot made
slots_apart slots taken [] all = tt
slots_apart slots taken (f ∷ made) all = (
  all_from (HasOtherSlot f) made (λ m within n is. free_each slots (taken ++ slot_list f.slot) made all.1 m within n (Contains-append_right taken (slot_list f.slot) n (slot_in f.slot n is))),
  slots_apart slots (taken ++ slot_list f.slot) made all.1,
)

-- ---- pairs of what is taken of each

all_mapped : {X Y : Type 0} (f : X → Y) (P : Y → Type 0) (xs : List X) → AllByRecursion P (map f xs) → AllByRecursion (λ x. P (f x)) xs
all_mapped f P [] all = tt
all_mapped f P (x ∷ xs) all = (all.0, all_mapped f P xs all.1)

pub pairs_mapped : {X Y : Type 0} (f : X → Y) (P : Y → Y → Type 0) (xs : List X) → Pairs P (map f xs) → Pairs (λ x y. P (f x) (f y)) xs
pairs_mapped f P [] all = tt
pairs_mapped f P (x ∷ xs) all = (all_mapped f (P (f x)) xs all.0, pairs_mapped f P xs all.1)

-- ---- ids

odd_some : (n : ℕ) → is_odd n ≡ true → 0 < n
odd_some n odd = let is = eqb-true (n % 2) 1 odd in by n is
  where
    by : (n : ℕ) → n % 2 ≡ 1 → 0 < n
    by zero is = absurd (cc)
    by (suc n) is = omega arith

even_or_odd : (m n : ℕ) → is_protector_id m ≡ true → is_odd n ≡ true → m ≢ n
even_or_odd m n even odd same = by (m % 2 == 0) refl even
  where
    by : (c : Bool) → (m % 2 == 0) ≡ c → (c && not (m == 0)) ≡ true → ⊥
    by true is both = let zero_is = eqb-true (m % 2) 0 is in let one_is = eqb-true (n % 2) 1 odd in let e = ap (λ (k : ℕ). k % 2) same in omega (arith, zero_is, one_is, e)
    by false is both = absurd (cc)

module _ (b : Sight) (x : Session) (can : CanServe b x) (user : ℕ) (k : Planned) (p : IsPlannedFor b x user k) where
  abbrev pub rec : Rec
  rec = x.settings.settled.rec

  abbrev pub made : List Made
  made = p.by.plan.drafts.made

  abbrev pub tokens : List Pending
  tokens = chosen_for x user

  -- the protector of one
  abbrev pub its : Made → Protector
  its m = token_of p.row m.token.id

  abbrev pub its_parts : Made → Parts
  its_parts m = parts_of (is_some m.slot) (its m) m.slot

  pub its_row : Contains rec.users p.row
  its_row = here b x can user p.rules p.row p.found

  pub its_token : (m : Made) → Contains made m → Contains tokens m.token
  its_token m within = subst (λ (l : List Pending). Contains l m.token) p.by.plan.drafts.tokens_are (in_map (λ (m : Made). m.token) made m within)

  pub its_id : (m : Made) → Contains made m → Contains (token_ids tokens) m.token.id
  its_id m within = in_map (λ (q : Pending). q.id) tokens m.token (its_token m within)

  pub of_id : (t : ℕ) → Contains (token_ids tokens) t → (m : Made) × Contains made m × (m.token.id ≡ t)
  of_id t new =
      let q = of_map (λ (q : Pending). q.id) tokens t new in
      let m = of_map (λ (m : Made). m.token) made q.0 (subst (λ (l : List Pending). Contains l q.0) (sym p.by.plan.drafts.tokens_are) q.1) in
      (m.0, m.1, ap (λ (q : Pending). q.id) m.2 ∙ q.2)

  pub odd : (m : Made) → Contains made m → is_odd m.token.id ≡ true
  odd m within = chosen_odd b x can user m.token (its_token m within)

  pub its_numbers : (m : Made) → Contains made m → HasNumbers (its m)
  its_numbers m within = record {
    user = (is_row rec p.rules p.row its_row).user;
    some = odd_some m.token.id (odd m within);
    id = (can.waits.ids m.token (chosen_in b x can user m.token (its_token m within)).0).1;
  }

  -- no protector that the record names has the id
  pub other_id : (m : Made) → Contains made m → (q : Protector) → NamesProtector rec q → q.id ≢ m.token.id
  other_id m within q named same = by (of_flat row_protectors rec.users q named)
    where
      by_token : (s : UserRow) → Contains rec.users s → (t : ℕ) × Contains s.tokens t × (token_of s t ≡ q) → ⊥
      by_token s there (t, active, e) =
          let bad : true ≡ false = sym (has_one s.tokens m.token.id (subst (Contains s.tokens) (ap (λ (z : Protector). z.id) e ∙ same) active)) ∙ not_active b x can user p.rules p.row p.found m.token.id (its_id m within) s there in
          cc

      by : (s : UserRow) × Contains rec.users s × Contains (row_protectors s) q → ⊥
      by (s, there, own) = ⊎_elim
          (λ (e : credential_of s ≡ q). even_or_odd s.protector m.token.id (is_row rec p.rules s there).protector.0 (odd m within) (ap (λ (z : Protector). z.id) e ∙ same))
          (λ later. by_token s there (of_map (token_of s) s.tokens q later))
          (first_or_behind (credential_of s) (map (token_of s) s.tokens) q own)

  pub fits : (m : Made) → Contains made m → FitsBoard x.slots m.slot
  fits m within = fit_each x.slots (slots_of x.named.items) made p.by.plan.drafts.free m within

  pub place : (m : Made) → Contains made m → HasNewPlace x.named.items (retired_files x) m.token.id m.slot
  place m within = record {
    ids = λ q has same. let kept = can.only q has in other_id m within kept.0 kept.1 (sym (ap (λ (z : Parts). z.id) kept.2.2) ∙ same);
    slots = λ q has n is. free_each x.slots (slots_of x.named.items) made p.by.plan.drafts.free m within n
        (in_flat (λ (q : Parts). slot_list q.slot) x.named.items q n has (slot_in q.slot n is));
    files = λ name is has same. p.none m.token (its_token m within) (name, is, has, same);
  }

  pub ids_once : Pairs (λ (m : Made) (o : Made). m.token.id ≢ o.token.id) made
  ids_once = pairs_mapped (λ (m : Made). m.token) (λ q r. q.id ≢ r.id) made (subst (λ (l : List Pending). Pairs (λ q r. q.id ≢ r.id) l) (sym p.by.plan.drafts.tokens_are) (chosen_once b x can user))

  pub slots_once : Pairs HasOtherSlot made
  slots_once = slots_apart x.slots (slots_of x.named.items) made p.by.plan.drafts.free
