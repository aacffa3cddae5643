-- Slots of protectors: which are taken, and that one is free where nothing refuses a command for want of one.
use Rattle.std.proofs.Common.{◌≡◌, ◌≢◌, ◌⊎◌, inl, inr, ◌≤◌, ◌<◌, ◌+◌, ℕ, suc, Bool, false, List, [], ◌∷◌, ◌++◌, map, length, length-append, Option, None, Some, refl, sym, ◌∙◌, ap, subst, arith}
use Rattle.std.specs.Prelude.{nat_lt, nat_le, ◌&&◌, sum_by, flat_map}
use Rattle.std.specs.List.{Contains}
use Rattle.std.proofs.lemmas.Bool.{leb-false, lt-ltb}
use Rattle.std.proofs.lemmas.List.Concat.{flat_map-cons}
use Rattle.std.proofs.lemmas.List.Sums.{sum_by-cons}
use Rattle.ls_board.specs.Acts.{Sight}
use Rattle.ls_formats.specs.declared.parts.Parts.{Parts}
use Rattle.ls_record.specs.declared.row.UserRow.{UserRow}
use Rattle.ls_sealing.specs.Protectors.{Protector}
use Rattle.ls_standing.specs.Named.{token_of}
use Rattle.ls_standing.specs.NamedProtectors.{row_protectors, named_protectors}
use Rattle.ls_standing.proofs.ContainsLemmas.{at_first, in_map, of_map, in_flat, of_flat, none_in, first_or_behind}
use Rattle.ls_standing.proofs.PairLemmas.{pairs_map}
use Rattle.ls_turn.specs.declared.session.Session.{Session}
use Rattle.ls_turn.specs.Refusing.{has_no_slot, used_by}
use Rattle.ls_turn.specs.Serving.{CanServe}
use Rattle.ls_placing.specs.Placing.{slot_list, slots_of, ids_of}
use Rattle.ls_placing.proofs.NumberLemmas.{contained, no_more}

-- ---- which are taken

pub slot_taken : (parts : List Parts) (q : Parts) (n : ℕ) → Contains parts q → q.slot ≡ Some n → Contains (slots_of parts) n
slot_taken parts q n has is = in_flat (λ p. slot_list p.slot) parts q n has (subst (λ (o : Option ℕ). Contains (slot_list o) n) (sym is) (at_first n []))

in_slot : (slot : Option ℕ) (n : ℕ) → Contains (slot_list slot) n → slot ≡ Some n
in_slot None n has = absurd (none_in n has)
in_slot (Some m) n has = by (first_or_behind m [] n has)
  where
    by : (m ≡ n) ⊎ Contains [] n → Some m ≡ Some n
    by (inl same) = ap (λ (k : ℕ). Some k) same
    by (inr rest) = absurd (none_in n rest)

pub taken_slot : (parts : List Parts) (n : ℕ) → Contains (slots_of parts) n → (q : Parts) × Contains parts q × (q.slot ≡ Some n)
taken_slot parts n has =
    let found = of_flat (λ (p : Parts). slot_list p.slot) parts n has in
    (found.0, found.1, in_slot found.0.slot n found.2)

-- ---- how many there are

at_most_one : (slot : Option ℕ) → length (slot_list slot) ≤ 1
at_most_one None = omega arith
at_most_one (Some n) = omega arith

one_each : (parts : List Parts) → length (slots_of parts) ≤ length parts
one_each [] = omega arith
one_each (p ∷ parts) =
    let both : length (slots_of (p ∷ parts)) ≡ length (slot_list p.slot ++ slots_of parts) = ap (λ (l : List ℕ). length l) (flat_map-cons (λ q. slot_list q.slot) p parts) in
    let sum = length-append (slot_list p.slot) (slots_of parts) in
    let first = at_most_one p.slot in
    let rest = one_each parts in
    omega (arith, both, sum, first, rest)

length_map_same : {X Y : Type 0} (f : X → Y) (xs : List X) → length (map f xs) ≡ length xs
length_map_same f [] = refl
length_map_same f (x ∷ xs) = ap (λ (n : ℕ). suc n) (length_map_same f xs)

as_many_named : (rows : List UserRow) → length (flat_map row_protectors rows) ≡ used_by rows
as_many_named [] = refl
as_many_named (row ∷ rows) =
    let both : length (flat_map row_protectors (row ∷ rows)) ≡ length (row_protectors row ++ flat_map row_protectors rows) = ap (λ (l : List Protector). length l) (flat_map-cons row_protectors row rows) in
    let sum = length-append (row_protectors row) (flat_map row_protectors rows) in
    let its : length (map (token_of row) row.tokens) ≡ length row.tokens = length_map_same (token_of row) row.tokens in
    let more : sum_by (λ (r : UserRow). length r.tokens) (row ∷ rows) ≡ length row.tokens + sum_by (λ (r : UserRow). length r.tokens) rows = sum_by-cons (λ (r : UserRow). length r.tokens) row rows in
    let rest = as_many_named rows in
    omega (arith, both, sum, its, more, rest)

no_slot_by : (slots used : ℕ) → (nat_lt 0 slots && nat_le slots used) ≡ false → slots ≢ 0 → used < slots
no_slot_by slots used is some = leb-false slots used (sym (ap (λ (b : Bool). b && nat_le slots used) (lt-ltb 0 slots (omega (arith, some)))) ∙ is)

module _ (b : Sight) (x : Session) (can : CanServe b x) where
  id_named : (n : ℕ) → Contains (ids_of x.named.items) n → Contains (map (λ (p : Protector). p.id) (named_protectors x.settings.settled.rec)) n
  id_named n has =
      let found = of_map (λ (q : Parts). q.id) x.named.items n has in
      let its = can.only found.0 found.1 in
      subst (Contains (map (λ (p : Protector). p.id) (named_protectors x.settings.settled.rec)))
      (sym (ap (λ (q : Parts). q.id) its.2.2) ∙ found.2)
      (in_map (λ (p : Protector). p.id) (named_protectors x.settings.settled.rec) its.0 its.1)

  few_named : length x.named.items ≤ used_by x.settings.settled.rec.users
  few_named =
      let fewer = no_more (ids_of x.named.items) (map (λ (p : Protector). p.id) (named_protectors x.settings.settled.rec))
      (pairs_map (λ a b. a ≢ b) (λ (q : Parts). q.id) x.named.items can.once)
      (λ n has. contained (map (λ (p : Protector). p.id) (named_protectors x.settings.settled.rec)) n (id_named n has)) in
      let left = length_map_same (λ (q : Parts). q.id) x.named.items in
      let right = length_map_same (λ (p : Protector). p.id) (named_protectors x.settings.settled.rec) in
      let all = as_many_named x.settings.settled.rec.users in
      omega (arith, fewer, left, right, all)

  pub one_is_free : has_no_slot x ≡ false → x.slots ≢ 0 → length (slots_of x.named.items) < x.slots
  one_is_free is some =
      let each = one_each x.named.items in
      let few = few_named in
      let below = no_slot_by x.slots (used_by x.settings.settled.rec.users) is some in
      omega (arith, each, few, below)
