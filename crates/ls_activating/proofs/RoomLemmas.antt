-- There are free slots for the protectors of tokens that become active.
use Rattle.std.proofs.Common.{◌≡◌, ◌≢◌, ◌≤◌, ◌<◌, ◌+◌, ◌-◌, ℕ, suc, Bool, true, false, cond, List, [], ◌∷◌, ◌++◌, map, take, length, length-append, length-take, Option, None, Some, refl, sym, ◌∙◌, ap, subst, arith}
use Rattle.std.specs.Prelude.{◌==◌, min, sum_by, flat_map}
use Rattle.std.specs.List.{Contains}
use Rattle.std.proofs.lemmas.Bool.{eq-eqb, eqb-true, eqb-false, ne_eqb}
use Rattle.std.proofs.lemmas.List.Concat.{flat_map-cons}
use Rattle.std.proofs.lemmas.List.Sums.{sum_by-cons}
use Rattle.ls_arming.specs.Numbers.{contains, without_number}
use Rattle.ls_board.specs.Acts.{Sight}
use Rattle.ls_formats.specs.declared.parts.Parts.{Parts}
use Rattle.ls_naming.specs.Current.{last_sequence}
use Rattle.ls_placing.specs.Placing.{slot_list, slots_of, ids_of}
use Rattle.ls_promises.proofs.FreshLemmas.{other_contained, one_less}
use Rattle.ls_record.specs.declared.row.UserRow.{UserRow}
use Rattle.ls_record.specs.Rows.{Pairs}
use Rattle.ls_sealing.specs.Protectors.{Protector}
use Rattle.ls_standing.specs.Named.{token_of}
use Rattle.ls_standing.specs.NamedProtectors.{row_protectors, named_protectors}
use Rattle.ls_standing.proofs.ContainsLemmas.{any_contained, at_first, behind_first, in_map, of_map}
use Rattle.ls_standing.proofs.PairLemmas.{each_in, pairs_map}
use Rattle.ls_turn.specs.declared.session.Session.{Session}
use Rattle.ls_turn.specs.Refusing.{pending_for, used_by}
use Rattle.ls_turn.specs.Serving.{CanServe}
use Rattle.ls_activating.specs.Counting.{chosen_for, count_for}

-- ---- how many there are

-- numbers that differ, each of which is one of these
no_more : (ns ms : List ℕ) → Pairs (λ a b. a ≢ b) ns → ((n : ℕ) → Contains ns n → contains ms n ≡ true) → length ns ≤ length ms
no_more [] ms differ all = omega arith
no_more (n ∷ ns) ms differ all =
    let rest = no_more ns (without_number ms n) differ.1
    (λ m has. other_contained ms n m (λ same. each_in (λ b. n ≢ b) ns m differ.0 has (sym same)) ∙ all m (behind_first n ns m has)) in
    let less = one_less ms n (all n (at_first n ns)) in
    omega (arith, rest, less)

at_most_one : (slot : Option ℕ) → length (slot_list slot) ≤ 1
at_most_one None = omega arith
at_most_one (Some n) = omega arith

one_each : (parts : List Parts) → length (slots_of parts) ≤ length parts
one_each [] = omega arith
one_each (p ∷ parts) =
    let both : length (slots_of (p ∷ parts)) ≡ length (slot_list p.slot ++ slots_of parts) = ap (λ (l : List ℕ). length l) (flat_map-cons (λ q. slot_list q.slot) p parts) in
    let sum = length-append (slot_list p.slot) (slots_of parts) in
    let first = at_most_one p.slot in
    let rest = one_each parts in
    omega (arith, both, sum, first, rest)

pub length_mapped : {X Y : Type 0} (f : X → Y) (xs : List X) → length (map f xs) ≡ length xs
length_mapped f [] = refl
length_mapped f (x ∷ xs) = ap (λ (n : ℕ). suc n) (length_mapped f xs)

as_many_named : (rows : List UserRow) → length (flat_map row_protectors rows) ≡ used_by rows
as_many_named [] = refl
as_many_named (row ∷ rows) =
    let both : length (flat_map row_protectors (row ∷ rows)) ≡ length (row_protectors row ++ flat_map row_protectors rows) = ap (λ (l : List Protector). length l) (flat_map-cons row_protectors row rows) in
    let sum = length-append (row_protectors row) (flat_map row_protectors rows) in
    let its : length (map (token_of row) row.tokens) ≡ length row.tokens = length_mapped (token_of row) row.tokens in
    let more : sum_by (λ (r : UserRow). length r.tokens) (row ∷ rows) ≡ length row.tokens + sum_by (λ (r : UserRow). length r.tokens) rows = sum_by-cons (λ (r : UserRow). length r.tokens) row rows in
    let rest = as_many_named rows in
    omega (arith, both, sum, its, more, rest)

-- the protectors that a session names have no more slots than the rows use
module _ (b : Sight) (x : Session) (can : CanServe b x) where
  abbrev its_ids : List ℕ
  its_ids = map (λ (p : Protector). p.id) (named_protectors x.settings.settled.rec)

  id_named : (n : ℕ) → Contains (ids_of x.named.items) n → Contains its_ids n
  id_named n has =
      let found = of_map (λ (q : Parts). q.id) x.named.items n has in
      let its = can.only found.0 found.1 in
      subst (Contains its_ids) (sym (ap (λ (q : Parts). q.id) its.2.2) ∙ found.2) (in_map (λ (p : Protector). p.id) (named_protectors x.settings.settled.rec) its.0 its.1)

  few_slots : length (slots_of x.named.items) ≤ used_by x.settings.settled.rec.users
  few_slots =
      let fewer = no_more (ids_of x.named.items) its_ids
      (pairs_map (λ a b. a ≢ b) (λ (q : Parts). q.id) x.named.items can.once)
      (λ n has. any_contained (λ m. m == n) its_ids n (id_named n has) (eq-eqb n n refl)) in
      let left = length_mapped (λ (q : Parts). q.id) x.named.items in
      let right = length_mapped (λ (p : Protector). p.id) (named_protectors x.settings.settled.rec) in
      let all = as_many_named x.settings.settled.rec.users in
      let each = one_each x.named.items in
      omega (arith, fewer, left, right, all, each)

-- ---- how many become active

module _ (x : Session) (user : ℕ) where
  abbrev waiting : ℕ
  waiting = length (pending_for x user)

  abbrev used : ℕ
  used = used_by x.settings.settled.rec.users

  by_slots : (c : Bool) → (x.slots == 0) ≡ c → (cond c waiting (min waiting (x.slots - used)) ≤ waiting)
  by_slots true none = omega arith
  by_slots false some = omega arith

  -- no more than wait
  pub no_more_than_wait : count_for x user ≤ waiting
  no_more_than_wait = by (x.settings.settled.sequence == last_sequence)
    where
      by : (a : Bool) → cond a 0 (cond (x.slots == 0) waiting (min waiting (x.slots - used))) ≤ waiting
      by true = omega arith
      by false = by_slots (x.slots == 0) refl

  pub as_many_chosen : length (chosen_for x user) ≡ count_for x user
  as_many_chosen = let most = no_more_than_wait in omega (arith, most, length-take (count_for x user) (pending_for x user))

  module _ (some : count_for x user ≢ 0) where
    -- and no more than there are free slots
    pub no_more_than_fit : x.slots ≢ 0 → used + count_for x user ≤ x.slots
    no_more_than_fit slots = by (x.settings.settled.sequence == last_sequence) (x.slots == 0) refl some
      where
        by : (a c : Bool) → (x.slots == 0) ≡ c → cond a 0 (cond c waiting (min waiting (x.slots - used))) ≢ 0 → used + cond a 0 (cond c waiting (min waiting (x.slots - used))) ≤ x.slots
        by true c is some = absurd (some refl)
        by false true is some = absurd (slots (eqb-true x.slots 0 is))
        by false false is some = omega (arith, some)

    -- something can be kept
    pub not_worn : x.settings.settled.sequence ≢ last_sequence
    not_worn e = some (ap (λ (b : Bool). cond b 0 (cond (x.slots == 0) waiting (min waiting (x.slots - used)))) (eq-eqb x.settings.settled.sequence last_sequence e))

    pub there_is_room : (b : Sight) → CanServe b x → x.slots ≢ 0 → length (slots_of x.named.items) + length (chosen_for x user) ≤ x.slots
    there_is_room b can slots =
        let few = few_slots b x can in
        let most = no_more_than_fit slots in
        let many = as_many_chosen in
        omega (arith, few, most, many)
