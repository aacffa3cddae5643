-- Rows that may be put into the record of a world.
use Rattle.std.proofs.Common.{◌≡◌, ⊎_elim, ◌≢◌, ◌⊎◌, inl, inr, ◌<◌, ◌^◌, ℕ, Bool, true, false, List, ◌++◌, map, None, Some, sym, ap, subst, ◌∙◌}
use Rattle.std.specs.List.{Contains}
use Rattle.std.proofs.lemmas.Bool.{ne_eqb}
use Rattle.std.proofs.lemmas.List.Elements.{Contains-append_left, Contains-append_cases}
use Rattle.ls_board.specs.declared.world.World.{World}
use Rattle.ls_board.specs.Effect.{file_at}
use Rattle.ls_formats.specs.declared.part.FilePart.{FilePart}
use Rattle.ls_formats.specs.declared.part.FilePart.TheVariants.{Pwd, Weaver, Handle}
use Rattle.ls_formats.specs.PartNames.{PartOf}
use Rattle.ls_naming.specs.Named.{row_files, NamesFile, NamesSlot, user_parts, credential_parts, token_parts, parts_of, token_files}
use Rattle.ls_record.specs.declared.edit.Edit.TheVariants.{PutRow}
use Rattle.ls_record.specs.declared.row.UserRow.{UserRow}
use Rattle.ls_record.specs.Edits.{MayChange}
use Rattle.ls_record.specs.Rows.{Rec, IsRecord, is_odd}
use Rattle.ls_sealing.specs.Protectors.{Protector, token, has_weaver, has_part, held_number, parts_for}
use Rattle.ls_standing.specs.Named.{credential_of, token_of}
use Rattle.ls_standing.specs.NamedProtectors.{row_protectors, NamesProtector}
use Rattle.ls_standing.specs.Opening.{first_foreign}
use Rattle.ls_standing.specs.Sound.{IsSoundFile}
use Rattle.ls_standing.specs.Standing.{NamedAreUntouched}
use Rattle.ls_standing.proofs.CheckLemmas.{alone}
use Rattle.ls_standing.proofs.ContainsLemmas.{at_first, behind_first, first_or_behind, in_map, of_map, in_flat, of_flat}
use Rattle.ls_standing.proofs.IdLemmas.{even_not_odd, is_row}
use Rattle.ls_standing.proofs.NamedLemmas.{part_found}
use Rattle.ls_standing.proofs.PairLemmas.{each_in}
use Rattle.ls_standing.proofs.ProtectorLemmas.{any_part, number_held, protector_files, in_row, of_row, named}
use Rattle.ls_standing.proofs.SlotLemmas.{one_name}
use Rattle.ls_edits.specs.Rows.{HasNoNewPart, HasSameCredential}
use Rattle.ls_edits.specs.SoundRows.{NamesSlotBy, IsSoundRow, RowIsUntouched, IsCheckedAlike, HasNewSlot, HasSoundUser, IsSoundProtector, HasSoundProtectors, IsTokenOf, IsOldOrNewToken, HaveOwnSlots}
use Rattle.ls_edits.proofs.AlikeLemmas.{alike_sound}
use Rattle.ls_edits.proofs.PartLemmas.{less_files, less_protectors, less_alike}

-- ---- which files a row names

-- a file of the user itself
record IsOfUser (r : Rec) (row : UserRow) (name : PartOf) : Type 0 where
  part : FilePart
  own : Contains (user_parts r.armed row) part
  is : record { user = row.user; id = 0; part = part } ≡ name

-- a file of a protector that the row names
record IsOf (weaver : Bool) (row : UserRow) (name : PartOf) : Type 0 where
  of : Protector
  own : Contains (row_protectors row) of
  part : FilePart
  has : has_part weaver of.purpose part ≡ true
  is : record { user = of.user; id = of.id; part = part } ≡ name

module _ (weaver : Bool) (r : Rec) (row : UserRow) where
  its_files : (p : Protector) (name : PartOf) → Contains (row_protectors row) p → Contains (protector_files weaver p) name → IsOf weaver row name
  its_files p name own h =
      let found = of_map (λ (x : FilePart). record { user = p.user; id = p.id; part = x }) (parts_for weaver p.purpose) name h in
      record { of = p; own = own; part = found.0; has = any_part (parts_for weaver p.purpose) found.0 found.1; is = found.2 }

  of_files : (name : PartOf) → Contains (row_files weaver r.armed row) name → IsOfUser r row name ⊎ IsOf weaver row name
  of_files name h = by (Contains-append_cases (parts_of row.user 0 (user_parts r.armed row)) (its ++ token_files weaver row) name h)
    where
      its : List PartOf
      its = parts_of row.user row.protector (credential_parts weaver row.kind)

      late : Contains its name ⊎ Contains (token_files weaver row) name → IsOf weaver row name
      late (inl k) = its_files (credential_of row) name (at_first (credential_of row) (map (token_of row) row.tokens)) k
      late (inr k) =
          let found = of_flat (λ (t : ℕ). parts_of row.user t (token_parts weaver)) row.tokens name k in
          its_files (token_of row found.0) name
          (behind_first (credential_of row) (map (token_of row) row.tokens) (token_of row found.0) (in_map (token_of row) row.tokens found.0 found.1)) found.2

      by : Contains (parts_of row.user 0 (user_parts r.armed row)) name ⊎ Contains (its ++ token_files weaver row) name → IsOfUser r row name ⊎ IsOf weaver row name
      by (inl k) =
          let found = of_map (λ (x : FilePart). record { user = row.user; id = 0; part = x }) (user_parts r.armed row) name k in
          inl (record { part = found.0; own = found.1; is = found.2 })
      by (inr k) = inr (late (Contains-append_cases its (token_files weaver row) name k))

-- they are of one user
pub one_user : (row : UserRow) (p : Protector) → Contains (row_protectors row) p → p.user ≡ row.user
one_user row p own = by (first_or_behind (credential_of row) (map (token_of row) row.tokens) p own)
  where
    by : (credential_of row ≡ p) ⊎ Contains (map (token_of row) row.tokens) p → p.user ≡ row.user
    by (inl e) = ap (λ (x : Protector). x.user) (sym e)
    by (inr k) = let found = of_map (token_of row) row.tokens p k in ap (λ (x : Protector). x.user) (sym found.2)

-- ---- by its protectors

module _ (w : World) (r : Rec) (row : UserRow) (none : first_foreign w r ≡ None) (may : MayChange r (PutRow row)) where
  abbrev weaver : Bool
  weaver = has_weaver w

  -- a slot of the row is that of a protector that it names
  record SlotOf (name : PartOf) (slot : ℕ) : Type 0 where
    of : Protector
    own : Contains (row_protectors row) of
    within : Contains (protector_files weaver of) name
    is : record { user = of.user; id = of.id; part = Weaver } ≡ name
    number : held_number w of ≡ Some slot

  slot_of : (name : PartOf) (slot : ℕ) → NamesSlotBy w r row name slot → SlotOf name slot
  slot_of name slot names =
      let its = of_row weaver r.armed row name names.part names.named in
      let found = of_map (λ (x : FilePart). record { user = its.of.user; id = its.of.id; part = x }) (parts_for weaver its.of.purpose) name its.within in
      let part : found.0 ≡ Weaver = ap (λ (n : PartOf). n.part) found.2 ∙ names.part in
      record {
        of = its.of;
        own = its.own;
        within = its.within;
        is = ap (λ (p : FilePart). record { user = its.of.user; id = its.of.id; part = p }) (sym part) ∙ found.2;
        number = number_held w its.of name slot its.within names.part names.small names.holds;
      }

  -- a protector that the record names has its files there
  named_file : (name : PartOf) (slot : ℕ) (s : SlotOf name slot) → NamesProtector r s.of → NamesFile weaver r name
  named_file name slot s there =
      let at = of_flat row_protectors r.users s.of there in
      in_flat (row_files weaver r.armed) r.users at.0 name at.1 (in_row weaver r.armed at.0 s.of name at.2 s.within)

  pub by_protectors : HasSoundProtectors w r row → IsSoundRow w r row
  by_protectors sound = record {
    may = may;
    files = λ name has. file name (of_files weaver r row name has);
    apart = λ name slot names. let s = slot_of name slot names in old_or_new name slot s (sound.slots s.of s.own);
    once = λ name other slot one two.
        let s = slot_of name slot one in let t = slot_of other slot two in
        same name other slot one two s t (sound.slots s.of s.own) (sound.slots t.of t.own);
  }
    where
      file : (name : PartOf) → IsOfUser r row name ⊎ IsOf weaver row name → IsSoundFile w row name
      file name (inl h) = subst (λ (n : PartOf). IsSoundFile w row n) h.is (sound.user h.part h.own)
      file name (inr h) = subst (λ (n : PartOf). IsSoundFile w row n) h.is (sound.files h.of h.own h.part h.has)

      old_or_new : (name : PartOf) (slot : ℕ) (s : SlotOf name slot) → NamesProtector r s.of ⊎ HasNewSlot w r s.of → NamesFile weaver r name ⊎ ¬ (NamesSlot weaver r (file_at w) slot)
      old_or_new name slot s (inl there) = inl (named_file name slot s there)
      old_or_new name slot s (inr new) = inr (new slot s.number)

      same : (name other : PartOf) (slot : ℕ) → NamesSlotBy w r row name slot → NamesSlotBy w r row other slot → (s : SlotOf name slot) (t : SlotOf other slot)
          → NamesProtector r s.of ⊎ HasNewSlot w r s.of → NamesProtector r t.of ⊎ HasNewSlot w r t.of → name ≡ other
      same name other slot one two s t (inl p) (inl q) = one_name w r none slot
          (record { name = name; named = named_file name slot s p; part = one.part; small = one.small; holds = one.holds })
          (record { name = other; named = named_file other slot t q; part = two.part; small = two.small; holds = two.holds })
      same name other slot one two s t (inl p) (inr new) = absurd (new slot t.number (named w r s.of slot p s.number))
      same name other slot one two s t (inr new) (inl q) = absurd (new slot s.number (named w r t.of slot q t.number))
      same name other slot one two s t (inr new) (inr newer) =
          let ids : s.of.id ≡ t.of.id = sound.once s.of t.of slot s.own t.own s.number t.number (new slot s.number) in
          let users : s.of.user ≡ t.of.user = one_user row s.of s.own ∙ sym (one_user row t.of t.own) in
          sym s.is ∙ (λ i. record { user = users i; id = ids i; part = Weaver }) ∙ t.is

-- ---- without a new part

module _ (w : World) (r : Rec) (old row : UserRow) (here : Contains r.users old) (less : HasNoNewPart old row) where
  its_name : (name : PartOf) → Contains (row_files (has_weaver w) r.armed row) name → NamesFile (has_weaver w) r name
  its_name name own = in_flat (row_files (has_weaver w) r.armed) r.users old name here (less_files old row less (has_weaver w) r.armed name own)

  pub less_untouched : NamedAreUntouched w r → RowIsUntouched w r row
  less_untouched was name own = was name (its_name name own)

  pub less_sound : first_foreign w r ≡ None → MayChange r (PutRow row) → IsSoundRow w r row
  less_sound none may = record {
    may = may;
    files = λ name own. alike_sound w old row name (less_alike old row less w name) (alone w r none old name here (less_files old row less (has_weaver w) r.armed name own));
    apart = λ name slot names. inl (its_name name names.named);
    once = λ name other slot one two. one_name w r none slot (slot_again name slot one) (slot_again other slot two);
  }
    where
      slot_again : (name : PartOf) (slot : ℕ) → NamesSlotBy w r row name slot → NamesSlot (has_weaver w) r (file_at w) slot
      slot_again name slot names = record { name = name; named = its_name name names.named; part = names.part; small = names.small; holds = names.holds }

-- ---- files of another row of the user

module _ (w : World) (r : Rec) (is : IsRecord r) (none : first_foreign w r ≡ None) (row : UserRow) where
  -- a token's files beside another credential
  pub token_again : (id : ℕ) → id ≢ row.protector → IsTokenOf w r row id → IsSoundProtector w row (token_of row id)
  token_again id other its part has =
      alike_sound w its.old row (record { user = row.user; id = id; part = part }) alike
      (alone w r none its.old (record { user = row.user; id = id; part = part }) its.there
      (subst (λ (n : ℕ). Contains (row_files (has_weaver w) r.armed its.old) (record { user = n; id = id; part = part })) (sym its.user)
      (in_row (has_weaver w) r.armed its.old (token_of its.old id) (record { user = its.old.user; id = id; part = part })
      (behind_first (credential_of its.old) (map (token_of its.old) its.old.tokens) (token_of its.old id) (in_map (token_of its.old) its.old.tokens id its.token))
      (in_map (λ (x : FilePart). record { user = its.old.user; id = id; part = x }) (token_parts (has_weaver w)) part (part_found part (token_parts (has_weaver w)) has)))))
    where
      old_other : id ≢ its.old.protector
      old_other e = even_not_odd its.old.protector id (is_row r is its.old its.there).protector.0
          (each_in (λ t. (is_odd t ≡ true) × (t < 2 ^ 64)) its.old.tokens id (is_row r is its.old its.there).tokens its.token).0 (sym e)

      no_part : (weaver : Bool) (p : FilePart) → has_part weaver token part ≡ true → part ≡ p → has_part weaver token p ≡ true
      no_part weaver p h e = subst (λ (q : FilePart). has_part weaver token q ≡ true) e h

      no_pwd : (weaver : Bool) → has_part weaver token Pwd ≡ true → ⊥
      no_pwd true e = absurd (cc)
      no_pwd false e = absurd (cc)

      no_handle : (weaver : Bool) → has_part weaver token Handle ≡ true → ⊥
      no_handle true e = absurd (cc)
      no_handle false e = absurd (cc)

      alike : IsCheckedAlike w its.old row (record { user = row.user; id = id; part = part })
      alike = record {
        kind = λ e. absurd (no_pwd (has_weaver w) (no_part (has_weaver w) Pwd has e));
        secure = λ e. absurd (no_handle (has_weaver w) (no_part (has_weaver w) Handle has e));
        purpose = λ e. ne_eqb id row.protector other ∙ sym (ne_eqb id its.old.protector old_other);
        version = λ e ne. its.version;
      }

  token_named : (id : ℕ) → IsTokenOf w r row id → NamesProtector r (token_of row id)
  token_named id its =
      in_flat row_protectors r.users its.old (token_of row id) its.there
      (behind_first (credential_of its.old) (map (token_of its.old) its.old.tokens) (token_of row id)
      (subst (λ (n : ℕ). Contains (map (token_of its.old) its.old.tokens) (record { user = n; id = id; purpose = token })) (sym its.user) (in_map (token_of its.old) its.old.tokens id its.token)))

  module _ (may : MayChange r (PutRow row)) where
    apart_ids : (id : ℕ) → Contains row.tokens id → id ≢ row.protector
    apart_ids id h e = even_not_odd row.protector id may.0.protector.0 (each_in (λ t. (is_odd t ≡ true) × (t < 2 ^ 64)) row.tokens id may.0.tokens h).0 (sym e)

    -- the row of a new credential, whose tokens are as they were
    pub with_credential : HasSoundUser w r row → IsSoundProtector w row (credential_of row) → HasNewSlot w r (credential_of row)
        → ((id : ℕ) → Contains row.tokens id → IsTokenOf w r row id) → IsSoundRow w r row
    with_credential user its fresh tokens = by_protectors w r row none may (record {
      user = user;
      files = λ p own. file p (first_or_behind (credential_of row) (map (token_of row) row.tokens) p own);
      slots = λ p own. slot p (first_or_behind (credential_of row) (map (token_of row) row.tokens) p own);
      once = λ p q n hp hq np nq unnamed. once p q n np nq unnamed
          (first_or_behind (credential_of row) (map (token_of row) row.tokens) p hp) (first_or_behind (credential_of row) (map (token_of row) row.tokens) q hq);
    })
      where
        Among : Protector → Type 0
        Among p = (credential_of row ≡ p) ⊎ Contains (map (token_of row) row.tokens) p

        file : (p : Protector) → Among p → IsSoundProtector w row p
        file p (inl e) = subst (IsSoundProtector w row) e its
        file p (inr k) =
            let found = of_map (token_of row) row.tokens p k in
            subst (IsSoundProtector w row) found.2 (token_again found.0 (apart_ids found.0 found.1) (tokens found.0 found.1))

        there : (p : Protector) → Contains (map (token_of row) row.tokens) p → NamesProtector r p
        there p k = let found = of_map (token_of row) row.tokens p k in subst (NamesProtector r) found.2 (token_named found.0 (tokens found.0 found.1))

        slot : (p : Protector) → Among p → NamesProtector r p ⊎ HasNewSlot w r p
        slot p (inl e) = inr (subst (HasNewSlot w r) e fresh)
        slot p (inr k) = inl (there p k)

        once : (p q : Protector) (n : ℕ) → held_number w p ≡ Some n → held_number w q ≡ Some n → ¬ (NamesSlot (has_weaver w) r (file_at w) n) → Among p → Among q → p.id ≡ q.id
        once p q n np nq unnamed (inl e) (inl f) = ap (λ (x : Protector). x.id) (sym e ∙ f)
        once p q n np nq unnamed (inr k) among = absurd (unnamed (named w r p n (there p k) np))
        once p q n np nq unnamed (inl e) (inr k) = absurd (unnamed (named w r q n (there q k) nq))

-- ---- new tokens

module _ (w : World) (r : Rec) (old row : UserRow) (none : first_foreign w r ≡ None) (here : Contains r.users old) (same : HasSameCredential old row) where
  -- the row with the old tokens alone
  abbrev before : UserRow
  before = record row { tokens = old.tokens }

  before_less : HasNoNewPart old before
  before_less = record {
    user = same.user;
    kind = same.kind;
    protector = same.protector;
    secure = same.secure;
    escrow = λ e. sym same.escrow ∙ e;
    tokens = λ id h. h;
  }

  -- what isn't of a token is checked for the same with any tokens
  same_file : (name : PartOf) → Contains (row_files (has_weaver w) r.armed before) name → IsSoundFile w row name
  same_file name own =
      alike_sound w old row name alike (alone w r none old name here (less_files old before before_less (has_weaver w) r.armed name own))
    where
      its : IsCheckedAlike w old before name
      its = less_alike old before before_less w name

      alike : IsCheckedAlike w old row name
      alike = record { kind = its.kind; secure = its.secure; purpose = its.purpose; version = its.version }

  protector_file : (p : Protector) → Contains (row_protectors before) p → IsSoundProtector w row p
  protector_file p own part has =
      same_file (record { user = p.user; id = p.id; part = part })
      (in_row (has_weaver w) r.armed before p (record { user = p.user; id = p.id; part = part }) own
      (in_map (λ (x : FilePart). record { user = p.user; id = p.id; part = x }) (parts_for (has_weaver w) p.purpose) part (part_found part (parts_for (has_weaver w) p.purpose) has)))

  there : (p : Protector) → Contains (row_protectors before) p → NamesProtector r p
  there p own = in_flat row_protectors r.users old p here (less_protectors old before before_less p own)

  among : (id : ℕ) → Contains old.tokens id → Contains (row_protectors before) (token_of row id)
  among id h = behind_first (credential_of row) (map (token_of row) old.tokens) (token_of row id) (in_map (token_of row) old.tokens id h)

  pub with_new_tokens : MayChange r (PutRow row) → ((id : ℕ) → Contains row.tokens id → IsOldOrNewToken w r old row id) → HaveOwnSlots w r row → IsSoundRow w r row
  with_new_tokens may each own_slots = by_protectors w r row none may (record {
    user = λ part own. same_file (record { user = row.user; id = 0; part = part })
        (Contains-append_left (parts_of row.user 0 (user_parts r.armed row)) (parts_of row.user row.protector (credential_parts (has_weaver w) row.kind) ++ token_files (has_weaver w) before)
        (record { user = row.user; id = 0; part = part }) (in_map (λ (x : FilePart). record { user = row.user; id = 0; part = x }) (user_parts r.armed row) part own));
    files = λ p own. file p (cases p own);
    slots = λ p own. slot p (cases p own);
    once = λ p q n hp hq np nq unnamed. once p q n np nq unnamed (cases p hp) (cases q hq);
  })
    where
      Among : Protector → Type 0
      Among p = (credential_of row ≡ p) ⊎ ((id : ℕ) × Contains row.tokens id × (token_of row id ≡ p))

      cases : (p : Protector) → Contains (row_protectors row) p → Among p
      cases p own = ⊎_elim (λ (e : credential_of row ≡ p). inl e) (λ (k : Contains (map (token_of row) row.tokens) p). inr (of_map (token_of row) row.tokens p k))
          (first_or_behind (credential_of row) (map (token_of row) row.tokens) p own)

      first : Contains (row_protectors before) (credential_of row)
      first = at_first (credential_of row) (map (token_of row) old.tokens)

      token_file : (id : ℕ) → IsOldOrNewToken w r old row id → IsSoundProtector w row (token_of row id)
      token_file id (inl h) = protector_file (token_of row id) (among id h)
      token_file id (inr new) = new.0

      file : (p : Protector) → Among p → IsSoundProtector w row p
      file p (inl e) = subst (IsSoundProtector w row) e (protector_file (credential_of row) first)
      file p (inr (id, h, e)) = subst (IsSoundProtector w row) e (token_file id (each id h))

      token_slot : (id : ℕ) → IsOldOrNewToken w r old row id → NamesProtector r (token_of row id) ⊎ HasNewSlot w r (token_of row id)
      token_slot id (inl h) = inl (there (token_of row id) (among id h))
      token_slot id (inr new) = inr new.1

      slot : (p : Protector) → Among p → NamesProtector r p ⊎ HasNewSlot w r p
      slot p (inl e) = inl (subst (NamesProtector r) e (there (credential_of row) first))
      slot p (inr (id, h, e)) = subst (λ (x : Protector). NamesProtector r x ⊎ HasNewSlot w r x) e (token_slot id (each id h))

      its_number : (p q : Protector) (n : ℕ) → q ≡ p → held_number w p ≡ Some n → held_number w q ≡ Some n
      its_number p q n e number = ap (held_number w) e ∙ number

      once : (p q : Protector) (n : ℕ) → held_number w p ≡ Some n → held_number w q ≡ Some n → ¬ (NamesSlot (has_weaver w) r (file_at w) n) → Among p → Among q → p.id ≡ q.id
      once p q n np nq unnamed (inl e) of_q = absurd (unnamed (named w r p n (subst (NamesProtector r) e (there (credential_of row) first)) np))
      once p q n np nq unnamed (inr (i, hi, ei)) (inl e) = absurd (unnamed (named w r q n (subst (NamesProtector r) e (there (credential_of row) first)) nq))
      once p q n np nq unnamed (inr (i, hi, ei)) (inr (j, hj, ej)) =
          ap (λ (x : Protector). x.id) (sym ei)
          ∙ own_slots i j n hi hj (its_number p (token_of row i) n ei np) (its_number q (token_of row j) n ej nq) unnamed
          ∙ ap (λ (x : Protector). x.id) ej
