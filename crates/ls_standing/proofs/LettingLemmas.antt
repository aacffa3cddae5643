-- What is retired where protectors are let go.
use Rattle.std.proofs.Common.{◌≡◌, ◌≢◌, ◌⊎◌, inl, inr, ⊎_elim, ◌&&◌, ◌++◌, not, ℕ, Bool, true, false, List, [], ◌∷◌, map, Option, None, Some, refl, sym, ap, subst, ◌∙◌}
use Rattle.std.specs.Prelude.{is_some}
use Rattle.std.specs.List.{flat_map, Contains}
use Rattle.std.proofs.lemmas.List.Elements.{Contains-append_left, Contains-append_right, Contains-append_cases}
use Rattle.ls_formats.specs.declared.part.FilePart.{FilePart}
use Rattle.ls_formats.specs.PartNames.{PartOf, part_name_text}
use Rattle.ls_record.specs.declared.row.UserRow.{UserRow}
use Rattle.ls_arming.specs.declared.arming.Arming.{Arming}
use Rattle.ls_record.specs.Rows.{Rec}
use Rattle.ls_naming.specs.Named.{only_if, has_credential, has_secure, user_parts, credential_parts, token_parts, parts_of, token_files, row_files, NamesFile, row_keys, NamesKey, row_enrolled, NamesEnrolled, NamesSlot}
use Rattle.ls_board.specs.declared.action.Action.{Action}
use Rattle.ls_board.specs.declared.action.Action.TheVariants.{Remove, GkForget, KeyDrop}
use Rattle.ls_board.specs.declared.world.World.{World}
use Rattle.ls_board.specs.Effect.{file_at}
use Rattle.ls_sealing.specs.Protectors.{Protector, has_weaver, parts_for, is_enrolled}
use Rattle.ls_standing.specs.Clearing.{blank_write, Retires, LetsGo}
use Rattle.ls_standing.specs.Named.{credential_of, token_of}
use Rattle.ls_standing.specs.NamedProtectors.{row_protectors, NamesProtector}
use Rattle.ls_standing.proofs.ContainsLemmas.{at_first, behind_first, first_or_behind, of_map, in_flat, of_flat, in_map}
use Rattle.ls_standing.proofs.ProtectorLemmas.{owned, named, in_row}
use Rattle.ls_standing.proofs.UnnamedLemmas.{of_only_if, HasProtector, key_cases}

-- ---- keys

-- a protector's key is named
row_key : (row : UserRow) (p : Protector) → (credential_of row ≡ p) ⊎ Contains (map (token_of row) row.tokens) p → Contains (row_keys row) p.id
row_key row p (inl is) = subst (λ (q : Protector). Contains (row_keys row) q.id) is (at_first row.protector row.tokens)
row_key row p (inr has) =
    let t = of_map (token_of row) row.tokens p has in
    subst (λ (q : Protector). Contains (row_keys row) q.id) t.2 (behind_first row.protector row.tokens t.0 t.1)

key_named : (r : Rec) (p : Protector) → NamesProtector r p → NamesKey r p.id
key_named r p has =
    let row = of_flat row_protectors r.users p has in
    Contains-append_left (flat_map row_keys r.users) (only_if (is_some r.armed) (0 ∷ [])) p.id
    (in_flat row_keys r.users row.0 p.id row.1 (row_key row.0 p (first_or_behind (credential_of row.0) (map (token_of row.0) row.0.tokens) p row.2)))

some_armed : (o : Option Arming) → is_some o ≡ true → o ≢ None
some_armed o is none = let bad : false ≡ true = sym (ap is_some none) ∙ is in absurd (cc)

armed_some : (o : Option Arming) → o ≢ None → is_some o ≡ true
armed_some None there = absurd (there refl)
armed_some (Some a) there = refl

-- ---- Gatekeeper records

-- a protector's record is named, where it has one
counter_named : (weaver : Bool) (r : Rec) (row : UserRow) → Contains r.users row → (not weaver && has_credential row.kind) ≡ true → NamesEnrolled weaver r row.protector
counter_named weaver r row has is =
    in_flat (row_enrolled weaver) r.users row row.protector has
    (Contains-append_right (only_if (has_secure row) (row.secure ∷ [])) (only_if (not weaver && has_credential row.kind) (row.protector ∷ [])) row.protector
    (subst (λ (b : Bool). Contains (only_if b (row.protector ∷ [])) row.protector) (sym is) (at_first row.protector [])))

token_not : (weaver : Bool) (row : UserRow) (t : ℕ) → is_enrolled weaver (token_of row t).purpose ≡ true → ⊥
token_not weaver row t is = absurd (let bad : false ≡ true = is in cc)

protector_counter : (weaver : Bool) (r : Rec) (p : Protector) → NamesProtector r p → is_enrolled weaver p.purpose ≡ true → NamesEnrolled weaver r p.id
protector_counter weaver r p has is = by (first_or_behind (credential_of row.0) (map (token_of row.0) row.0.tokens) p row.2)
  where
    row : (x : UserRow) × Contains r.users x × Contains (row_protectors x) p
    row = of_flat row_protectors r.users p has

    by : (credential_of row.0 ≡ p) ⊎ Contains (map (token_of row.0) row.0.tokens) p → NamesEnrolled weaver r p.id
    by (inl e) = subst (λ (q : Protector). NamesEnrolled weaver r q.id) e (counter_named weaver r row.0 row.1 (ap (λ (q : Protector). is_enrolled weaver q.purpose) e ∙ is))
    by (inr k) =
        let t = of_map (token_of row.0) row.0.tokens p k in
        absurd (token_not weaver row.0 t.0 (ap (λ (q : Protector). is_enrolled weaver q.purpose) t.2 ∙ is))

-- ---- files

protector_file : (b : Bool) (r : Rec) (p : Protector) → NamesProtector r p → (part : FilePart) → Contains (parts_for b p.purpose) part → NamesFile b r (record { user = p.user; id = p.id; part = part })
protector_file b r p has part within =
    let row = of_flat row_protectors r.users p has in
    let name : PartOf = record { user = p.user; id = p.id; part = part } in
    in_flat (row_files b r.armed) r.users row.0 name row.1
    (in_row b r.armed row.0 p name row.2 (in_map (λ (q : FilePart). record { user = p.user; id = p.id; part = q }) (parts_for b p.purpose) part within))

-- ---- what is let go

module _ (w mid : World) (r next : Rec) (old new : List (List ℕ)) (gone : List Protector) (plan : List Action) (weaver : has_weaver mid ≡ has_weaver w) (goes : LetsGo w r old mid next new gone plan) where
  slot_goes : (slot : ℕ) → NamesSlot (has_weaver w) r (file_at w) slot → NamesSlot (has_weaver mid) next (file_at mid) slot ⊎ Contains plan (blank_write slot)
  slot_goes slot has =
      let p = owned w r slot has in
      ⊎_elim (λ stays. inl (named mid next p.0 slot stays.0 (stays.1 ∙ p.2))) (λ left. inr (goes.slots p.0 left slot p.2)) (goes.each p.0 p.1)

  key_goes : (alias : ℕ) → NamesKey r alias → NamesKey next alias ⊎ Contains plan (KeyDrop alias)
  key_goes alias has = by (key_cases r alias has)
    where
      by : HasProtector r alias ⊎ ((is_some r.armed ≡ true) × (0 ≡ alias)) → NamesKey next alias ⊎ Contains plan (KeyDrop alias)
      by (inl p) =
          ⊎_elim (λ stays. inl (subst (NamesKey next) p.2 (key_named next p.0 stays.0)))
          (λ left. inr (subst (λ (n : ℕ). Contains plan (KeyDrop n)) p.2 (goes.keys p.0 left))) (goes.each p.0 p.1)
      by (inr zero) =
          ⊎_elim (λ armed. inl (subst (NamesKey next) zero.1 (Contains-append_right (flat_map row_keys next.users) (only_if (is_some next.armed) (0 ∷ [])) 0
          (subst (λ (b : Bool). Contains {X = ℕ} (only_if b (0 ∷ [])) 0) (sym (armed_some next.armed armed)) (at_first 0 [])))))
          (λ both. inr (subst (λ (n : ℕ). Contains plan (KeyDrop n)) zero.1 both.1)) (goes.armed (some_armed r.armed zero.0))

  counter_goes : (sid : ℕ) → NamesEnrolled (has_weaver w) r sid → NamesEnrolled (has_weaver mid) next sid ⊎ Contains plan (GkForget sid)
  counter_goes sid has = by (Contains-append_cases (only_if (has_secure row.0) (row.0.secure ∷ [])) (only_if (not (has_weaver w) && has_credential row.0.kind) (row.0.protector ∷ [])) sid row.2)
    where
      row : (x : UserRow) × Contains r.users x × Contains (row_enrolled (has_weaver w) x) sid
      row = of_flat (row_enrolled (has_weaver w)) r.users sid has

      by : Contains (only_if (has_secure row.0) (row.0.secure ∷ [])) sid ⊎ Contains (only_if (not (has_weaver w) && has_credential row.0.kind) (row.0.protector ∷ [])) sid
          → NamesEnrolled (has_weaver mid) next sid ⊎ Contains plan (GkForget sid)
      by (inl k) =
          let one = of_only_if (has_secure row.0) row.0.secure sid k in
          subst (λ (n : ℕ). NamesEnrolled (has_weaver mid) next n ⊎ Contains plan (GkForget n)) one.1 (goes.secure row.0 row.1 one.0)
      by (inr k) =
          let one = of_only_if (not (has_weaver w) && has_credential row.0.kind) row.0.protector sid k in
          let names : NamesProtector r (credential_of row.0) = in_flat row_protectors r.users row.0 (credential_of row.0) row.1 (at_first (credential_of row.0) (map (token_of row.0) row.0.tokens)) in
          subst (λ (n : ℕ). NamesEnrolled (has_weaver mid) next n ⊎ Contains plan (GkForget n)) one.1
          (⊎_elim (λ stays. inl (protector_counter (has_weaver mid) next (credential_of row.0) stays.0 (ap (λ (b : Bool). is_enrolled b (credential_of row.0).purpose) weaver ∙ one.0)))
          (λ left. inr (goes.counters (credential_of row.0) left one.0)) (goes.each (credential_of row.0) names))

  -- ---- files

  abbrev Goes : PartOf → Type 0
  Goes name = NamesFile (has_weaver mid) next name ⊎ (Contains new (part_name_text name) ⊎ Contains plan (Remove (part_name_text name)))

  its_file : (p : Protector) → NamesProtector r p → (part : FilePart) → Contains (parts_for (has_weaver w) p.purpose) part → Goes (record { user = p.user; id = p.id; part = part })
  its_file p has part within =
      ⊎_elim (λ stays. inl (protector_file (has_weaver mid) next p stays.0 part (subst (λ (b : Bool). Contains (parts_for b p.purpose) part) (sym weaver) within)))
      (λ left. inr (goes.files p left part within)) (goes.each p has)

  file_goes : (name : PartOf) → NamesFile (has_weaver w) r name → Goes name
  file_goes name has = by (Contains-append_cases own_part (credential_part ++ token_part) name row.2)
    where
      row : (x : UserRow) × Contains r.users x × Contains (row_files (has_weaver w) r.armed x) name
      row = of_flat (row_files (has_weaver w) r.armed) r.users name has

      own_part : List PartOf
      own_part = parts_of row.0.user 0 (user_parts r.armed row.0)

      credential_part : List PartOf
      credential_part = parts_of row.0.user row.0.protector (credential_parts (has_weaver w) row.0.kind)

      token_part : List PartOf
      token_part = token_files (has_weaver w) row.0

      of_token : Contains token_part name → Goes name
      of_token k =
          let t = of_flat (λ (t : ℕ). parts_of row.0.user t (token_parts (has_weaver w))) row.0.tokens name k in
          let one = of_map (λ (part : FilePart). record { user = row.0.user; id = t.0; part = part }) (token_parts (has_weaver w)) name t.2 in
          subst Goes one.2 (its_file (token_of row.0 t.0)
          (in_flat row_protectors r.users row.0 (token_of row.0 t.0) row.1 (behind_first (credential_of row.0) (map (token_of row.0) row.0.tokens) (token_of row.0 t.0) (in_map (token_of row.0) row.0.tokens t.0 t.1))) one.0 one.1)

      of_credential : Contains credential_part name → Goes name
      of_credential k =
          let one = of_map (λ (part : FilePart). record { user = row.0.user; id = row.0.protector; part = part }) (credential_parts (has_weaver w) row.0.kind) name k in
          subst Goes one.2 (its_file (credential_of row.0)
          (in_flat row_protectors r.users row.0 (credential_of row.0) row.1 (at_first (credential_of row.0) (map (token_of row.0) row.0.tokens))) one.0 one.1)

      by : Contains own_part name ⊎ Contains (credential_part ++ token_part) name → Goes name
      by (inl k) =
          let one = of_map (λ (part : FilePart). record { user = row.0.user; id = 0; part = part }) (user_parts r.armed row.0) name k in
          subst Goes one.2 (goes.own row.0 row.1 one.0 one.1)
      by (inr k) = ⊎_elim of_credential of_token (Contains-append_cases credential_part token_part name k)

  pub lets_retire : Retires w r old mid next new plan
  lets_retire = record {
    away = goes.away;
    files = λ name part was. ⊎_elim (λ has. file_goes name has) (λ has. inr (goes.retired (part_name_text name) has)) was;
    slots = slot_goes;
    counters = counter_goes;
    keys = key_goes;
    cell = λ was none. ⊎_elim (λ armed. absurd (armed none)) (λ both. both.0) (goes.armed was);
  }
