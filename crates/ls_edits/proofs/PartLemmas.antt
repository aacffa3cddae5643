-- A row without a part that the old one hasn't.
use Rattle.std.proofs.Common.{◌≡◌, ◌⊎◌, inl, inr, ℕ, Bool, true, false, List, [], ◌∷◌, ◌++◌, map, Option, refl, sym, ap, subst, ◌∙◌}
use Rattle.std.specs.Prelude.{◌==◌}
use Rattle.std.specs.List.{Contains}
use Rattle.std.proofs.lemmas.List.Elements.{Contains-append_left, Contains-append_right, Contains-append_cases}
use Rattle.ls_board.specs.declared.world.World.{World}
use Rattle.ls_formats.specs.declared.part.FilePart.{FilePart}
use Rattle.ls_formats.specs.declared.part.FilePart.TheVariants.{Handle, E0, P1, Resume}
use Rattle.ls_formats.specs.PartNames.{PartOf}
use Rattle.ls_naming.specs.Named.{row_files, user_parts, has_secure, is_armed, parts_of, credential_parts, token_parts, token_files, only_if}
use Rattle.ls_arming.specs.declared.arming.Arming.{Arming}
use Rattle.ls_record.specs.declared.row.UserRow.{UserRow}
use Rattle.ls_sealing.specs.Protectors.{Protector}
use Rattle.ls_standing.specs.Named.{credential_of, token_of}
use Rattle.ls_standing.specs.NamedProtectors.{row_protectors}
use Rattle.ls_standing.specs.Opening.{version_in}
use Rattle.ls_standing.proofs.ContainsLemmas.{none_in, at_first, behind_first, first_or_behind, in_map, of_map, in_flat, of_flat}
use Rattle.ls_edits.specs.Rows.{HasNoNewPart}
use Rattle.ls_edits.specs.SoundRows.{IsCheckedAlike}

module _ {X : Type 0} where
  -- a list of some elements more
  more : (front xs ys back : List X) (x : X) → (Contains xs x → Contains ys x) → Contains (front ++ (xs ++ back)) x → Contains (front ++ (ys ++ back)) x
  more front xs ys back x to h = by (Contains-append_cases front (xs ++ back) x h)
    where
      late : Contains xs x ⊎ Contains back x → Contains (front ++ (ys ++ back)) x
      late (inl k) = Contains-append_right front (ys ++ back) x (Contains-append_left ys back x (to k))
      late (inr k) = Contains-append_right front (ys ++ back) x (Contains-append_right ys back x k)

      by : Contains front x ⊎ Contains (xs ++ back) x → Contains (front ++ (ys ++ back)) x
      by (inl k) = Contains-append_left front (ys ++ back) x k
      by (inr k) = late (Contains-append_cases xs back x k)

  more_if : (b c : Bool) (xs : List X) (x : X) → (b ≡ true → c ≡ true) → Contains (only_if b xs) x → Contains (only_if c xs) x
  more_if true c xs x to h = subst (λ (t : Bool). Contains (only_if t xs) x) (sym (to refl)) h
  more_if false c xs x to h = absurd (none_in x h)

module _ (old row : UserRow) (less : HasNoNewPart old row) where
  -- the row, with the old one's escrow and tokens
  abbrev again : UserRow
  again = record row { escrow = old.escrow; tokens = old.tokens }

  credential_is : credential_of row ≡ credential_of old
  credential_is = λ i. record { user = less.user i; id = less.protector i; purpose = (credential_of (record row { kind = less.kind i })).purpose }

  pub less_protectors : (p : Protector) → Contains (row_protectors row) p → Contains (row_protectors old) p
  less_protectors p h = by (first_or_behind (credential_of row) (map (token_of row) row.tokens) p h)
    where
      its_token : (id : ℕ) → token_of row id ≡ token_of old id
      its_token id = ap (λ (n : ℕ). record { user = n; id = id; purpose = (token_of old id).purpose }) less.user

      by : (credential_of row ≡ p) ⊎ Contains (map (token_of row) row.tokens) p → Contains (row_protectors old) p
      by (inl e) = subst (λ (x : Protector). Contains (row_protectors old) x) (sym credential_is ∙ e) (at_first (credential_of old) (map (token_of old) old.tokens))
      by (inr k) =
          let found = of_map (token_of row) row.tokens p k in
          behind_first (credential_of old) (map (token_of old) old.tokens) p
          (subst (λ (x : Protector). Contains (map (token_of old) old.tokens) x) (sym (its_token found.0) ∙ found.2) (in_map (token_of old) old.tokens found.0 (less.tokens found.0 found.1)))

  module _ (weaver : Bool) (armed : Option Arming) where
    abbrev back : UserRow → List PartOf
    back x = parts_of x.user x.protector (credential_parts weaver x.kind) ++ token_files weaver x

    parts : (part : FilePart) → Contains (user_parts armed row) part → Contains (user_parts armed again) part
    parts part h =
        more (only_if (has_secure row) (Handle ∷ [])) (only_if row.escrow (E0 ∷ P1 ∷ [])) (only_if old.escrow (E0 ∷ P1 ∷ [])) (only_if (is_armed armed row.user) (Resume ∷ [])) part
        (more_if row.escrow old.escrow (E0 ∷ P1 ∷ []) part less.escrow) h

    tokens : (name : PartOf) → Contains (token_files weaver row) name → Contains (token_files weaver again) name
    tokens name h =
        let found = of_flat (λ (t : ℕ). parts_of row.user t (token_parts weaver)) row.tokens name h in
        in_flat (λ (t : ℕ). parts_of row.user t (token_parts weaver)) old.tokens found.0 name (less.tokens found.0 found.1) found.2

    files_again : (name : PartOf) → Contains (row_files weaver armed row) name → Contains (row_files weaver armed again) name
    files_again name h = by (Contains-append_cases (parts_of row.user 0 (user_parts armed row)) (back row) name h)
      where
        its : FilePart → PartOf
        its p = record { user = row.user; id = 0; part = p }

        late : Contains (parts_of row.user row.protector (credential_parts weaver row.kind)) name ⊎ Contains (token_files weaver row) name → Contains (back again) name
        late (inl k) = Contains-append_left (parts_of row.user row.protector (credential_parts weaver row.kind)) (token_files weaver again) name k
        late (inr k) = Contains-append_right (parts_of row.user row.protector (credential_parts weaver row.kind)) (token_files weaver again) name (tokens name k)

        by : Contains (parts_of row.user 0 (user_parts armed row)) name ⊎ Contains (back row) name → Contains (row_files weaver armed again) name
        by (inl k) =
            let found = of_map its (user_parts armed row) name k in
            Contains-append_left (parts_of row.user 0 (user_parts armed again)) (back again) name
            (subst (λ (n : PartOf). Contains (parts_of row.user 0 (user_parts armed again)) n) found.2 (in_map its (user_parts armed again) found.0 (parts found.0 found.1)))
        by (inr k) =
            Contains-append_right (parts_of row.user 0 (user_parts armed again)) (back again) name
            (late (Contains-append_cases (parts_of row.user row.protector (credential_parts weaver row.kind)) (token_files weaver row) name k))

    again_is : again ≡ record old { auto = row.auto; pin = row.pin }
    again_is = λ i. record {
      user = less.user i;
      kind = less.kind i;
      escrow = old.escrow;
      auto = row.auto;
      pin = row.pin;
      protector = less.protector i;
      secure = less.secure i;
      tokens = old.tokens;
    }

    pub less_files : (name : PartOf) → Contains (row_files weaver armed row) name → Contains (row_files weaver armed old) name
    less_files name h = subst (λ (x : UserRow). Contains (row_files weaver armed x) name) again_is (files_again name h)

  pub less_alike : (w : World) (name : PartOf) → IsCheckedAlike w old row name
  less_alike w name = record {
    kind = λ part. less.kind;
    secure = λ part. less.secure;
    purpose = λ part. ap (λ (n : ℕ). name.id == n) less.protector;
    version = λ part other. (λ i. version_in w (record row { user = less.user i; protector = less.protector i }));
  }
