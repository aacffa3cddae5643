-- What a world holds of a row, and which files the row names, by whether its user is armed.
use Rattle.std.proofs.Common.{◌≡◌, ℕ, ◌||◌, Bool, true, false, List, [], ◌∷◌, ◌++◌, map, Option, Some, refl, sym, ◌∙◌, ap, subst, ◌⊎◌, inl, inr, ⊎_elim}
use Rattle.std.specs.Prelude.{IfSome, IsSomeAnd, MatchBool}
use Rattle.std.specs.List.{AllZip, Contains, list_any}
use Rattle.ls_board.specs.declared.world.World.{World}
use Rattle.ls_board.specs.Gatekeeper.{record_at, signed, salt_of}
use Rattle.ls_board.specs.Keys.{key_at}
use Rattle.ls_formats.specs.declared.part.FilePart.TheVariants.{Handle, E0, P1, Resume}
use Rattle.ls_formats.specs.PartNames.{PartOf}
use Rattle.ls_naming.specs.Named.{has_secure, parts_of, credential_parts, token_files, only_if}
use Rattle.ls_naming.specs.Membership.{same_part}
use Rattle.ls_record.specs.declared.row.UserRow.{UserRow}
use Rattle.ls_sealing.specs.Protectors.{where_it_has, held, Held}
use Rattle.ls_standing.specs.Named.{UserHeld, RowHeld, user_file, credential_of, token_of}
use Rattle.ls_standing.specs.Standing.{HoldsUser, HoldsEscrow, HoldsHandle, HoldsResume}
use Rattle.ls_sealing.specs.Chain.{opened_resume}
use Rattle.ls_standing.proofs.ContainsLemmas.{none_in, first_or_behind, in_map, of_map}
use Rattle.ls_vault.specs.declared.user.User.{User}
use Rattle.std.specs.Option.{option_and_then}
use Rattle.std.proofs.lemmas.List.Elements.{Contains-append_left, Contains-append_right, Contains-append_cases}
use Rattle.std.proofs.lemmas.List.Folds.{list_any-append}
use Rattle.ls_formats.specs.declared.part.FilePart.{FilePart}
use Rattle.ls_secret.specs.declared.personal.Personal.TheVariants.{SpGkAuthentication}
use Rattle.ls_secret.specs.Derivation.{subkey_of}
use Rattle.ls_secret.specs.Escrow.{opened_e0}
use Rattle.ls_secret.specs.Subkeys.{subkey_bytes}
use Rattle.ls_sealing.specs.Seals.{SealsToken, CompletesTo}
use Rattle.ls_edits.specs.Arming.{resume_name, HasResume}

-- ---- by the one test

module _ (w : World) (row : UserRow) where
  abbrev pub files_by : Bool → Bool → List PartOf
  files_by weaver b =
      parts_of row.user 0 (only_if (has_secure row) (Handle ∷ []) ++ (only_if row.escrow (E0 ∷ P1 ∷ []) ++ only_if b (Resume ∷ [])))
      ++ (parts_of row.user row.protector (credential_parts weaver row.kind) ++ token_files weaver row)

  abbrev pub user_by : Bool → UserHeld
  user_by b = record {
    files = λ part. where_it_has (list_any (same_part part) (only_if (has_secure row) (Handle ∷ []) ++ (only_if row.escrow (E0 ∷ P1 ∷ []) ++ only_if b (Resume ∷ [])))) (user_file w row part);
    counter = where_it_has (has_secure row) (record_at w.gk row.secure);
    device = w.gk_key;
    key = where_it_has b (key_at w.keys 0);
    cell = where_it_has b w.cell;
  }

-- ---- a user's own parts but `resume`

last_none : (p : FilePart → Bool) → p Resume ≡ false → (b : Bool) → list_any p (only_if b (Resume ∷ [])) ≡ false
last_none p e true = ap (λ (t : Bool). t || false) e
last_none p e false = refl

any_but_last : (p : FilePart → Bool) → p Resume ≡ false → (front mid : List FilePart) (b : Bool)
    → list_any p (front ++ (mid ++ only_if b (Resume ∷ []))) ≡ (list_any p front || (list_any p mid || false))
any_but_last p e front mid b =
    list_any-append p front (mid ++ only_if b (Resume ∷ []))
    ∙ ap (λ (t : Bool). list_any p front || t) (list_any-append p mid (only_if b (Resume ∷ [])) ∙ ap (λ (t : Bool). list_any p mid || t) (last_none p e b))

pub resume_is : (s e : Bool) → list_any (same_part Resume) (only_if s (Handle ∷ []) ++ (only_if e (E0 ∷ P1 ∷ []) ++ only_if true (Resume ∷ []))) ≡ true
resume_is true true = refl
resume_is true false = refl
resume_is false true = refl
resume_is false false = refl

-- ---- what is held of a row, armed or not

module _ (w : World) (row : UserRow) where
  abbrev pub held_by : Bool → RowHeld
  held_by b = record { user = user_by w row b; credential = held w (credential_of row); tokens = map (λ id. held w (token_of row id)) row.tokens }

  module _ (b c : Bool) where
    same_file : (part : FilePart) → same_part part Resume ≡ false → (user_by w row b).files part ≡ (user_by w row c).files part
    same_file part e =
        let front = only_if (has_secure row) (Handle ∷ []) in
        let mid = only_if row.escrow (E0 ∷ P1 ∷ []) in
        ap (λ (t : Bool). where_it_has t (user_file w row part)) (any_but_last (same_part part) e front mid b ∙ sym (any_but_last (same_part part) e front mid c))

    module _ (u : User) where
      escrow_by : (e : Bool) (sealings : List Held) (P : Type 0) → MatchBool e (HoldsEscrow (user_by w row b) sealings u) P → MatchBool e (HoldsEscrow (user_by w row c) sealings u) P
      escrow_by true sealings P h = record {
        p0 = h.p0;
        e0 = subst (λ (o : Option (List ℕ)). option_and_then (opened_e0 u.secret) o ≡ Some h.p0) (same_file E0 refl) h.e0;
        whole = subst (λ (o : Option (List ℕ)). IsSomeAnd o (CompletesTo u.secret h.p0)) (same_file P1 refl) h.whole;
        tokens = subst (λ (o : Option (List ℕ)). AllZip (λ held t. SealsToken held o t.bytes u.secret h.p0) sealings u.tokens) (same_file P1 refl) h.tokens;
      }
      escrow_by false sealings P h = h

      handle_by : HoldsHandle (user_by w row b) u → HoldsHandle (user_by w row c) u
      handle_by h = record {
        handle = subst (λ (o : Option (List ℕ)). IsSomeAnd o (λ handle. handle ≡ signed w.gk_key u.secure (salt_of handle) (subkey_bytes (subkey_of u.secret SpGkAuthentication)))) (same_file Handle refl) h.handle;
        counter = h.counter;
      }

      pub user_again : HoldsUser row (held_by b) u → HoldsResume (user_by w row c) u → HoldsUser row (held_by c) u
      user_again h resume = record {
        says = h.says;
        seals = h.seals;
        counted = h.counted;
        metrics = h.metrics;
        escrow = escrow_by u.escrow (held_by b).tokens (u.tokens ≡ []) h.escrow;
        handle = λ some. handle_by (h.handle some);
        resume = resume;
      }

  -- a user who is armed
  pub resume_held : (once : List ℕ) (u : User) (c : Bool) → w.cell ≡ Some once → (c ≡ true → HasResume w once row u) → HoldsResume (user_by w row c) u
  resume_held once u false cell its = tt
  resume_held once u true cell its =
      let has = its refl in
      let file : (user_by w row true).files Resume ≡ Some has.file = ap (λ (t : Bool). where_it_has t (user_file w row Resume)) (resume_is (has_secure row) row.escrow) ∙ has.there in
      subst (λ (o : Option (List ℕ)). IfSome o (λ k. IsSomeAnd ((user_by w row true).files Resume) (λ f. opened_resume (key_at w.keys 0) k f ≡ Some u.secret.sp))) (sym cell)
      (subst (λ (o : Option (List ℕ)). IsSomeAnd o (λ f. opened_resume (key_at w.keys 0) once f ≡ Some u.secret.sp)) (sym file) has.opens)

  -- ---- and which files

  pub more_files : (weaver b : Bool) (name : PartOf) → Contains (files_by w row weaver false) name → Contains (files_by w row weaver b) name
  more_files weaver false name own = own
  more_files weaver true name own = by (Contains-append_cases front_false rest name own)
    where
      front : List FilePart
      front = only_if (has_secure row) (Handle ∷ [])

      mid : List FilePart
      mid = only_if row.escrow (E0 ∷ P1 ∷ [])

      rest : List PartOf
      rest = parts_of row.user row.protector (credential_parts weaver row.kind) ++ token_files weaver row

      front_false : List PartOf
      front_false = parts_of row.user 0 (front ++ (mid ++ []))

      front_true : List PartOf
      front_true = parts_of row.user 0 (front ++ (mid ++ Resume ∷ []))

      named : FilePart → PartOf
      named p = record { user = row.user; id = 0; part = p }

      part : (p : FilePart) → Contains (front ++ (mid ++ [])) p → Contains (front ++ (mid ++ Resume ∷ [])) p
      part p h = ⊎_elim (λ (k : Contains front p). Contains-append_left front (mid ++ Resume ∷ []) p k)
          (λ (k : Contains (mid ++ []) p). Contains-append_right front (mid ++ Resume ∷ []) p
          (⊎_elim (λ (l : Contains mid p). Contains-append_left mid (Resume ∷ []) p l) (λ (l : Contains [] p). absurd (none_in p l)) (Contains-append_cases mid [] p k)))
          (Contains-append_cases front (mid ++ []) p h)

      by : Contains front_false name ⊎ Contains rest name → Contains (front_true ++ rest) name
      by (inl h) = let one = of_map named (front ++ (mid ++ [])) name h in
          Contains-append_left front_true rest name (subst (λ (n : PartOf). Contains front_true n) one.2 (in_map named (front ++ (mid ++ Resume ∷ [])) one.0 (part one.0 one.1)))
      by (inr h) = Contains-append_right front_true rest name h

  pub but_resume : (weaver b : Bool) (name : PartOf) → Contains (files_by w row weaver b) name → Contains (files_by w row weaver false) name ⊎ ((b ≡ true) × (resume_name row ≡ name))
  but_resume weaver false name own = inl own
  but_resume weaver true name own = by (Contains-append_cases front_true rest name own)
    where
      front : List FilePart
      front = only_if (has_secure row) (Handle ∷ [])

      mid : List FilePart
      mid = only_if row.escrow (E0 ∷ P1 ∷ [])

      rest : List PartOf
      rest = parts_of row.user row.protector (credential_parts weaver row.kind) ++ token_files weaver row

      front_false : List PartOf
      front_false = parts_of row.user 0 (front ++ (mid ++ []))

      front_true : List PartOf
      front_true = parts_of row.user 0 (front ++ (mid ++ Resume ∷ []))

      named : FilePart → PartOf
      named p = record { user = row.user; id = 0; part = p }

      part : (p : FilePart) → Contains (front ++ (mid ++ Resume ∷ [])) p → Contains (front ++ (mid ++ [])) p ⊎ (Resume ≡ p)
      part p h = ⊎_elim (λ (k : Contains front p). inl (Contains-append_left front (mid ++ []) p k))
          (λ (k : Contains (mid ++ Resume ∷ []) p). ⊎_elim (λ (l : Contains mid p). inl (Contains-append_right front (mid ++ []) p (Contains-append_left mid [] p l)))
          (λ (l : Contains (Resume ∷ []) p). ⊎_elim (λ (e : Resume ≡ p). inr e) (λ (n : Contains [] p). absurd (none_in p n)) (first_or_behind Resume [] p l))
          (Contains-append_cases mid (Resume ∷ []) p k))
          (Contains-append_cases front (mid ++ Resume ∷ []) p h)

      one_of : (p : FilePart) → named p ≡ name → Contains (front ++ (mid ++ [])) p ⊎ (Resume ≡ p) → Contains (front_false ++ rest) name ⊎ ((true ≡ true) × (resume_name row ≡ name))
      one_of p is (inl h) = inl (Contains-append_left front_false rest name (subst (λ (n : PartOf). Contains front_false n) is (in_map named (front ++ (mid ++ [])) p h)))
      one_of p is (inr e) = inr (refl, ap named e ∙ is)

      by : Contains front_true name ⊎ Contains rest name → Contains (front_false ++ rest) name ⊎ ((true ≡ true) × (resume_name row ≡ name))
      by (inl h) = let one = of_map named (front ++ (mid ++ Resume ∷ [])) name h in one_of one.0 one.2 (part one.0 one.1)
      by (inr h) = inl (Contains-append_right front_false rest name h)
