-- The row of a new user may be put, and what the next record names.
use Rattle.std.proofs.Common.{◌≡◌, ◌≢◌, ◌⊎◌, inl, inr, ⊎_elim, ◌<◌, ◌^◌, ◌||◌, ◌++◌, ◌∷◌, [], ℕ, Bool, true, false, List, map, length, refl, sym, ap, subst, ◌∙◌, arith}
use Rattle.std.specs.List.{Contains}
use Rattle.std.proofs.lemmas.Bool.{lt-ltb}
use Rattle.std.proofs.lemmas.List.Elements.{Contains-append_left, Contains-append_cases}
use Rattle.ls_edits.proofs.AddLemmas.{not_armed}
use Rattle.ls_edits.proofs.PutRowLemmas.{of_put, row_put, others_put}
use Rattle.ls_formats.specs.declared.part.FilePart.{FilePart}
use Rattle.ls_formats.specs.declared.part.FilePart.TheVariants.{E0, P1, Resume}
use Rattle.ls_formats.specs.PartNames.{PartOf, IsPartOf}
use Rattle.ls_naming.specs.Named.{only_if, is_armed, user_parts, credential_parts, token_parts, parts_of, token_files, row_files, NamesFile}
use Rattle.ls_record.specs.declared.edit.Edit.TheVariants.{PutRow}
use Rattle.ls_record.specs.declared.row.UserRow.{UserRow}
use Rattle.ls_record.specs.Edits.{changed as edited, MayChange}
use Rattle.ls_record.specs.Rows.{Rec, IsRecord, IsRow, AreApart, has_row, is_token_count}
use Rattle.ls_record.proofs.ChangeLemmas.{changed_keeps}
use Rattle.ls_sealing.specs.Protectors.{Protector}
use Rattle.ls_standing.specs.Named.{credential_of, token_of}
use Rattle.ls_standing.specs.NamedProtectors.{NamesProtector, row_protectors}
use Rattle.ls_standing.proofs.ContainsLemmas.{none_in, at_first, first_or_behind, of_map, in_flat, of_flat}
use Rattle.ls_standing.proofs.PairLemmas.{all_from}
use Rattle.ls_enrolling.specs.Enrolling.{Chosen, IsChosen, row_then, e0_part, p1_part}

module _ (r : Rec) (is : IsRecord r) (n : Chosen) (fits : IsChosen r n) where
  abbrev row : UserRow
  row = row_then n

  abbrev pub next : Rec
  next = edited r (PutRow row)

  rules : IsRow row
  rules = record {
    user = fits.small;
    pin = refl;
    protector = (fits.even, fits.id);
    secure = (refl, omega arith);
    few = few n.escrow;
    tokens = tt;
    once = tt;
  }
    where
      few : (b : Bool) → is_token_count b 0 ≡ true
      few true = refl
      few false = refl

  apart : (s : UserRow) → Contains r.users s → s.user ≢ row.user → AreApart s row
  apart s h other = record {
    protector = fits.other (credential_of s) (in_flat row_protectors r.users s (credential_of s) h (at_first (credential_of s) (map (token_of s) s.tokens)));
    secure = λ e. e;
    tokens = tt;
  }

  or_true : (b : Bool) → (b || true) ≡ true
  or_true true = refl
  or_true false = refl

  pub may : MayChange r (PutRow row)
  may = (
    rules,
    ap (λ (b : Bool). has_row r.users n.user || b) (lt-ltb (length r.users) 16 fits.room) ∙ or_true (has_row r.users n.user),
    all_from (λ (s : UserRow). s.user ≢ row.user → AreApart s row) r.users apart,
  )

  pub next_is : IsRecord next
  next_is = changed_keeps r is (PutRow row) may

  -- a row of the next record is one of the record, or the new one
  pub of_next : (x : UserRow) → Contains next.users x → Contains r.users x ⊎ (x ≡ row)
  of_next x h = ⊎_elim (λ (old : Contains r.users x × (x.user ≢ row.user)). inl old.0) (λ (e : x ≡ row). inr e) (of_put r row x h)

  -- each row of the record stays
  pub on_next : (x : UserRow) → Contains r.users x → Contains next.users x
  on_next x h = others_put r row x h (fits.none x h)

  pub its_row : Contains next.users row
  its_row = row_put r row

  -- ---- protectors

  pub new_named : NamesProtector next (credential_of row)
  new_named = in_flat row_protectors next.users row (credential_of row) its_row (at_first (credential_of row) [])

  pub was_named : (p : Protector) → NamesProtector r p → NamesProtector next p
  was_named p h = let x = of_flat row_protectors r.users p h in in_flat row_protectors next.users x.0 p (on_next x.0 x.1) x.2

  pub named_cases : (p : Protector) → NamesProtector next p → NamesProtector r p ⊎ (p ≡ credential_of row)
  named_cases p h = by (of_flat row_protectors next.users p h)
    where
      last : (credential_of row ≡ p) ⊎ Contains [] p → p ≡ credential_of row
      last (inl e) = sym e
      last (inr k) = absurd (none_in p k)

      by : (x : UserRow) × Contains next.users x × Contains (row_protectors x) p → NamesProtector r p ⊎ (p ≡ credential_of row)
      by (x, inside, own) = ⊎_elim
          (λ (old : Contains r.users x). inl (in_flat row_protectors r.users x p old own))
          (λ (e : x ≡ row). inr (last (first_or_behind (credential_of row) [] p (subst (λ (y : UserRow). Contains (row_protectors y) p) e own)))) (of_next x inside)

  -- ---- files of the user itself

  pub closed : is_armed r.armed n.user ≡ false
  closed = not_armed r.users r.armed n.user is.armed fits.none

  parts_are : user_parts r.armed row ≡ only_if n.escrow (E0 ∷ P1 ∷ []) ++ []
  parts_are = ap (λ (b : Bool). only_if n.escrow (E0 ∷ P1 ∷ []) ++ only_if b (Resume ∷ [])) closed

  pub own_part : (part : FilePart) → Contains (user_parts r.armed row) part → (n.escrow ≡ true) × ((part ≡ E0) ⊎ (part ≡ P1))
  own_part part own = by n.escrow refl (⊎_elim (λ k. k) (λ k. absurd (none_in part k)) (Contains-append_cases (only_if n.escrow (E0 ∷ P1 ∷ [])) [] part (subst (λ (l : List FilePart). Contains l part) parts_are own)))
    where
      two : (E0 ≡ part) ⊎ Contains (P1 ∷ []) part → (part ≡ E0) ⊎ (part ≡ P1)
      two (inl e) = inl (sym e)
      two (inr k) = inr (⊎_elim (λ (e : P1 ≡ part). sym e) (λ k. absurd (none_in part k)) (first_or_behind P1 [] part k))

      by : (b : Bool) → n.escrow ≡ b → Contains (only_if b (E0 ∷ P1 ∷ [])) part → (n.escrow ≡ true) × ((part ≡ E0) ⊎ (part ≡ P1))
      by true e h = (e, two (first_or_behind E0 (P1 ∷ []) part h))
      by false e h = absurd (none_in part h)

  pub its_part : n.escrow ≡ true → (part : FilePart) → Contains (E0 ∷ P1 ∷ []) part → Contains (user_parts r.armed row) part
  its_part e part h =
      subst (λ (l : List FilePart). Contains l part) (sym parts_are)
      (Contains-append_left (only_if n.escrow (E0 ∷ P1 ∷ [])) [] part (subst (λ (b : Bool). Contains (only_if b (E0 ∷ P1 ∷ [])) part) (sym e) h))

  -- ---- files

  abbrev name_of : ℕ → FilePart → PartOf
  name_of id part = record { user = n.user; id = id; part = part }

  -- a file of the next record is one of the record, or of the new user: of itself, or of its protector
  pub file_cases : (weaver : Bool) (name : PartOf) → NamesFile weaver next name → NamesFile weaver r name ⊎ ((name.id ≡ 0) ⊎ (name.id ≡ n.id))
  file_cases weaver name h = by (of_flat (row_files weaver r.armed) next.users name h)
    where
      its : Contains (parts_of n.user 0 (user_parts r.armed row)) name ⊎ Contains (parts_of n.user n.id (credential_parts weaver row.kind) ++ token_files weaver row) name → (name.id ≡ 0) ⊎ (name.id ≡ n.id)
      its (inl k) = inl (ap (λ (p : PartOf). p.id) (sym (of_map (name_of 0) (user_parts r.armed row) name k).2))
      its (inr k) = inr (⊎_elim
          (λ (own : Contains (parts_of n.user n.id (credential_parts weaver row.kind)) name). ap (λ (p : PartOf). p.id) (sym (of_map (name_of n.id) (credential_parts weaver row.kind) name own).2))
          (λ (own : Contains (token_files weaver row) name). absurd (none_in (of_flat (λ t. parts_of n.user t (token_parts weaver)) [] name own).0 (of_flat (λ t. parts_of n.user t (token_parts weaver)) [] name own).1))
          (Contains-append_cases (parts_of n.user n.id (credential_parts weaver row.kind)) (token_files weaver row) name k))

      by : (x : UserRow) × Contains next.users x × Contains (row_files weaver r.armed x) name → NamesFile weaver r name ⊎ ((name.id ≡ 0) ⊎ (name.id ≡ n.id))
      by (x, inside, own) = ⊎_elim
          (λ (old : Contains r.users x). inl (in_flat (row_files weaver r.armed) r.users x name old own))
          (λ (e : x ≡ row). inr (its (Contains-append_cases (parts_of n.user 0 (user_parts r.armed row)) (parts_of n.user n.id (credential_parts weaver row.kind) ++ token_files weaver row) name
          (subst (λ (y : UserRow). Contains (row_files weaver r.armed y) name) e own)))) (of_next x inside)

  -- no file of the record is one of the new user's number
  pub other_user : (weaver : Bool) (name : PartOf) → NamesFile weaver r name → name.user ≢ n.user
  other_user weaver name h e = by (of_flat (row_files weaver r.armed) r.users name h)
    where
      of_row : (x : UserRow) → Contains (row_files weaver r.armed x) name → name.user ≡ x.user
      of_row x own = ⊎_elim
          (λ (k : Contains (parts_of x.user 0 (user_parts r.armed x)) name). one x 0 (user_parts r.armed x) k)
          (λ (k : Contains (parts_of x.user x.protector (credential_parts weaver x.kind) ++ token_files weaver x) name). ⊎_elim
          (λ (j : Contains (parts_of x.user x.protector (credential_parts weaver x.kind)) name). one x x.protector (credential_parts weaver x.kind) j)
          (λ (j : Contains (token_files weaver x) name).
          let t = of_flat (λ t. parts_of x.user t (token_parts weaver)) x.tokens name j in one x t.0 (token_parts weaver) t.2)
          (Contains-append_cases (parts_of x.user x.protector (credential_parts weaver x.kind)) (token_files weaver x) name k))
          (Contains-append_cases (parts_of x.user 0 (user_parts r.armed x)) (parts_of x.user x.protector (credential_parts weaver x.kind) ++ token_files weaver x) name own)
        where
          one : (x : UserRow) (id : ℕ) (parts : List FilePart) → Contains (parts_of x.user id parts) name → name.user ≡ x.user
          one x id parts k = ap (λ (p : PartOf). p.user) (sym (of_map (λ (p : FilePart). record { user = x.user; id = id; part = p }) parts name k).2)

      by : (x : UserRow) × Contains r.users x × Contains (row_files weaver r.armed x) name → ⊥
      by (x, inside, own) = fits.none x inside (sym (of_row x own) ∙ e)

-- ---- names

pub e0_is : (user : ℕ) → user < 2 ^ 32 → IsPartOf (e0_part user)
e0_is user small = record { user = small; id = omega arith; part = refl }

pub p1_is : (user : ℕ) → user < 2 ^ 32 → IsPartOf (p1_part user)
p1_is user small = record { user = small; id = omega arith; part = refl }
