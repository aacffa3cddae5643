-- What is written for an arming is named by no record in which nobody is armed.
use Rattle.std.proofs.Common.{◌≡◌, ◌≢◌, ◌⊎◌, inl, inr, ⊎_elim, ◌<◌, ◌^◌, ◌||◌, ℕ, Bool, true, false, List, [], ◌∷◌, ◌++◌, Option, None, refl, sym, ◌∙◌, ap, subst}
use Rattle.std.specs.Prelude.{◌==◌}
use Rattle.std.specs.List.{Contains, list_any, flat_map, AllByRecursion}
use Rattle.std.proofs.lemmas.Bool.{eqb-true}
use Rattle.std.proofs.lemmas.List.Elements.{Contains-append_cases}
use Rattle.ls_board.specs.declared.action.Action.{Action}
use Rattle.ls_board.specs.declared.world.World.{World}
use Rattle.ls_board.specs.Reach.{AllTouchOnly}
use Rattle.ls_credential.specs.declared.kind.Kind.{Kind}
use Rattle.ls_credential.specs.declared.kind.Kind.TheVariants.{Empty, Pattern, Pin, Password}
use Rattle.ls_formats.specs.declared.part.FilePart.{FilePart}
use Rattle.ls_formats.specs.declared.part.FilePart.TheVariants.{Handle, E0, P1, Resume}
use Rattle.ls_formats.specs.PartNames.{PartOf}
use Rattle.ls_naming.specs.Named.{row_files, row_keys, NamesFile, NamesKey, has_secure, parts_of, credential_parts, token_parts, token_files, only_if}
use Rattle.ls_naming.specs.Membership.{same_part}
use Rattle.ls_record.specs.declared.row.UserRow.{UserRow}
use Rattle.ls_arming.specs.declared.arming.Arming.{Arming}
use Rattle.ls_record.specs.Rows.{Rec, IsRecord, IsRow, has, has_row, is_protector_id, is_odd}
use Rattle.ls_sealing.specs.Protectors.{has_weaver}
use Rattle.ls_standing.specs.Quiet.{unnamed}
use Rattle.ls_standing.proofs.ContainsLemmas.{none_in, first_or_behind, of_map, of_flat, any_contained, at_first, behind_first}
use Rattle.ls_standing.proofs.IdLemmas.{is_row}
use Rattle.ls_standing.proofs.PairLemmas.{each_in}
use Rattle.ls_standing.proofs.TouchLemmas.{file_unnamed}
use Rattle.ls_edits.specs.Arming.{resume_of, arming_files}
use Rattle.ls_edits.proofs.PutFilesLemmas.{is_part, AreSmall}

-- ---- nothing of it is named yet

but_resume : (parts : List FilePart) → list_any (same_part Resume) parts ≡ false → (p : FilePart) → Contains parts p → p ≢ Resume
but_resume parts none p has is =
    let bad : true ≡ false = sym (any_contained (same_part Resume) parts Resume (subst (λ (q : FilePart). Contains parts q) is has) refl) ∙ none in absurd (cc)

own_parts : (s e : Bool) → list_any (same_part Resume) (only_if s (Handle ∷ []) ++ (only_if e (E0 ∷ P1 ∷ []) ++ [])) ≡ false
own_parts true true = refl
own_parts true false = refl
own_parts false true = refl
own_parts false false = refl

credential_none : (weaver : Bool) (kind : Kind) → list_any (same_part Resume) (credential_parts weaver kind) ≡ false
credential_none true Empty = refl
credential_none true Pattern = refl
credential_none true Pin = refl
credential_none true Password = refl
credential_none false Empty = refl
credential_none false Pattern = refl
credential_none false Pin = refl
credential_none false Password = refl

token_none : (weaver : Bool) → list_any (same_part Resume) (token_parts weaver) ≡ false
token_none true = refl
token_none false = refl

module _ (w : World) (r : Rec) (is : IsRecord r) (unarmed : r.armed ≡ None) where
  pub no_resume : (user : ℕ) → ¬ (NamesFile (has_weaver w) r (resume_of user))
  no_resume user named = by (of_flat (row_files (has_weaver w) r.armed) r.users (resume_of user) named)
    where
      by : (x : UserRow) × Contains r.users x × Contains (row_files (has_weaver w) r.armed x) (resume_of user) → ⊥
      by (x, h, own) = cases (Contains-append_cases one (two ++ three) (resume_of user) (subst (λ (o : Option Arming). Contains (row_files (has_weaver w) o x) (resume_of user)) unarmed own))
        where
          parts : List FilePart
          parts = only_if (has_secure x) (Handle ∷ []) ++ (only_if x.escrow (E0 ∷ P1 ∷ []) ++ [])

          one : List PartOf
          one = parts_of x.user 0 parts

          two : List PartOf
          two = parts_of x.user x.protector (credential_parts (has_weaver w) x.kind)

          three : List PartOf
          three = token_files (has_weaver w) x

          of : (id : ℕ) (ps : List FilePart) → list_any (same_part Resume) ps ≡ false → Contains (parts_of x.user id ps) (resume_of user) → ⊥
          of id ps none has = let p = of_map (λ (p : FilePart). record { user = x.user; id = id; part = p }) ps (resume_of user) has in but_resume ps none p.0 p.1 (ap (λ (n : PartOf). n.part) p.2)

          tokens : (t : ℕ) × Contains x.tokens t × Contains (parts_of x.user t (token_parts (has_weaver w))) (resume_of user) → ⊥
          tokens (t, k, has) = of t (token_parts (has_weaver w)) (token_none (has_weaver w)) has

          cases : Contains one (resume_of user) ⊎ Contains (two ++ three) (resume_of user) → ⊥
          cases (inl has) = of 0 parts (own_parts (has_secure x) x.escrow) has
          cases (inr has) = ⊎_elim (of x.protector (credential_parts (has_weaver w) x.kind) (credential_none (has_weaver w) x.kind))
              (λ (k : Contains three (resume_of user)). tokens (of_flat (λ t. parts_of x.user t (token_parts (has_weaver w))) x.tokens (resume_of user) k))
              (Contains-append_cases two three (resume_of user) has)

  pub no_key : ¬ (NamesKey r 0)
  no_key named = by (Contains-append_cases (keys r.users) [] 0 (subst (λ (o : Option Arming). NamesKey (record { users = r.users; armed = o }) 0) unarmed named))
    where
      keys : List UserRow → List ℕ
      keys users = flat_map row_keys users

      row : (x : UserRow) × Contains r.users x × Contains (row_keys x) 0 → ⊥
      row (x, h, own) = cases (first_or_behind x.protector x.tokens 0 own)
        where
          its : IsRow x
          its = is_row r is x h

          cases : (x.protector ≡ 0) ⊎ Contains x.tokens 0 → ⊥
          cases (inl e) = let bad : is_protector_id 0 ≡ true = subst (λ (n : ℕ). is_protector_id n ≡ true) e its.protector.0 in absurd (cc)
          cases (inr k) = let bad : is_odd 0 ≡ true = (each_in (λ t. (is_odd t ≡ true) × (t < 2 ^ 64)) x.tokens 0 its.tokens k).0 in absurd (cc)

      by : Contains (keys r.users) 0 ⊎ Contains {X = ℕ} [] 0 → ⊥
      by (inl h) = row (of_flat row_keys r.users 0 h)
      by (inr h) = none_in 0 h

  pub files_touch : (content : ℕ → List ℕ) (users : List ℕ) → AreSmall users → AllTouchOnly (unnamed w r) (arming_files content users)
  files_touch content [] small = tt
  files_touch content (u ∷ users) small = (file_unnamed w r (resume_of u) is (is_part u small.0) (no_resume u), files_touch content users small.1)

  pub touch_append : (xs ys : List Action) → AllTouchOnly (unnamed w r) xs → AllTouchOnly (unnamed w r) ys → AllTouchOnly (unnamed w r) (xs ++ ys)
  touch_append [] ys first second = second
  touch_append (x ∷ xs) ys first second = (first.0, touch_append xs ys first.1 second)

-- ---- the users of an arming have rows

row_user : (rows : List UserRow) (user : ℕ) → ((x : UserRow) → Contains rows x → x.user < 2 ^ 32) → has_row rows user ≡ true → user < 2 ^ 32
row_user [] user small e = absurd (cc)
row_user (x ∷ rows) user small e = by (x.user == user) refl e (row_user rows user (λ y h. small y (behind_first x rows y h)))
  where
    by : (b : Bool) → (x.user == user) ≡ b → (b || has_row rows user) ≡ true → (has_row rows user ≡ true → user < 2 ^ 32) → user < 2 ^ 32
    by true is e later = subst (λ (n : ℕ). n < 2 ^ 32) (eqb-true x.user user is) (small x (at_first x rows))
    by false is e later = later e

pub rows_users : (rows : List UserRow) (users : List ℕ) → ((x : UserRow) → Contains rows x → x.user < 2 ^ 32) → AllByRecursion (λ u. has_row rows u ≡ true) users → AreSmall users
rows_users rows [] small all = tt
rows_users rows (u ∷ users) small all = (row_user rows u small all.0, rows_users rows users small all.1)
