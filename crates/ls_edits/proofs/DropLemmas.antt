-- A world holds a record without one row.
use Rattle.std.proofs.Common.{◌≡◌, ◌≢◌, ℕ, ◌||◌, not, Bool, true, false, cond, List, [], ◌∷◌, map, Option, None, Some, refl, sym, ◌∙◌, ap, subst}
use Rattle.std.specs.Prelude.{◌==◌, filter}
use Rattle.std.specs.List.{AllZip, Contains}
use Rattle.std.proofs.lemmas.Bool.{eqb-true, eqb-false, ne_eqb, not-true}
use Rattle.ls_board.specs.declared.world.World.{World}
use Rattle.ls_board.specs.Effect.{file_at}
use Rattle.ls_formats.specs.PartNames.{PartOf}
use Rattle.ls_naming.specs.Named.{row_files, NamesFile, NamesSlot, is_armed}
use Rattle.ls_record.specs.declared.edit.Edit.TheVariants.{DropRow}
use Rattle.ls_record.specs.declared.row.UserRow.{UserRow}
use Rattle.ls_record.specs.Edits.{changed as edited, MayChange}
use Rattle.ls_arming.specs.Disarming.{arming_of, disarmed}
use Rattle.ls_record.specs.Rows.{Rec, IsRecord, has}
use Rattle.ls_record.proofs.ChangeLemmas.{changed_keeps, split_rows}
use Rattle.ls_sealing.specs.Protectors.{has_weaver, held}
use Rattle.ls_standing.specs.Named.{held_of_row, RowHeld, credential_of, token_of}
use Rattle.ls_standing.specs.Opening.{first_foreign}
use Rattle.ls_standing.specs.Sound.{IsSoundFile, SlotsAreNamedOnce}
use Rattle.ls_standing.specs.Standing.{Holds, HoldsUser, NamedAreUntouched, kept_arming}
use Rattle.ls_standing.proofs.CheckLemmas.{alone, together}
use Rattle.ls_standing.proofs.SlotLemmas.{one_name}
use Rattle.ls_standing.proofs.ContainsLemmas.{in_flat, of_flat}
use Rattle.ls_vault.specs.declared.user.User.{User}
use Rattle.ls_arming.specs.declared.arming.Arming.{Arming}
use Rattle.ls_vault.specs.declared.vault.Vault.{Vault}
use Rattle.ls_vault.specs.Users.{without_user}
use Rattle.ls_edits.proofs.FilterLemmas.{filtered_in}
use Rattle.ls_edits.proofs.HeldLemmas.{files_by, user_by}
use Rattle.ls_edits.proofs.ZipLemmas.{zip_without}

-- ---- who is armed still

has_still : (users : List ℕ) (user k : ℕ) → k ≢ user → has (filter (λ u. not (u == user)) users) k ≡ has users k
has_still [] user k apart = refl
has_still (u ∷ users) user k apart = by (u == user) refl (has_still users user k apart)
  where
    by : (b : Bool) → (u == user) ≡ b → has (filter (λ u. not (u == user)) users) k ≡ has users k
        → has (cond (not b) (u ∷ filter (λ u. not (u == user)) users) (filter (λ u. not (u == user)) users)) k ≡ has (u ∷ users) k
    by true is later =
        let its = eqb-true u user is in
        later ∙ ap (λ (b : Bool). b || has users k) (sym (ne_eqb u k (λ e. apart (sym e ∙ its))))
    by false is later = ap (λ (b : Bool). (u == k) || b) later

armed_left : (boot : ℕ) (users : List ℕ) (k : ℕ) → is_armed (arming_of boot users) k ≡ has users k
armed_left boot [] k = refl
armed_left boot (u ∷ users) k = refl

armed_still : (o : Option Arming) (user k : ℕ) → k ≢ user → is_armed (disarmed o user) k ≡ is_armed o k
armed_still None user k apart = refl
armed_still (Some a) user k apart = armed_left a.boot (filter (λ u. not (u == user)) a.users) k ∙ has_still a.users user k apart

arming_dropped : (o : Option Arming) (cell : Option (List ℕ)) (user : ℕ) → disarmed (kept_arming o cell) user ≡ kept_arming (disarmed o user) cell
arming_dropped o None user = refl
arming_dropped o (Some once) user = refl

-- ---- rows of others

module _ (w : World) (row : UserRow) where
  pub files_still : (weaver : Bool) (o : Option Arming) (user : ℕ) → row.user ≢ user → row_files weaver (disarmed o user) row ≡ row_files weaver o row
  files_still weaver o user apart = ap (λ (b : Bool). files_by w row weaver b) (armed_still o user row.user apart)

  pub held_still : (o : Option Arming) (user : ℕ) → row.user ≢ user → held_of_row w (disarmed o user) row ≡ held_of_row w o row
  held_still o user apart =
      ap (λ (b : Bool). record { user = user_by w row b; credential = held w (credential_of row); tokens = map (λ id. held w (token_of row id)) row.tokens }) (armed_still o user row.user apart)

-- ---- the record without the row

module _ (w : World) (r : Rec) (user : ℕ) (is : IsRecord r) where
  abbrev next : Rec
  next = edited r (DropRow user)

  abbrev weaver : Bool
  weaver = has_weaver w

  pub of_drop : (x : UserRow) → Contains next.users x → Contains r.users x × (x.user ≢ user)
  of_drop x h =
      let f = filtered_in (λ (y : UserRow). not (y.user == user)) r.users x (subst (λ (l : List UserRow). Contains l x) (split_rows r.users user is.pairs) h) in
      (f.0, eqb-false x.user user (not-true (x.user == user) f.1))

  of_next : (name : PartOf) → NamesFile weaver next name → NamesFile weaver r name
  of_next name named =
      let found = of_flat (row_files weaver next.armed) next.users name named in
      let at = of_drop found.0 found.1 in
      in_flat (row_files weaver r.armed) r.users found.0 name at.0 (subst (λ (l : List PartOf). Contains l name) (files_still w found.0 weaver r.armed user at.1) found.2)

  pub drop_untouched : NamedAreUntouched w r → NamedAreUntouched w next
  drop_untouched was name named = was name (of_next name named)

  pub drop_once : first_foreign w r ≡ None → SlotsAreNamedOnce w next
  drop_once none slot one other = one_name w r none slot (old one) (old other)
    where
      old : NamesSlot weaver next (file_at w) slot → NamesSlot weaver r (file_at w) slot
      old x = record { name = x.name; named = of_next x.name x.named; part = x.part; small = x.small; holds = x.holds }

  pub drop_passes : MayChange r (DropRow user) → first_foreign w r ≡ None → first_foreign w next ≡ None
  drop_passes may none = together w next (changed_keeps r is (DropRow user) may) each (drop_once none)
    where
      each : (x : UserRow) (name : PartOf) → Contains next.users x → Contains (row_files weaver next.armed x) name → IsSoundFile w x name
      each x name h own =
          let at = of_drop x h in
          alone w r none x name at.0 (subst (λ (l : List PartOf). Contains l name) (files_still w x weaver r.armed user at.1) own)

  pub dropped : (v : Vault) → Holds w r v → MayChange r (DropRow user) → Holds w next (record { users = without_user v.users user; arming = disarmed v.arming user })
  dropped v holds may = record {
    users = subst (λ (l : List UserRow). AllZip S l (without_user v.users user)) (sym (split_rows r.users user is.pairs))
        (zip_without R S (λ x u h. h.says.number) user (λ x u apart h. subst (λ (z : RowHeld). HoldsUser x z u) (sym (held_still w x r.armed user apart)) h) r.users v.users holds.users);
    files = drop_passes may holds.files;
    arming = ap (λ (a : Option Arming). disarmed a user) holds.arming ∙ arming_dropped r.armed w.cell user;
  }
    where
      R : UserRow → User → Type 0
      R x u = HoldsUser x (held_of_row w r.armed x) u

      S : UserRow → User → Type 0
      S x u = HoldsUser x (held_of_row w next.armed x) u
