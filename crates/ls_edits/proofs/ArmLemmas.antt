-- A world holds a record with another arming.
use Rattle.std.proofs.Common.{◌≡◌, ◌⊎◌, inl, inr, ⊎_elim, ℕ, Bool, true, false, List, Option, None, Some, refl, sym, ◌∙◌, ap, subst}
use Rattle.std.specs.Prelude.{IfSome, IsSomeAnd}
use Rattle.std.specs.List.{Contains}
use Rattle.ls_board.specs.declared.world.World.{World}
use Rattle.ls_board.specs.Effect.{file_at, touch_at}
use Rattle.ls_board.specs.Keys.{key_at}
use Rattle.ls_formats.specs.declared.part.FilePart.TheVariants.{Weaver, Resume}
use Rattle.ls_formats.specs.PartNames.{PartOf, part_name_text}
use Rattle.ls_naming.specs.Named.{row_files, NamesFile, NamesSlot, is_armed, has_secure}
use Rattle.ls_record.specs.declared.edit.Edit.TheVariants.{SetArmed, ClearArmed}
use Rattle.ls_record.specs.declared.row.UserRow.{UserRow}
use Rattle.ls_arming.specs.declared.arming.Arming.{Arming}
use Rattle.ls_record.specs.Edits.{changed as edited, MayChange}
use Rattle.ls_record.specs.Rows.{Rec, IsRecord, has}
use Rattle.ls_record.proofs.ChangeLemmas.{changed_keeps}
use Rattle.ls_sealing.specs.Protectors.{has_weaver, where_it_has}
use Rattle.ls_standing.specs.Named.{held_of_row, user_file}
use Rattle.ls_standing.specs.Opening.{first_foreign}
use Rattle.ls_standing.specs.Sound.{IsSoundFile, SlotsAreNamedOnce}
use Rattle.ls_standing.specs.Standing.{Holds, HoldsUser, HoldsResume, NamedAreUntouched, kept_arming}
use Rattle.ls_sealing.specs.Chain.{opened_resume}
use Rattle.ls_standing.proofs.CheckLemmas.{alone, together}
use Rattle.ls_standing.proofs.ContainsLemmas.{in_flat, of_flat}
use Rattle.ls_standing.proofs.SlotLemmas.{one_name}
use Rattle.ls_standing.proofs.SoundLemmas.{own_sound}
use Rattle.ls_vault.specs.declared.user.User.{User}
use Rattle.ls_vault.specs.declared.vault.Vault.{Vault}
use Rattle.ls_vault.specs.Users.{user_of}
use Rattle.ls_edits.specs.Arming.{resume_name, AllHaveResume}
use Rattle.ls_edits.proofs.HeldLemmas.{files_by, user_by, resume_is, user_again, resume_held, more_files, but_resume}
use Rattle.ls_edits.proofs.ZipLemmas.{zip_found, user_there, held_there}

-- ---- the record with another arming

module _ (w : World) (r : Rec) (armed : Option Arming) where
  abbrev next : Rec
  next = record { users = r.users; armed = armed }

  abbrev weaver : Bool
  weaver = has_weaver w

  of_row : (x : UserRow) (name : PartOf) → Contains (row_files weaver armed x) name → Contains (row_files weaver r.armed x) name ⊎ ((is_armed armed x.user ≡ true) × (resume_name x ≡ name))
  of_row x name own = ⊎_elim (λ (h : Contains (files_by w x weaver false) name). inl (more_files w x weaver (is_armed r.armed x.user) name h)) inr
      (but_resume w x weaver (is_armed armed x.user) name own)

  pub arm_untouched : NamedAreUntouched w r
      → ((row : UserRow) → Contains r.users row → is_armed armed row.user ≡ true → touch_at w (part_name_text (resume_name row)) ≡ None) → NamedAreUntouched w next
  arm_untouched was its name named = by (of_flat (row_files weaver armed) r.users name named)
    where
      by : (x : UserRow) × Contains r.users x × Contains (row_files weaver armed x) name → touch_at w (part_name_text name) ≡ None
      by (x, h, own) = ⊎_elim (λ (k : Contains (row_files weaver r.armed x) name). was name (in_flat (row_files weaver r.armed) r.users x name h k))
          (λ (k : (is_armed armed x.user ≡ true) × (resume_name x ≡ name)). subst (λ (n : PartOf). touch_at w (part_name_text n) ≡ None) k.1 (its x h k.0))
          (of_row x name own)

  pub arm_once : first_foreign w r ≡ None → SlotsAreNamedOnce w next
  arm_once none slot one other = one_name w r none slot (old one) (old other)
    where
      old : NamesSlot weaver next (file_at w) slot → NamesSlot weaver r (file_at w) slot
      old x = record { name = x.name; named = by (of_flat (row_files weaver armed) r.users x.name x.named); part = x.part; small = x.small; holds = x.holds }
        where
          by : (y : UserRow) × Contains r.users y × Contains (row_files weaver armed y) x.name → NamesFile weaver r x.name
          by (y, h, own) = ⊎_elim (λ (k : Contains (row_files weaver r.armed y) x.name). in_flat (row_files weaver r.armed) r.users y x.name h k)
              (λ (k : (is_armed armed y.user ≡ true) × (resume_name y ≡ x.name)). let bad : Resume ≡ Weaver = ap (λ (n : PartOf). n.part) k.1 ∙ x.part in absurd (cc))
              (of_row y x.name own)

  pub arm_passes : IsRecord next → first_foreign w r ≡ None
      → ((row : UserRow) → Contains r.users row → is_armed armed row.user ≡ true → IsSoundFile w row (resume_name row)) → first_foreign w next ≡ None
  arm_passes is none its = together w next is each (arm_once none)
    where
      each : (x : UserRow) (name : PartOf) → Contains r.users x → Contains (row_files weaver armed x) name → IsSoundFile w x name
      each x name h own = ⊎_elim (λ (k : Contains (row_files weaver r.armed x) name). alone w r none x name h k)
          (λ (k : (is_armed armed x.user ≡ true) × (resume_name x ≡ name)). subst (λ (n : PartOf). IsSoundFile w x n) k.1 (its x h k.0))
          (of_row x name own)

-- ---- setting and clearing

module _ (w : World) (r : Rec) (v : Vault) (is : IsRecord r) (holds : Holds w r v) where
  abbrev R : UserRow → User → Type 0
  R x u = HoldsUser x (held_of_row w r.armed x) u

  pub armed_holds : (a : Arming) (once : List ℕ) → MayChange r (SetArmed a) → w.cell ≡ Some once → AllHaveResume w r v a once
      → Holds w (edited r (SetArmed a)) (record v { arming = Some a })
  armed_holds a once may cell its = record {
    users = zip_found R S (λ x u h. h.says.number) r.users v.users holds.users is.pairs
        (λ x u h found held. user_again w x (is_armed r.armed x.user) (has a.users x.user) u held (resume_held w x once u (has a.users x.user) cell (its x u h found)));
    files = arm_passes w r (Some a) (changed_keeps r is (SetArmed a) may) holds.files sound;
    arming = sym (ap (kept_arming (Some a)) cell);
  }
    where
      S : UserRow → User → Type 0
      S x u = HoldsUser x (held_of_row w (Some a) x) u

      sound : (row : UserRow) → Contains r.users row → has a.users row.user ≡ true → IsSoundFile w row (resume_name row)
      sound row h on = by (user_there R (λ x u h. h.says.number) r.users v.users holds.users row h)
        where
          by : (u : User) × (user_of v.users row.user ≡ Some u) → IsSoundFile w row (resume_name row)
          by (u, found) = let resume = its row u h found on in own_sound w row Resume resume.file resume.there resume.form

  pub cleared_holds : Holds w (edited r ClearArmed) (record v { arming = None })
  cleared_holds = record {
    users = zip_found R S (λ x u h. h.says.number) r.users v.users holds.users is.pairs (λ x u h found held. user_again w x (is_armed r.armed x.user) false u held tt);
    files = arm_passes w r None (changed_keeps r is ClearArmed tt) holds.files (λ row h on. let bad : false ≡ true = on in absurd (cc));
    arming = none_is_kept w.cell;
  }
    where
      none_is_kept : (cell : Option (List ℕ)) → None ≡ kept_arming None cell
      none_is_kept None = refl
      none_is_kept (Some once) = refl

      S : UserRow → User → Type 0
      S x u = HoldsUser x (held_of_row w None x) u

  pub clear_holds : v.arming ≡ None → Holds w (edited r ClearArmed) v
  clear_holds none = record { users = cleared_holds.users; files = cleared_holds.files; arming = none ∙ cleared_holds.arming }

-- ---- read the other way

module _ (w : World) (r : Rec) (v : Vault) (is : IsRecord r) (holds : Holds w r v) where
  pub resume_read : (row : UserRow) (u : User) (once : List ℕ) → Contains r.users row → user_of v.users row.user ≡ Some u → is_armed r.armed row.user ≡ true → w.cell ≡ Some once
      → IsSomeAnd (user_file w row Resume) (λ file. opened_resume (key_at w.keys 0) once file ≡ Some u.secret.sp)
  resume_read row u once has found on cell =
      let h : HoldsUser row (held_of_row w r.armed row) u = held_there (λ x y. HoldsUser x (held_of_row w r.armed x) y) (λ x y k. k.says.number) r.users v.users holds.users is.pairs row has u found in
      let its : HoldsResume (user_by w row true) u = subst (λ (b : Bool). HoldsResume (user_by w row b) u) on h.resume in
      let open_ : IsSomeAnd ((user_by w row true).files Resume) (λ file. opened_resume (key_at w.keys 0) once file ≡ Some u.secret.sp) =
      subst (λ (o : Option (List ℕ)). IfSome o (λ k. IsSomeAnd ((user_by w row true).files Resume) (λ file. opened_resume (key_at w.keys 0) k file ≡ Some u.secret.sp))) cell its in
      subst (λ (b : Bool). IsSomeAnd (where_it_has b (user_file w row Resume)) (λ file. opened_resume (key_at w.keys 0) once file ≡ Some u.secret.sp)) (resume_is (has_secure row) row.escrow) open_
