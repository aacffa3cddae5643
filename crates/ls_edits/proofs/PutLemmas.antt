-- A world holds a record with one row put.
use Rattle.std.proofs.Common.{◌≡◌, ◌≢◌, ◌⊎◌, inl, inr, Bool, Some, None, sym, subst}
use Rattle.std.specs.List.{Contains}
use Rattle.ls_board.specs.declared.world.World.{World}
use Rattle.ls_board.specs.Effect.{file_at, touch_at}
use Rattle.ls_formats.specs.PartNames.{PartOf, part_name_text}
use Rattle.ls_naming.specs.Named.{row_files, NamesFile, NamesSlot}
use Rattle.ls_record.specs.declared.edit.Edit.TheVariants.{PutRow}
use Rattle.ls_record.specs.declared.row.UserRow.{UserRow}
use Rattle.ls_record.specs.Edits.{changed as edited}
use Rattle.ls_record.specs.Rows.{Rec, IsRecord}
use Rattle.ls_record.proofs.ChangeLemmas.{changed_keeps}
use Rattle.ls_sealing.specs.Protectors.{has_weaver}
use Rattle.ls_standing.specs.Named.{held_of_row}
use Rattle.ls_standing.specs.Opening.{first_foreign}
use Rattle.ls_standing.specs.Sound.{IsSoundFile, SlotsAreNamedOnce}
use Rattle.ls_standing.specs.Standing.{Holds, HoldsUser, NamedAreUntouched}
use Rattle.ls_standing.proofs.CheckLemmas.{alone, together}
use Rattle.ls_standing.proofs.SlotLemmas.{one_name}
use Rattle.ls_standing.proofs.ContainsLemmas.{in_flat, of_flat}
use Rattle.ls_vault.specs.declared.user.User.{User}
use Rattle.ls_vault.specs.declared.vault.Vault.{Vault}
use Rattle.ls_vault.specs.Users.{changed, with_user, user_of}
use Rattle.ls_edits.specs.SoundRows.{IsSoundRow, RowIsUntouched, NamesSlotBy}
use Rattle.ls_edits.proofs.PutRowLemmas.{of_put}
use Rattle.ls_edits.proofs.ZipLemmas.{put_over, put_new}

module _ (w : World) (r : Rec) (row : UserRow) where
  abbrev next : Rec
  next = edited r (PutRow row)

  abbrev weaver : Bool
  weaver = has_weaver w

  -- a file that the next record names is one of another row, or one of this
  pub of_next : (name : PartOf) → NamesFile weaver next name → NamesFile weaver r name ⊎ Contains (row_files weaver r.armed row) name
  of_next name named = by (of_flat (row_files weaver r.armed) next.users name named)
    where
      either : (x : UserRow) → Contains (row_files weaver r.armed x) name → (Contains r.users x × (x.user ≢ row.user)) ⊎ (x ≡ row) → NamesFile weaver r name ⊎ Contains (row_files weaver r.armed row) name
      either x own (inl other) = inl (in_flat (row_files weaver r.armed) r.users x name other.0 own)
      either x own (inr e) = inr (subst (λ (z : UserRow). Contains (row_files weaver r.armed z) name) e own)

      by : (x : UserRow) × Contains next.users x × Contains (row_files weaver r.armed x) name → NamesFile weaver r name ⊎ Contains (row_files weaver r.armed row) name
      by found = either found.0 found.2 (of_put r row found.0 found.1)

  pub put_untouched : NamedAreUntouched w r → RowIsUntouched w r row → NamedAreUntouched w next
  put_untouched was its name named = by (of_next name named)
    where
      by : NamesFile weaver r name ⊎ Contains (row_files weaver r.armed row) name → touch_at w (part_name_text name) ≡ None
      by (inl h) = was name h
      by (inr h) = its name h

  module _ (is : IsRecord r) (none : first_foreign w r ≡ None) (sound : IsSoundRow w r row) where
    old_once : SlotsAreNamedOnce w r
    old_once = one_name w r none

    pub once_next : SlotsAreNamedOnce w next
    once_next slot one other = by (of_next one.name one.named) (of_next other.name other.named)
      where
        old : (x : NamesSlot weaver next (file_at w) slot) → NamesFile weaver r x.name → NamesSlot weaver r (file_at w) slot
        old x named = record { name = x.name; named = named; part = x.part; small = x.small; holds = x.holds }

        its : (x : NamesSlot weaver next (file_at w) slot) → Contains (row_files weaver r.armed row) x.name → NamesSlotBy w r row x.name slot
        its x named = record { named = named; part = x.part; small = x.small; holds = x.holds }

        cross : (x y : NamesSlot weaver next (file_at w) slot) (h : NamesFile weaver r x.name) → NamesFile weaver r y.name ⊎ ¬ (NamesSlot weaver r (file_at w) slot) → x.name ≡ y.name
        cross x y h (inl k) = old_once slot (old x h) (old y k)
        cross x y h (inr unnamed) = absurd (unnamed (old x h))

        by : NamesFile weaver r one.name ⊎ Contains (row_files weaver r.armed row) one.name → NamesFile weaver r other.name ⊎ Contains (row_files weaver r.armed row) other.name → one.name ≡ other.name
        by (inl h) (inl k) = old_once slot (old one h) (old other k)
        by (inl h) (inr k) = cross one other h (sound.apart other.name slot (its other k))
        by (inr h) (inl k) = sym (cross other one k (sound.apart one.name slot (its one h)))
        by (inr h) (inr k) = sound.once one.name other.name slot (its one h) (its other k)

    pub passes_next : first_foreign w next ≡ None
    passes_next = together w next (changed_keeps r is (PutRow row) sound.may) each once_next
      where
        each : (x : UserRow) (name : PartOf) → Contains next.users x → Contains (row_files weaver next.armed x) name → IsSoundFile w x name
        each x name has own = by (of_put r row x has)
          where
            by : (Contains r.users x × (x.user ≢ row.user)) ⊎ (x ≡ row) → IsSoundFile w x name
            by (inl other) = alone w r none x name other.0 own
            by (inr e) = subst (λ (z : UserRow). IsSoundFile w z name) (sym e) (sound.files name (subst (λ (z : UserRow). Contains (row_files weaver r.armed z) name) e own))

  module _ (v : Vault) (is : IsRecord r) (holds : Holds w r v) (sound : IsSoundRow w r row) where
    abbrev R : UserRow → User → Type 0
    R x u = HoldsUser x (held_of_row w r.armed x) u

    pub replaced : (old : UserRow) (change : User → User) → Contains r.users old → old.user ≡ row.user
        → ((u : User) → user_of v.users row.user ≡ Some u → R old u → R row (change u)) → Holds w next (record v { users = changed v.users row.user change })
    replaced old change has user new = record {
      users = put_over R (λ x u h. h.says.number) row.user row change r.users v.users holds.users is.pairs old has user new;
      files = passes_next is holds.files sound;
      arming = holds.arming;
    }

    pub put_in : (u : User) → ((other : UserRow) → Contains r.users other → other.user ≢ row.user) → R row u → Holds w next (record v { users = with_user v.users u })
    put_in u none new = record {
      users = put_new R (λ x u h. h.says.number) row.user row u new (sym new.says.number) r.users v.users holds.users is.pairs none;
      files = passes_next is holds.files sound;
      arming = holds.arming;
    }
