-- A new user's protector is written and committed, and the user is dropped and the protector erased.
use Rattle.std.proofs.Common.{◌≡◌, ◌≢◌, ◌⊎◌, inl, ◌<◌, ◌^◌, ℕ, true, false, List, [], ◌∷◌, ◌++◌, Option, None, refl, sym, ap, ◌∙◌, arith}
use Rattle.std.specs.Prelude.{is_some, not, ◌==◌, ◌%◌}
use Rattle.std.specs.List.{Contains}
use Rattle.std.proofs.lemmas.Bool.{eq-eqb, and_parts, not-true, eqb-false}
use Rattle.ls_board.specs.declared.action.Action.{Action}
use Rattle.ls_board.specs.declared.action.Action.TheVariants.{Sync}
use Rattle.ls_board.specs.declared.world.World.{World}
use Rattle.ls_board.specs.Runs.{after_all}
use Rattle.ls_board.specs.Worlds.{blank_world}
use Rattle.ls_credential.specs.declared.kind.Kind.TheVariants.{Empty}
use Rattle.ls_formats.specs.Contents.{AreBytes}
use Rattle.ls_record.specs.declared.edit.Edit.TheVariants.{PutRow, DropRow}
use Rattle.ls_record.specs.declared.row.UserRow.{UserRow}
use Rattle.ls_record.specs.Edits.{changed as edited, MayChange}
use Rattle.ls_record.specs.Rows.{Rec, rec, IsRecord, is_protector_id}
use Rattle.ls_record.proofs.ChangeLemmas.{changed_keeps}
use Rattle.ls_sealing.specs.Building.{FitsSlots, writing_actions, writing_of, retiring_actions, for_credential}
use Rattle.ls_sealing.specs.Draws.{credential_draw_size}
use Rattle.ls_sealing.specs.Protectors.{Protector, held_number}
use Rattle.ls_secret.specs.Secrets.{IsSecret}
use Rattle.ls_standing.specs.Named.{credential_of}
use Rattle.ls_standing.specs.NamedProtectors.{row_protectors, NamesProtector, IsElsewhere}
use Rattle.ls_standing.specs.Quiet.{IsUnnamedProtector}
use Rattle.ls_standing.specs.Standing.{Holds, NamedAreUntouched}
use Rattle.ls_standing.proofs.BlankLemmas.{blank_stands}
use Rattle.ls_standing.proofs.ContainsLemmas.{none_in, at_first, in_flat, of_flat, any_contained}
use Rattle.ls_standing.proofs.FrameLemmas.{holds_same}
use Rattle.ls_standing.proofs.QuietLemmas.{plan_kept}
use Rattle.ls_standing.proofs.TouchLemmas.{all_quiet, retiring_touch}
use Rattle.ls_standing.proofs.UnnamedLemmas.{left_out}
use Rattle.ls_vault.specs.declared.user.User.{User}
use Rattle.ls_vault.specs.declared.vault.Vault.{Vault}
use Rattle.ls_vault.specs.Users.{with_user, without_user}
use Rattle.ls_vault.specs.UserChanges.{new_user}
use Rattle.ls_arming.specs.Disarming.{disarmed}
use Rattle.ls_edits.specs.Rows.{new_row}
use Rattle.ls_edits.proofs.DropLemmas.{dropped, of_drop}
use Rattle.ls_edits.proofs.PutRowLemmas.{row_put}
use Rattle.ls_edits.proofs.ReadyLemmas.{readied, readied_untouched}
use Rattle.ls_edits.proofs.SoundRowLemmas.{one_user}

module _ (w : World) (r : Rec) (v : Vault) (user id : ℕ) (slot : Option ℕ) (drawn bytes : List ℕ) (is : IsRecord r) (holds : Holds w r v)
    (none : (other : UserRow) → Contains r.users other → other.user ≢ user) (may : MayChange r (PutRow (new_row user id)))
    (unnamed : IsUnnamedProtector w r (credential_of (new_row user id)) slot) (fits : FitsSlots slot w)
    (secret : IsSecret (new_user user false drawn).secret) (are : AreBytes (credential_draw_size (is_some slot) Empty) bytes) where
  abbrev row : UserRow
  row = new_row user id

  abbrev p : Protector
  p = credential_of row

  abbrev u : User
  u = new_user user false drawn

  abbrev staged : World
  staged = after_all w (writing_actions p slot (writing_of id slot (for_credential u.credential u.secret) bytes w.gk_key) ++ Sync ∷ [])

  abbrev next : Rec
  next = edited r (PutRow row)

  abbrev less : Rec
  less = edited next (DropRow user)

  abbrev last : Vault
  last = record { users = without_user (with_user v.users u) user; arming = disarmed v.arming user }

  held_next : Holds staged next (record v { users = with_user v.users u })
  held_next = readied w r v user id slot drawn bytes is holds none may unnamed fits secret are

  next_is : IsRecord next
  next_is = changed_keeps r is (PutRow row) may

  may_drop : MayChange next (DropRow user)
  may_drop = any_contained (λ (x : UserRow). x.user == user) next.users row (row_put r row) (eq-eqb user user refl)

  held_less : Holds staged less last
  held_less = dropped staged next user next_is (record v { users = with_user v.users u }) held_next may_drop

  left : IsUnnamedProtector staged less p (held_number staged p)
  left = left_out staged next next_is less (changed_keeps next next_is (DropRow user) may_drop) p
      (in_flat row_protectors next.users row p (row_put r row) (at_first p [])) others held_next.files
    where
      others : (q : Protector) → NamesProtector less q → (NamesProtector next q × (q ≢ p)) ⊎ IsElsewhere staged p.id (held_number staged p) q
      others q named =
          let found = of_flat row_protectors less.users q named in
          let at = of_drop staged next user next_is found.0 found.1 in
          inl (
            in_flat row_protectors next.users found.0 q at.0 found.2,
            λ e. at.1 (sym (one_user found.0 q found.2) ∙ ap (λ (x : Protector). x.user) e),
          )

  abbrev plan : List Action
  plan = retiring_actions p (held_number staged p)

  pub taken_back : Holds (after_all staged plan) less last
  taken_back = holds_same less staged (after_all staged plan)
      (plan_kept less staged plan (all_quiet staged less plan (retiring_touch staged less p (held_number staged p) (changed_keeps next next_is (DropRow user) may_drop) left))).named last held_less

-- ---- on a blank world

module _ (slots user id : ℕ) (slot : Option ℕ) (small : user < 2 ^ 32) (even : is_protector_id id ≡ true) (fits_id : id < 2 ^ 64) where
  abbrev nothing : Rec
  nothing = rec [] None

  nothing_is : IsRecord nothing
  nothing_is = record { few = omega arith; rows = tt; pairs = tt; armed = tt }

  may_first : MayChange nothing (PutRow (new_row user id))
  may_first = (record { user = small; pin = refl; protector = (even, fits_id); secure = (refl, omega arith); few = refl; tokens = tt; once = tt }, refl, tt)

  other : id ≢ 0
  other = eqb-false id 0 (not-true (id == 0) (and_parts (id % 2 == 0) (not (id == 0)) even).1)

  some : 0 < id
  some = omega (arith, other)

  first_unnamed : IsUnnamedProtector (blank_world slots) nothing (credential_of (new_row user id)) slot
  first_unnamed = record {
    numbers = record { user = small; some = some; id = fits_id };
    key = λ named. none_in id named;
    its_slot = λ n e named. none_in named.name named.named;
    counter = λ e named. none_in id named;
  }

  module _ (drawn bytes : List ℕ) (fits : FitsSlots slot (blank_world slots)) (secret : IsSecret (new_user user false drawn).secret)
      (are : AreBytes (credential_draw_size (is_some slot) Empty) bytes) where
    abbrev first : World
    first = after_all (blank_world slots)
        (writing_actions (credential_of (new_row user id)) slot
        (writing_of id slot (for_credential (new_user user false drawn).credential (new_user user false drawn).secret) bytes (blank_world slots).gk_key) ++ Sync ∷ [])

    pub first_held : Holds first (edited nothing (PutRow (new_row user id))) (record { users = new_user user false drawn ∷ []; arming = None })
        × NamedAreUntouched first (edited nothing (PutRow (new_row user id)))
    first_held = (
      readied (blank_world slots) nothing (record { users = []; arming = None }) user id slot drawn bytes nothing_is (blank_stands slots).stands.holds
          (λ other h. absurd (none_in other h)) may_first first_unnamed fits secret are,
      readied_untouched (blank_world slots) nothing (record { users = []; arming = None }) user id slot drawn bytes nothing_is (blank_stands slots).stands.holds
          (λ other h. absurd (none_in other h)) may_first first_unnamed fits secret are,
    )
