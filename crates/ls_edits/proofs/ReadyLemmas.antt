-- A new user's protector is written, and the next record may be committed.
use Rattle.std.proofs.Common.{◌≡◌, ◌≢◌, ◌<◌, ◌^◌, ℕ, false, List, [], ◌∷◌, ◌++◌, Option, None, Some, refl, sym, ap, subst, ◌∙◌}
use Rattle.std.specs.Prelude.{is_some}
use Rattle.std.specs.List.{Contains}
use Rattle.std.specs.Option.{option_and_then}
use Rattle.ls_board.specs.declared.action.Action.{Action}
use Rattle.ls_board.specs.declared.action.Action.TheVariants.{Sync}
use Rattle.ls_board.specs.declared.world.World.{World}
use Rattle.ls_board.specs.Effect.{file_at}
use Rattle.ls_board.specs.Gatekeeper.{no_fails}
use Rattle.ls_board.specs.Runs.{after_all}
use Rattle.ls_board.proofs.RunLemmas.{after_all-append}
use Rattle.ls_credential.specs.declared.kind.Kind.TheVariants.{Empty}
use Rattle.ls_formats.specs.Contents.{AreBytes}
use Rattle.ls_formats.specs.declared.part.FilePart.TheVariants.{Weaver}
use Rattle.ls_naming.specs.Named.{NamesSlot}
use Rattle.ls_record.specs.declared.edit.Edit.TheVariants.{PutRow}
use Rattle.ls_record.specs.declared.row.UserRow.{UserRow}
use Rattle.ls_record.specs.Edits.{changed as edited, MayChange}
use Rattle.ls_record.specs.Rows.{Rec, IsRecord}
use Rattle.ls_sealing.specs.Building.{Writing, FitsSlots, writing_actions, writing_of, held_of, for_credential}
use Rattle.ls_sealing.specs.Draws.{credential_draw, credential_draw_size}
use Rattle.ls_sealing.specs.Protectors.{Protector, Held, has_weaver, held, held_number, failures, slot_number, credential}
use Rattle.ls_sealing.specs.Seals.{Seals, ShowsMetrics}
use Rattle.ls_sealing.proofs.CredentialLemmas.{is_draw, seals, shows_metrics}
use Rattle.ls_sealing.proofs.WritingLemmas.{is_held, number_again_slot}
use Rattle.ls_secret.specs.Secrets.{IsSecret}
use Rattle.ls_standing.specs.Named.{credential_of}
use Rattle.ls_standing.specs.Quiet.{IsUnnamedProtector}
use Rattle.ls_standing.specs.Same.{SameNamed}
use Rattle.ls_sealing.specs.HeldBytes.{AllHoldBytes}
use Rattle.ls_standing.specs.Standing.{Holds, NamedAreUntouched}
use Rattle.ls_standing.proofs.FrameLemmas.{holds_same}
use Rattle.ls_standing.proofs.QuietLemmas.{plan_kept}
use Rattle.ls_standing.proofs.SameLemmas.{named_trans, slots_back}
use Rattle.ls_standing.proofs.TouchLemmas.{all_quiet, writing_touch}
use Rattle.ls_vault.specs.declared.user.User.{User}
use Rattle.ls_vault.specs.declared.vault.Vault.{Vault}
use Rattle.ls_vault.specs.Users.{with_user}
use Rattle.ls_vault.specs.UserChanges.{new_user}
use Rattle.ls_edits.specs.Rows.{new_row}
use Rattle.ls_edits.proofs.AddLemmas.{added_holds}
use Rattle.ls_sealing.proofs.WrittenBytesLemmas.{credential_bytes}

-- a sync keeps all that is named
pub same_synced : (r : Rec) (w : World) → SameNamed r w (record w { touched = [] })
same_synced r w = record {
  count = refl;
  file = λ name named. refl;
  touch = λ name named none. refl;
  slot = λ slot named. refl;
  counter = λ sid named. refl;
  device = refl;
  key = λ alias named. refl;
  cell = λ armed is. refl;
}

no_failures : (slot : Option ℕ) (m : Writing) (device : List ℕ) → failures (held_of (credential Empty) slot m device) ≡ no_fails
no_failures None m device = refl
no_failures (Some n) m device = refl

module _ (w : World) (r : Rec) (v : Vault) (user id : ℕ) (slot : Option ℕ) (drawn bytes : List ℕ) (is : IsRecord r) (holds : Holds w r v)
    (none : (other : UserRow) → Contains r.users other → other.user ≢ user) (may : MayChange r (PutRow (new_row user id)))
    (unnamed : IsUnnamedProtector w r (credential_of (new_row user id)) slot) (fits : FitsSlots slot w)
    (secret : IsSecret (new_user user false drawn).secret) (are : AreBytes (credential_draw_size (is_some slot) Empty) bytes) where
  abbrev p : Protector
  p = credential_of (new_row user id)

  abbrev u : User
  u = new_user user false drawn

  abbrev m : Writing
  m = writing_of id slot (for_credential u.credential u.secret) bytes w.gk_key

  abbrev first : List Action
  first = writing_actions p slot m

  abbrev mid : World
  mid = after_all w first

  abbrev last : World
  last = record mid { touched = [] }

  last_is : after_all w (first ++ Sync ∷ []) ≡ last
  last_is = after_all-append w first (Sync ∷ [])

  same : SameNamed r w last
  same = named_trans w mid last r (plan_kept r w first (all_quiet w r first (writing_touch w r p slot is unnamed m))).named (same_synced r mid)

  its : held last p ≡ held_of p.purpose slot m w.gk_key
  its = is_held p m w slot fits refl

  fresh : (n : ℕ) → held_number last p ≡ Some n → ¬ (NamesSlot (has_weaver last) r (file_at last) n)
  fresh n number named = by slot refl (sym (ap (λ (h : Held). option_and_then slot_number (h.files Weaver)) its) ∙ number)
    where
      content : Option ℕ → Option ℕ
      content o = option_and_then slot_number ((held_of p.purpose o (writing_of id o (for_credential u.credential u.secret) bytes w.gk_key) w.gk_key).files Weaver)

      by : (o : Option ℕ) → slot ≡ o → content slot ≡ Some n → ⊥
      by None e found = let bad : ◌≡◌ {A = Option ℕ} None (Some n) = sym (ap content e) ∙ found in cc
      by (Some k) e found =
          let small : k < 2 ^ 32 = (subst (λ (o : Option ℕ). FitsSlots o w) e fits).1 in
          let one : ◌≡◌ {A = Option ℕ} (Some k) (Some n) = sym (number_again_slot k small) ∙ sym (ap content e) ∙ found in
          unnamed.its_slot n (e ∙ one) (slots_back r w last same n named)

  all_bytes : AllHoldBytes (held_of p.purpose slot m w.gk_key)
  all_bytes = credential_bytes id slot u.credential u.secret bytes w.gk_key secret (λ some. absurd (some refl)) are.each

  last_holds : Holds last (edited r (PutRow (new_row user id))) (record v { users = with_user v.users u })
  last_holds = added_holds last r v user id drawn is (holds_same r w last same v holds) none may
      (subst (λ (h : Held). Seals id h u.credential u.secret) (sym its) (seals id u.credential u.secret (credential_draw Empty bytes) w.gk_key secret slot (is_draw slot Empty bytes are)))
      (subst (λ (h : Held). ShowsMetrics h u.credential u.secret) (sym its) (shows_metrics id u.credential u.secret (credential_draw Empty bytes) w.gk_key secret slot (is_draw slot Empty bytes are)))
      (ap failures its ∙ no_failures slot m w.gk_key)
      (subst AllHoldBytes (sym its) all_bytes) fresh

  pub readied : Holds (after_all w (first ++ Sync ∷ [])) (edited r (PutRow (new_row user id))) (record v { users = with_user v.users u })
  readied = subst (λ (z : World). Holds z (edited r (PutRow (new_row user id))) (record v { users = with_user v.users u })) (sym last_is) last_holds

  pub readied_untouched : NamedAreUntouched (after_all w (first ++ Sync ∷ [])) (edited r (PutRow (new_row user id)))
  readied_untouched = subst (λ (z : World). NamedAreUntouched z (edited r (PutRow (new_row user id)))) (sym last_is) (λ name named. refl)
