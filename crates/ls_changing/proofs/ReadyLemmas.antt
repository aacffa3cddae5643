-- Behind what is written, the next record may be committed.
use Rattle.std.proofs.Common.{◌≡◌, ◌⊎◌, inl, inr, ◌<◌, ◌^◌, not, ℕ, Bool, true, false, List, [], ◌∷◌, ◌++◌, Option, None, Some, refl, sym, ap, subst, ◌∙◌}
use Rattle.std.specs.Prelude.{◌==◌, ◌&&◌, is_some}
use Rattle.std.specs.List.{Contains, list_any}
use Rattle.std.specs.Option.{option_and_then}
use Rattle.std.proofs.lemmas.List.Elements.{Contains-append_left, Contains-append_right, Contains-append_cases}
use Rattle.ls_board.specs.declared.action.Action.TheVariants.{Sync}
use Rattle.ls_board.specs.declared.world.World.{World}
use Rattle.ls_board.specs.Effect.{file_at, touch_at}
use Rattle.ls_board.specs.Gatekeeper.{signed, no_fails, salt_of, sid_of, version_of}
use Rattle.ls_board.specs.Runs.{after_all}
use Rattle.ls_board.proofs.RunLemmas.{after_all-append}
use Rattle.ls_credential.specs.declared.kind.Kind.{Kind}
use Rattle.ls_credential.specs.declared.kind.Kind.TheVariants.{Empty, Pattern, Pin, Password}
use Rattle.ls_formats.specs.Contents.{AreBytes}
use Rattle.ls_formats.specs.declared.part.FilePart.{FilePart}
use Rattle.ls_formats.specs.declared.part.FilePart.TheVariants.{SpBlob, Pwd, Weaver, Handle, E0, P1, Resume}
use Rattle.ls_formats.specs.PartNames.{part_name_text}
use Rattle.ls_naming.specs.Membership.{same_part}
use Rattle.ls_naming.specs.Named.{only_if, has_credential, has_secure, is_armed, user_parts, credential_parts, parts_of, token_files, NamesSlot}
use Rattle.ls_record.specs.declared.row.UserRow.{UserRow}
use Rattle.ls_record.specs.Rows.{Rec, IsRecord}
use Rattle.ls_secret.specs.declared.personal.Personal.TheVariants.{SpGkAuthentication}
use Rattle.ls_secret.specs.Derivation.{subkey_of}
use Rattle.ls_secret.specs.Subkeys.{subkey_bytes}
use Rattle.ls_secret.specs.Secrets.{SecretValue, IsSecret}
use Rattle.ls_sealing.specs.Building.{Writing, FitsSlots, held_of, slot_file}
use Rattle.ls_sealing.specs.Draws.{credential_draw, credential_draw_size}
use Rattle.ls_sealing.specs.HeldBytes.{AllHoldBytes}
use Rattle.ls_sealing.specs.Protectors.{credential, token, Protector, Held, has_weaver, has_part, held, held_number, failures, record_failures, slot_number, where_it_has}
use Rattle.ls_sealing.specs.Seals.{Seals, ShowsMetrics}
use Rattle.ls_sealing.proofs.ByteLemmas.{signed_are, signed_sid}
use Rattle.ls_sealing.proofs.CredentialLemmas.{is_draw, seals, shows_metrics}
use Rattle.ls_sealing.proofs.WritingLemmas.{number_again_slot}
use Rattle.ls_sealing.proofs.WrittenBytesLemmas.{credential_bytes}
use Rattle.ls_standing.specs.Named.{credential_of, held_of_row, RowHeld}
use Rattle.ls_standing.specs.Same.{SameNamed}
use Rattle.ls_standing.specs.Quiet.{IsUnnamedProtector}
use Rattle.ls_standing.specs.Sound.{IsSoundFile}
use Rattle.ls_standing.specs.Standing.{Holds, HoldsUser, NamedAreUntouched}
use Rattle.ls_standing.proofs.CheckLemmas.{alone}
use Rattle.ls_standing.proofs.ContainsLemmas.{in_map, at_first}
use Rattle.ls_standing.proofs.FrameLemmas.{holds_same, row_same}
use Rattle.ls_standing.proofs.NamedLemmas.{name_of}
use Rattle.ls_standing.proofs.ProtectorLemmas.{any_part}
use Rattle.ls_standing.proofs.SameLemmas.{slots_back}
use Rattle.ls_standing.proofs.SoundLemmas.{own_sound, version_is, credential_sound}
use Rattle.ls_standing.proofs.UnnamedLemmas.{of_only_if}
use Rattle.ls_vault.specs.declared.user.User.{User}
use Rattle.ls_vault.specs.declared.vault.Vault.{Vault}
use Rattle.ls_vault.specs.Users.{changed, user_of}
use Rattle.ls_edits.specs.SoundRows.{IsSoundRow, IsTokenOf}
use Rattle.ls_edits.proofs.AlikeLemmas.{alike_sound}
use Rattle.ls_edits.proofs.PutLemmas.{replaced}
use Rattle.ls_edits.proofs.SoundRowLemmas.{with_credential as sound_credential}
use Rattle.ls_changing.specs.Replacing.{Chosen, IsChosen, row_then, with_its_credential, comes, enrolling}
use Rattle.ls_changing.proofs.HeldLemmas.{HasHandle, held_then}
use Rattle.ls_changing.proofs.RowLemmas.{may, next}
use Rattle.ls_changing.proofs.StagedLemmas.{m, first, last, same_named, its_held, new_handle, not_true}

-- ---- the slot and the failures of what is written

weaver_part : (weaver : Bool) (kind : Kind) → has_part weaver (credential kind) Weaver ≡ weaver
weaver_part true Empty = refl
weaver_part true Pattern = refl
weaver_part true Pin = refl
weaver_part true Password = refl
weaver_part false Empty = refl
weaver_part false Pattern = refl
weaver_part false Pin = refl
weaver_part false Password = refl

numbered : (slot : Option ℕ) (kind : Kind) → ((k : ℕ) → slot ≡ Some k → k < 2 ^ 32)
    → option_and_then slot_number (where_it_has (has_part (is_some slot) (credential kind) Weaver) (Some (slot_file slot))) ≡ slot
numbered slot kind small = ap (λ (b : Bool). option_and_then slot_number (where_it_has b (Some (slot_file slot)))) (weaver_part (is_some slot) kind) ∙ by slot small
  where
    by : (o : Option ℕ) → ((k : ℕ) → o ≡ Some k → k < 2 ^ 32) → option_and_then slot_number (where_it_has (is_some o) (Some (slot_file o))) ≡ o
    by None s = refl
    by (Some k) s = number_again_slot k (s k refl)

no_failures : (kind : Kind) (slot : Option ℕ) (m : Writing) (device : List ℕ) → failures (held_of (credential kind) slot m device) ≡ no_fails
no_failures kind None m device = by (has_credential kind)
  where
    by : (b : Bool) → record_failures (where_it_has b (Some no_fails)) ≡ no_fails
    by true = refl
    by false = refl
no_failures kind (Some n) m device = refl

-- ---- the files of a user itself

abbrev beside_handle : Bool → Bool → List FilePart
beside_handle e a = only_if e (E0 ∷ P1 ∷ []) ++ only_if a (Resume ∷ [])

no_handle : (e a : Bool) → list_any (same_part Handle) (beside_handle e a) ≡ false
no_handle true true = refl
no_handle true false = refl
no_handle false true = refl
no_handle false false = refl

no_pwd : (e a : Bool) → list_any (same_part Pwd) (beside_handle e a) ≡ false
no_pwd true true = refl
no_pwd true false = refl
no_pwd false true = refl
no_pwd false false = refl

no_blob : (e a : Bool) → list_any (same_part SpBlob) (beside_handle e a) ≡ false
no_blob true true = refl
no_blob true false = refl
no_blob false true = refl
no_blob false false = refl

not_among : (parts : List FilePart) (part other : FilePart) → Contains parts part → list_any (same_part other) parts ≡ false → part ≡ other → ⊥
not_among parts part other has none e =
    let bad : true ≡ false = sym (any_part parts other (subst (λ (x : FilePart). Contains parts x) e has)) ∙ none in absurd (cc)

-- ---- the record is held

module _ (r : Rec) (is : IsRecord r) (n : Chosen) (fits : IsChosen r n) (w : World) (slot : FitsSlots n.slot w) (free : IsUnnamedProtector w r (credential_of (row_then n)) n.slot)
    (s : SecretValue) (bytes handle : List ℕ) where
  abbrev row : UserRow
  row = row_then n

  abbrev end : World
  end = last r is n fits w slot free s bytes handle

  same : SameNamed r w end
  same = same_named r is n fits w slot free s bytes handle

  abbrev its : Protector
  its = credential_of row

  abbrev wrote : Writing
  wrote = m r is n fits w slot free s bytes handle

  held_is : held end its ≡ held_of its.purpose n.slot wrote w.gk_key
  held_is = its_held r is n fits w slot free s bytes handle

  slot_small : (k : ℕ) → n.slot ≡ Some k → k < 2 ^ 32
  slot_small k e = (subst (λ (o : Option ℕ). FitsSlots o w) e slot).1

  -- it has its slot
  pub number_is : held_number end its ≡ n.slot
  number_is = ap (λ (h : Held). option_and_then slot_number (h.files Weaver)) held_is ∙ numbered n.slot n.credential.kind slot_small

  pub end_untouched : (z : Rec) → NamedAreUntouched end z
  end_untouched z name named = ap (λ (v : World). touch_at v (part_name_text name)) (after_all-append w (first r is n fits w slot free s bytes handle) (enrolling n.row n.secure handle ++ Sync ∷ []) ∙ after_all-append (after_all w (first r is n fits w slot free s bytes handle)) (enrolling n.row n.secure handle) (Sync ∷ []))

  module _ (are : AreBytes (credential_draw_size (is_some n.slot) n.credential.kind) bytes) (salt : ℕ) (small : salt < 2 ^ 64)
      (signs : comes n.row.secure n.secure ≡ true → handle ≡ signed w.gk_key n.secure salt (subkey_bytes (subkey_of s SpGkAuthentication)))
      (v : Vault) (holds : Holds w r v) (u : User) (held_was : HoldsUser n.row (held_of_row w r.armed n.row) u) (secret : u.secret ≡ s) where
    held_now : HoldsUser n.row (held_of_row end r.armed n.row) u
    held_now = subst (λ (h : RowHeld). HoldsUser n.row h u) (sym (row_same r w end same n.row fits.here)) held_was

    is_secret : IsSecret s
    is_secret = subst IsSecret secret held_was.seals.secret

    its_seals : Seals n.id (held end its) n.credential s
    its_seals = subst (λ (h : Held). Seals n.id h n.credential s) (sym held_is)
        (seals n.id n.credential s (credential_draw n.credential.kind bytes) w.gk_key is_secret n.slot (is_draw n.slot n.credential.kind bytes are))

    its_metrics : ShowsMetrics (held end its) n.credential s
    its_metrics = subst (λ (h : Held). ShowsMetrics h n.credential s) (sym held_is)
        (shows_metrics n.id n.credential s (credential_draw n.credential.kind bytes) w.gk_key is_secret n.slot (is_draw n.slot n.credential.kind bytes are))

    its_bytes : AllHoldBytes (held end its)
    its_bytes = subst AllHoldBytes (sym held_is) (credential_bytes n.id n.slot n.credential s bytes w.gk_key is_secret fits.small are.each)

    holds_end : Holds end r v
    holds_end = holds_same r w end same v holds

    handle_there : comes n.row.secure n.secure ≡ true → HasHandle end n.row.user n.secure s
    handle_there new = new_handle r is n fits w slot free s bytes handle new salt small (signs new)

    fresh : (k : ℕ) → held_number end its ≡ Some k → ¬ (NamesSlot (has_weaver end) r (file_at end) k)
    fresh k number named = free.its_slot k (sym number_is ∙ number) (slots_back r w end same k named)

    old_file : (part : FilePart) → Contains (user_parts r.armed n.row) part → IsSoundFile end n.row (name_of n.row.user 0 part)
    old_file part own =
        alone end r holds_end.files n.row (name_of n.row.user 0 part) fits.here
        (Contains-append_left (parts_of n.row.user 0 (user_parts r.armed n.row)) (parts_of n.row.user n.row.protector (credential_parts (has_weaver end) n.row.kind) ++ token_files (has_weaver end) n.row)
        (name_of n.row.user 0 part) (in_map (name_of n.row.user 0) (user_parts r.armed n.row) part own))

    abbrev rest : List FilePart
    rest = beside_handle n.row.escrow (is_armed r.armed n.row.user)

    own_files : (part : FilePart) → Contains (user_parts r.armed row) part → IsSoundFile end row (name_of n.row.user 0 part)
    own_files part own = by (Contains-append_cases (only_if (has_secure row) (Handle ∷ [])) rest part own)
      where
        kept_handle : n.secure ≡ n.row.secure → has_secure n.row ≡ true → IsSoundFile end row (name_of n.row.user 0 Handle)
        kept_handle stays has = alike_sound end n.row row (name_of n.row.user 0 Handle) (record {
          kind = λ e. absurd (cc);
          secure = λ e. stays;
          purpose = λ e. absurd (cc);
          version = λ e. absurd (cc);
        }) (old_file Handle (Contains-append_left (only_if (has_secure n.row) (Handle ∷ [])) rest Handle (subst (λ (b : Bool). Contains (only_if b (Handle ∷ [])) Handle) (sym has) (at_first Handle []))))

        new_file : comes n.row.secure n.secure ≡ true → IsSoundFile end row (name_of n.row.user 0 Handle)
        new_file new =
            let h = handle_there new in
            let is_signed = signs new in
            own_sound end row Handle h.handle h.file (
              subst (AreBytes 49) (sym h.is) (signed_are end.gk_key n.secure (salt_of h.handle) (subkey_bytes (subkey_of s SpGkAuthentication))),
              ap version_of h.is,
              ap sid_of h.is ∙ signed_sid end.gk_key n.secure (salt_of h.handle) (subkey_bytes (subkey_of s SpGkAuthentication)) fits.secure,
            )

        its_handle : has_secure row ≡ true → (b : Bool) → (n.row.secure == 0) ≡ b → IsSoundFile end row (name_of n.row.user 0 Handle)
        its_handle has true none = new_file ((λ i. none i && has i))
        its_handle has false had = kept_handle (fits.same had (not_true (n.secure == 0) has)) (ap not had)

        by : Contains (only_if (has_secure row) (Handle ∷ [])) part ⊎ Contains rest part → IsSoundFile end row (name_of n.row.user 0 part)
        by (inl k) =
            let one = of_only_if (has_secure row) Handle part k in
            subst (λ (x : FilePart). IsSoundFile end row (name_of n.row.user 0 x)) one.1 (its_handle one.0 (n.row.secure == 0) refl)
        by (inr k) = alike_sound end n.row row (name_of n.row.user 0 part) (record {
          kind = λ e. absurd (not_among rest part Pwd k (no_pwd n.row.escrow (is_armed r.armed n.row.user)) e);
          secure = λ e. absurd (not_among rest part Handle k (no_handle n.row.escrow (is_armed r.armed n.row.user)) e);
          purpose = λ e. absurd (not_among rest part SpBlob k (no_blob n.row.escrow (is_armed r.armed n.row.user)) e);
          version = λ e. absurd (not_among rest part SpBlob k (no_blob n.row.escrow (is_armed r.armed n.row.user)) e);
        }) (old_file part (Contains-append_right (only_if (has_secure n.row) (Handle ∷ [])) rest part k))

    its_tokens : (id : ℕ) → Contains row.tokens id → IsTokenOf end r row id
    its_tokens id has = record {
      old = n.row;
      there = fits.here;
      user = refl;
      token = has;
      version = version_is end row n.credential s its_seals ∙ (ap (λ (x : SecretValue). x.version) (sym secret) ∙ sym (version_is end n.row u.credential u.secret held_now.seals));
    }

    sound : IsSoundRow end r row
    sound = sound_credential end r is holds_end.files row (may r is n fits) own_files
        (λ part has. credential_sound end row n.credential s its_seals its_metrics its_bytes refl fits.id part has) fresh its_tokens

    pub readied : ((x : User) → user_of v.users n.row.user ≡ Some x → x.secret ≡ s)
        → Holds end (next r is n fits) (record v { users = changed v.users n.row.user (with_its_credential n.credential n.secure) })
    readied secrets = replaced end r row v is holds_end sound n.row (with_its_credential n.credential n.secure) fits.here refl held_then_of
      where
        held_then_of : (x : User) → user_of v.users n.row.user ≡ Some x → HoldsUser n.row (held_of_row end r.armed n.row) x → HoldsUser row (held_of_row end r.armed row) (with_its_credential n.credential n.secure x)
        held_then_of x there h =
            let own = secrets x there in
            held_then end r.armed n x fits.same h (λ new. subst (HasHandle end n.row.user n.secure) (sym own) (handle_there new)) h.says.auto fits.rule
            (subst (λ (t : SecretValue). Seals n.id (held end its) n.credential t) (sym own) its_seals)
            (subst (λ (t : SecretValue). ShowsMetrics (held end its) n.credential t) (sym own) its_metrics)
            (ap failures held_is ∙ no_failures n.credential.kind n.slot wrote w.gk_key)
