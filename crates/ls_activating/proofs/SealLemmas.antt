-- The new protectors seal the half of the user's secret.
use Rattle.std.proofs.Common.{◌≡◌, ◌≢◌, ◌⊎◌, inl, inr, ⊎_elim, ◌≤◌, ◌<◌, ℕ, Bool, true, false, cond, List, [], ◌∷◌, ◌++◌, map, take, length, IsTrue, Option, None, Some, refl, sym, ◌∙◌, ap, subst, arith}
use Rattle.std.specs.Prelude.{◌==◌, is_some, IsSomeAnd, MatchBool, Result, Ok, Err, filter}
use Rattle.std.specs.Option.{option_and_then}
use Rattle.std.specs.List.{AllZip, Contains, list_any}
use Rattle.std.proofs.lemmas.List.Elements.{Contains-append_cases}
use Rattle.ls_board.specs.declared.world.World.{World}
use Rattle.ls_board.specs.Acts.{Sight}
use Rattle.ls_board.specs.Effect.{file_at}
use Rattle.ls_chain.specs.declared.fault.Spot.{Spot}
use Rattle.ls_chain.specs.Links.{next_of as behind, sound_file, unless_at}
use Rattle.ls_edits.specs.Rows.{HasSameCredential}
use Rattle.ls_edits.specs.SoundRows.{HasNewSlot, HaveOwnSlots, IsOldOrNewToken, IsSoundProtector, IsSoundRow, SealTheHalf}
use Rattle.ls_edits.proofs.KeepingLemmas.{more_held}
use Rattle.ls_edits.proofs.PutLemmas.{replaced}
use Rattle.ls_edits.proofs.SoundRowLemmas.{with_new_tokens}
use Rattle.ls_formats.specs.Contents.{AreBytes}
use Rattle.ls_formats.specs.declared.part.FilePart.{FilePart}
use Rattle.ls_formats.specs.declared.part.FilePart.TheVariants.{E0, P1, Handle, Resume}
use Rattle.ls_naming.specs.Membership.{same_part}
use Rattle.ls_naming.specs.Named.{NamesSlot, has_secure, is_armed, only_if}
use Rattle.ls_record.specs.declared.row.UserRow.{UserRow}
use Rattle.ls_record.specs.Rows.{Rec}
use Rattle.ls_sealing.specs.Building.{for_token, held_of, token_writing}
use Rattle.ls_sealing.specs.Draws.{token_draw, token_draw_size}
use Rattle.ls_sealing.specs.HeldBytes.{AllHoldBytes}
use Rattle.ls_sealing.specs.Protectors.{Held, Protector, has_part, has_weaver, held, held_number, token, where_it_has}
use Rattle.ls_sealing.specs.Seals.{CompletesTo, SealsToken}
use Rattle.ls_sealing.specs.PartFormats.{format_fault}
use Rattle.ls_sealing.proofs.TokenLemmas.{is_token_draw, seals_token}
use Rattle.ls_sealing.proofs.WrittenBytesLemmas.{token_bytes}
use Rattle.ls_secret.specs.Escrow.{opened_e0}
use Rattle.ls_secret.specs.Secrets.{IsSecret, SecretValue}
use Rattle.ls_settings.specs.Loaded.{settings_reach}
use Rattle.ls_board.specs.Reach.{AllTouchOnly}
use Rattle.ls_standing.specs.Named.{RowHeld, UserHeld, credential_of, held_of_row, held_of_user, token_of, user_file}
use Rattle.ls_standing.specs.NamedProtectors.{NamesProtector, row_protectors}
use Rattle.ls_standing.specs.Opening.{version_in}
use Rattle.ls_standing.specs.Quiet.{IsUnnamedProtector}
use Rattle.ls_standing.specs.Sound.{IsSoundFile}
use Rattle.ls_standing.specs.Standing.{Holds, HoldsEscrow, HoldsUser}
use Rattle.ls_standing.proofs.ContainsLemmas.{at_first, behind_first, in_flat, in_map, of_map}
use Rattle.ls_standing.proofs.FrameLemmas.{holds_same, row_same}
use Rattle.ls_standing.proofs.PairLemmas.{pair_cases}
use Rattle.ls_standing.proofs.ProtectorLemmas.{named as slot_of}
use Rattle.ls_standing.proofs.SameLemmas.{slots_back}
use Rattle.ls_standing.proofs.SoundLemmas.{token_sound, version_is}
use Rattle.ls_turn.specs.declared.session.Opened.{Opened}
use Rattle.ls_turn.specs.declared.session.Pending.{Pending}
use Rattle.ls_turn.specs.declared.session.Session.{Session}
use Rattle.ls_turn.specs.Agreeing.{Agrees, pending_token}
use Rattle.ls_turn.specs.Serving.{CanServe}
use Rattle.ls_turn.proofs.RowLemmas.{row_found, user_there}
use Rattle.ls_users.proofs.FoundLemmas.{entry_found}
use Rattle.ls_vault.specs.declared.state.State.{State}
use Rattle.ls_vault.specs.declared.token.Token.{Token}
use Rattle.ls_vault.specs.declared.user.User.{User}
use Rattle.ls_vault.specs.declared.vault.Vault.{Vault}
use Rattle.ls_vault.specs.TokenChanges.{with_tokens}
use Rattle.ls_vault.specs.Tokens.{activated}
use Rattle.ls_vault.specs.Users.{changed, user_of}
use Rattle.ls_activating.specs.declared.planned.Planned.{Planned}
use Rattle.ls_activating.specs.Counting.{token_ids}
use Rattle.ls_activating.specs.Halves.{half_at, half_in, or_fault}
use Rattle.ls_activating.specs.Planning.{IsPlannedFor, Made}
use Rattle.ls_activating.proofs.MayLemmas.{has_escrow, may_put}
use Rattle.ls_activating.proofs.NextLemmas.{next, row_next}
use Rattle.ls_activating.proofs.PlaceLemmas.{HasOtherSlot, its, its_id, its_row, made, of_id, other_id, slots_once, tokens}
use Rattle.ls_activating.proofs.WorldLemmas.{end, held_new, number_end, same, writing}

-- ---- the half that is read

half_opens : (s : SecretValue) (p0 : List ℕ) (file : Option (List ℕ)) → behind (sound_file E0 file) (half_in s) ≡ Ok p0 → option_and_then (opened_e0 s) file ≡ Some p0
half_opens s p0 None is = absurd (cc)
half_opens s p0 (Some bytes) is = by (format_fault E0 bytes) is
  where
    found : (o : Option (List ℕ)) → or_fault o ≡ Ok p0 → o ≡ Some p0
    found None is = absurd (cc)
    found (Some q) is = cc

    by : (f : Option ℕ) → behind (unless_at E0 bytes f) (half_in s) ≡ Ok p0 → opened_e0 s bytes ≡ Some p0
    by None is = found (opened_e0 s bytes) is
    by (Some at) is = absurd (cc)

-- a user that may have tokens has the file
pub e0_there : (secure armed : Bool) → list_any (same_part E0) (only_if secure (Handle ∷ []) ++ (E0 ∷ P1 ∷ [] ++ only_if armed (Resume ∷ []))) ≡ true
e0_there true armed = refl
e0_there false armed = refl

-- ---- what becomes active

abbrev pub active : Pending → Token
active q = activated (pending_token q)

active_ids : (l : List Pending) → map (λ (t : Token). t.id) (map active l) ≡ token_ids l
active_ids [] = refl
active_ids (q ∷ l) = ap (λ (xs : List ℕ). q.id ∷ xs) (active_ids l)

module _ (b : Sight) (x : Session) (can : CanServe b x) (user : ℕ) (k : Planned) (p : IsPlannedFor b x user k)
    (told : IsTrue b.told) (lens : b.slots ≡ length b.world.slots) (few : b.slots ≤ 256)
    (free : (m : Made) → Contains (made b x can user k p) m → IsUnnamedProtector b.world x.settings.settled.rec (its b x can user k p m) m.slot)
    (st : State) (a : Agrees b.world x st) where
  abbrev w : World
  w = b.world

  abbrev r : Rec
  r = x.settings.settled.rec

  abbrev s : SecretValue
  s = p.entry.secret

  abbrev last : World
  last = end b x can user k p told lens few free

  abbrev mades : List Made
  mades = made b x can user k p

  abbrev longer : UserRow
  longer = row_next b x can user k p

  abbrev pub more : List Token
  more = map active (tokens b x can user k p)

  of_user : p.row.user ≡ user
  of_user = (row_found user r.users p.row p.found).1

  pub there : (u : User) × (user_of st.vault.users user ≡ Some u) × HoldsUser p.row (held_of_row w r.armed p.row) u
  there = user_there w x st a user p.row p.found

  -- the user's secret is the one that the session knows
  pub its_secret : (u : User) → user_of st.vault.users user ≡ Some u → u.secret ≡ s
  its_secret u at =
      let found = entry_found user x.opened.items p.entry p.opened in
      subst (λ (t : Option User). IsSomeAnd t (λ u. u.secret ≡ s)) (ap (user_of st.vault.users) found.1 ∙ at) (a.opened p.entry found.0)

  is_secret : IsSecret s
  is_secret = p.by.secret

  escrow_on : p.row.escrow ≡ true
  escrow_on = has_escrow b x can user p.rules p.row p.found p.some

  -- ---- in the world before

  e0_file : (held_of_user w r.armed p.row).files E0 ≡ user_file w p.row E0
  e0_file =
      ap (λ (e : Bool). where_it_has (list_any (same_part E0) (only_if (has_secure p.row) (Handle ∷ []) ++ (only_if e (E0 ∷ P1 ∷ []) ++ only_if (is_armed r.armed p.row.user) (Resume ∷ [])))) (user_file w p.row E0)) escrow_on
      ∙ ap (λ (c : Bool). where_it_has c (user_file w p.row E0)) (e0_there (has_secure p.row) (is_armed r.armed p.row.user))

  half_is : (q : List ℕ) → option_and_then (opened_e0 s) ((held_of_user w r.armed p.row).files E0) ≡ Some q → q ≡ p.by.p0
  half_is q opens =
      let one : Some q ≡ Some p.by.p0 = sym (ap (λ (o : Option (List ℕ)). option_and_then (opened_e0 s) o) (sym e0_file) ∙ opens) ∙ half_opens s p.by.p0 (user_file w p.row E0) (p.by.half told) in
      cc

  -- ---- in the world then

  row_end : held_of_row last r.armed p.row ≡ held_of_row w r.armed p.row
  row_end = row_same r w last (same b x can user k p told lens few free) p.row (its_row b x can user k p)

  abbrev p1 : Option (List ℕ)
  p1 = (held_of_user last r.armed p.row).files P1

  p1_is : p1 ≡ (held_of_user w r.armed p.row).files P1
  p1_is = ap (λ (h : RowHeld). h.user.files P1) row_end

  whole_of : (u : User) → u.secret ≡ s → (e : Bool) → e ≡ true → MatchBool e (HoldsEscrow (held_of_user w r.armed p.row) (held_of_row w r.armed p.row).tokens u) (u.tokens ≡ []) → IsSomeAnd p1 (CompletesTo s p.by.p0)
  whole_of u secret true on is =
      subst (λ (o : Option (List ℕ)). IsSomeAnd o (CompletesTo s p.by.p0)) (sym p1_is)
      (subst (λ (q : List ℕ). IsSomeAnd ((held_of_user w r.armed p.row).files P1) (CompletesTo s q)) (half_is is.p0 (subst (λ (t : SecretValue). option_and_then (opened_e0 t) ((held_of_user w r.armed p.row).files E0) ≡ Some is.p0) secret is.e0))
      (subst (λ (t : SecretValue). IsSomeAnd ((held_of_user w r.armed p.row).files P1) (CompletesTo t is.p0)) secret is.whole))
  whole_of u secret false on is = absurd (cc)

  whole : IsSomeAnd p1 (CompletesTo s p.by.p0)
  whole = whole_of there.0 (its_secret there.0 there.1) there.0.escrow (sym there.2.says.escrow ∙ escrow_on) there.2.escrow

  seals : (m : Made) → Contains mades m → SealsToken (held last (its b x can user k p m)) p1 m.token.token s p.by.p0
  seals m within =
      subst (λ (h : Held). SealsToken h p1 m.token.token s p.by.p0) (sym (held_new b x can user k p told lens few free m within))
      (seals_token m.token.token s p.by.p0 p1 (token_draw m.bytes) w.gk_key is_secret p.by.bytes.long whole m.slot (is_token_draw m.slot m.bytes (p.by.plan.drafts.bytes m within)))

  holds_bytes : (m : Made) → Contains mades m → AllHoldBytes (held last (its b x can user k p m))
  holds_bytes m within =
      subst AllHoldBytes (sym (held_new b x can user k p told lens few free m within))
      (token_bytes m.token.id m.slot m.token.token s.version p.by.p0 m.bytes w.gk_key is_secret.version p.by.bytes.each (p.by.plan.drafts.bytes m within).each)

  -- ---- the row

  holds_end : Holds last r st.vault
  holds_end = holds_same r w last (same b x can user k p told lens few free) st.vault a.stands.stands.holds

  held_end : (u : User) → HoldsUser p.row (held_of_row w r.armed p.row) u → HoldsUser p.row (held_of_row last r.armed p.row) u
  held_end u is = subst (λ (h : RowHeld). HoldsUser p.row h u) (sym row_end) is

  version_end : version_in last longer ≡ s.version
  version_end = version_is last p.row there.0.credential there.0.secret (held_end there.0 there.2).seals ∙ ap (λ (t : SecretValue). t.version) (its_secret there.0 there.1)

  new_slot : (m : Made) → Contains mades m → HasNewSlot last r (its b x can user k p m)
  new_slot m within n number named = (free m within).its_slot n (sym (number_end b x can user k p told lens few free m within) ∙ number) (slots_back r w last (same b x can user k p told lens few free) n named)

  new_sound : (m : Made) → Contains mades m → IsSoundProtector last longer (its b x can user k p m)
  new_sound m within part has =
      token_sound last longer m.token.id p1 m.token.token s p.by.p0 (seals m within) (holds_bytes m within)
      (λ e. other_id b x can user k p m within (credential_of p.row) (in_flat row_protectors r.users p.row (credential_of p.row) (its_row b x can user k p) (at_first (credential_of p.row) (map (token_of p.row) p.row.tokens))) (sym e))
      version_end part has

  old_or_new : (id : ℕ) → Contains longer.tokens id → IsOldOrNewToken last r p.row longer id
  old_or_new id has = ⊎_elim (λ old. inl old)
      (λ new. let m = of_id b x can user k p id new in
      inr (subst (λ (n : ℕ). IsSoundProtector last longer (token_of longer n) × HasNewSlot last r (token_of longer n)) m.2 (new_sound m.0 m.1, new_slot m.0 m.1)))
      (Contains-append_cases p.row.tokens (token_ids (tokens b x can user k p)) id has)

  -- a token that the user has already has a slot that is named
  slot_named : (id n : ℕ) → Contains p.row.tokens id → held_number last (token_of longer id) ≡ Some n → NamesSlot (has_weaver last) r (file_at last) n
  slot_named id n old number =
      slot_of last r (token_of p.row id) n (in_flat row_protectors r.users p.row (token_of p.row id) (its_row b x can user k p) (behind_first (credential_of p.row) (map (token_of p.row) p.row.tokens) (token_of p.row id) (in_map (token_of p.row) p.row.tokens id old))) number

  own_slots : HaveOwnSlots last r longer
  own_slots one other n here_one here_other number_one number_other unnamed = ⊎_elim
      (λ old. absurd (unnamed (slot_named one n old number_one)))
      (λ new_one. ⊎_elim (λ old. absurd (unnamed (slot_named other n old number_other))) (both new_one) (Contains-append_cases p.row.tokens (token_ids (tokens b x can user k p)) other here_other))
      (Contains-append_cases p.row.tokens (token_ids (tokens b x can user k p)) one here_one)
    where
      number_of : (id : ℕ) (m : Made) → Contains mades m → m.token.id ≡ id → held_number last (token_of longer id) ≡ Some n → m.slot ≡ Some n
      number_of id m within is number = sym (number_end b x can user k p told lens few free m within) ∙ (ap (λ (z : ℕ). held_number last (token_of longer z)) is ∙ number)

      both : Contains (token_ids (tokens b x can user k p)) one → Contains (token_ids (tokens b x can user k p)) other → one ≡ other
      both new_one new_other =
          let m = of_id b x can user k p one new_one in
          let o = of_id b x can user k p other new_other in
          let slot_m = number_of one m.0 m.1 m.2 number_one in
          let slot_o = number_of other o.0 o.1 o.2 number_other in
          ⊎_elim (λ (e : m.0 ≡ o.0). sym m.2 ∙ (ap (λ (z : Made). z.token.id) e ∙ o.2))
          (λ apart. absurd (⊎_elim (λ (f : HasOtherSlot m.0 o.0). f n slot_m slot_o) (λ (f : HasOtherSlot o.0 m.0). f n slot_o slot_m) apart))
          (pair_cases HasOtherSlot mades (slots_once b x can user k p) m.0 o.0 m.1 o.1)

  sound : IsSoundRow last r longer
  sound = with_new_tokens last r p.row longer holds_end.files (its_row b x can user k p) (record { user = refl; kind = refl; protector = refl; secure = refl; escrow = refl })
      (may_put b x can user p.rules p.row p.found p.some) old_or_new own_slots

  -- ---- the vault

  zip_made : (l : List Made) → ((m : Made) → Contains l m → Contains mades m)
      → AllZip (λ its_held t. SealsToken its_held p1 t.bytes s p.by.p0) (map (λ (t : Token). held last (token_of p.row t.id)) (map active (map (λ (m : Made). m.token) l))) (map active (map (λ (m : Made). m.token) l))
  zip_made [] within = tt
  zip_made (m ∷ l) within = (seals m (within m (at_first m l)), zip_made l (λ o h. within o (behind_first m l o h)))

  seal_half : (u : User) → u.secret ≡ s → SealTheHalf last r.armed p.row u more
  seal_half u secret q opens =
      let opens_w = subst (λ (h : RowHeld). option_and_then (opened_e0 s) (h.user.files E0) ≡ Some q) row_end (subst (λ (t : SecretValue). option_and_then (opened_e0 t) ((held_of_user last r.armed p.row).files E0) ≡ Some q) secret opens) in
      subst (λ (z : List ℕ). AllZip (λ its_held t. SealsToken its_held p1 t.bytes u.secret z) (map (λ (t : Token). held last (token_of p.row t.id)) more) more) (sym (half_is q opens_w))
      (subst (λ (t : SecretValue). AllZip (λ its_held t'. SealsToken its_held p1 t'.bytes t p.by.p0) (map (λ (t : Token). held last (token_of p.row t.id)) more) more) (sym secret)
      (subst (λ (l : List Pending). AllZip (λ its_held t. SealsToken its_held p1 t.bytes s p.by.p0) (map (λ (t : Token). held last (token_of p.row t.id)) (map active l)) (map active l)) p.by.plan.drafts.tokens_are
      (zip_made mades (λ m h. h))))

  abbrev pub vault : Vault
  vault = record st.vault { users = changed st.vault.users user (with_tokens more) }

  held_then : (u : User) → user_of st.vault.users longer.user ≡ Some u → HoldsUser p.row (held_of_row last r.armed p.row) u → HoldsUser longer (held_of_row last r.armed longer) (with_tokens more u)
  held_then u at is =
      let secret = its_secret u (ap (user_of st.vault.users) (sym of_user) ∙ at) in
      subst (λ (ids : List ℕ). HoldsUser (record p.row { tokens = p.row.tokens ++ ids }) (held_of_row last r.armed (record p.row { tokens = p.row.tokens ++ ids })) (with_tokens more u)) (active_ids (tokens b x can user k p))
      (more_held last r.armed p.row u more (seal_half u secret) (sym is.says.escrow ∙ escrow_on) is)

  pub holds_then : Holds last (next b x can user k p) vault
  holds_then =
      subst (λ (n : ℕ). Holds last (next b x can user k p) (record st.vault { users = changed st.vault.users n (with_tokens more) })) of_user
      (replaced last r longer st.vault p.rules holds_end sound p.row (with_tokens more) (its_row b x can user k p) refl held_then)
