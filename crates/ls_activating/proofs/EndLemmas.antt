-- How an activation ends that finds the `e0` file at fault, or stops.
use Rattle.std.proofs.Common.{◌≡◌, ◌≢◌, ◌≤◌, ℕ, Bool, true, false, List, [], ◌∷◌, ◌++◌, map, IsTrue, Option, None, Some, refl, sym, ◌∙◌, ap, subst, arith}
use Rattle.std.specs.Prelude.{MatchBool, Result, Ok, Err, unwrap_or}
use Rattle.std.specs.Option.{option_and_then}
use Rattle.std.specs.List.{Contains, list_any}
use Rattle.std.specs.Prelude.{IsSomeAnd}
use Rattle.ls_naming.specs.Membership.{same_part}
use Rattle.ls_sealing.specs.Protectors.{where_it_has}
use Rattle.ls_turn.proofs.RowLemmas.{row_found, user_there}
use Rattle.ls_users.proofs.FoundLemmas.{entry_found}
use Rattle.ls_vault.specs.declared.user.User.{User}
use Rattle.ls_vault.specs.Users.{user_of}
use Rattle.ls_activating.specs.Counting.{count_for}
use Rattle.ls_activating.proofs.MayLemmas.{has_escrow}
use Rattle.ls_activating.proofs.RefusalLemmas.{row_some}
use Rattle.ls_activating.proofs.SealLemmas.{e0_there}
use Rattle.std.proofs.lemmas.List.Elements.{Contains-append_left, Contains-append_right}
use Rattle.ls_board.specs.declared.action.BoardFault.TheVariants as board
use Rattle.ls_board.specs.declared.world.World.{World}
use Rattle.ls_board.specs.Acts.{Sight}
use Rattle.ls_board.specs.Effect.{file_at}
use Rattle.ls_chain.specs.declared.fault.Spot.{Spot}
use Rattle.ls_chain.specs.Links.{next_of as behind, sound_file, unless_at}
use Rattle.ls_drawing.specs.Passing.{GoesOn, StopsBy}
use Rattle.ls_drawing.proofs.PassingLemmas.{passes_lacking, stops_then}
use Rattle.ls_formats.specs.declared.part.FilePart.TheVariants.{E0, P1, Handle, Resume}
use Rattle.ls_naming.specs.Named.{credential_parts, has_secure, is_armed, only_if, parts_of, token_files, user_parts}
use Rattle.ls_record.specs.declared.row.UserRow.{UserRow}
use Rattle.ls_record.specs.Rows.{IsRecord}
use Rattle.ls_script.specs.declared.command.Command.TheVariants as command
use Rattle.ls_script.specs.declared.reply.Refusal.{Refusal}
use Rattle.ls_script.specs.declared.reply.Reply.TheVariants.{No}
use Rattle.ls_sealing.specs.PartFormats.{format_fault}
use Rattle.ls_sealing.specs.Protectors.{has_weaver}
use Rattle.ls_secret.specs.Escrow.{opened_e0}
use Rattle.ls_secret.specs.Secrets.{SecretValue}
use Rattle.ls_standing.specs.Named.{held_of_row, held_of_user, user_file}
use Rattle.ls_standing.specs.Opening.{content_at, first_of}
use Rattle.ls_standing.specs.Standing.{HoldsEscrow, HoldsUser}
use Rattle.ls_standing.proofs.CheckLemmas.{alone}
use Rattle.ls_standing.proofs.ContainsLemmas.{at_first, in_map}
use Rattle.ls_standing.proofs.NamedLemmas.{name_of}
use Rattle.ls_turn.specs.declared.session.Opened.{Opened}
use Rattle.ls_turn.specs.declared.session.Session.{Session}
use Rattle.ls_turn.specs.Agreeing.{Agrees}
use Rattle.ls_turn.specs.Refusing.{own_refusal, row_of}
use Rattle.ls_turn.specs.Serving.{Always, CanServe, Serves, Turned, stage_in}
use Rattle.ls_turn.proofs.StillLemmas.{has_kept_all, still}
use Rattle.ls_vault.specs.declared.state.State.{State}
use Rattle.ls_vault.specs.Script.{Stage}
use Rattle.ls_activating.specs.declared.planned.Planned.{Planned}
use Rattle.ls_activating.specs.Halves.{half_at, half_in, or_fault}
use Rattle.ls_activating.specs.Planning.{IsEntry}

-- ---- the file isn't at fault where the session agrees

first_none : (o q : Option ℕ) → first_of o q ≡ None → o ≡ None
first_none None q is = refl
first_none (Some m) None is = absurd (cc)
first_none (Some m) (Some n) is = absurd (cc)

opens_half : (s : SecretValue) (file : Option (List ℕ)) (q : List ℕ) → option_and_then (opened_e0 s) file ≡ Some q → format_fault E0 (unwrap_or file []) ≡ None → behind (sound_file E0 file) (half_in s) ≡ Ok q
opens_half s None q opens sound = absurd (cc)
opens_half s (Some bytes) q opens sound =
    ap (λ (f : Option ℕ). behind (unless_at E0 bytes f) (half_in s)) sound ∙ ap (λ (o : Option (List ℕ)). or_fault o) opens

module _ (b : Sight) (x : Session) (can : CanServe b x) (user : ℕ) (some : count_for x user ≢ 0) (entry : Opened) (opened : IsEntry x user entry) where
  abbrev w : World
  w = b.world

  abbrev s : SecretValue
  s = entry.secret

  module _ (st : State) (a : Agrees b.world x st) (row : UserRow) (found : row_of x.settings.settled.rec user ≡ Some row) where
    abbrev its : Contains x.settings.settled.rec.users row × (row.user ≡ user)
    its = row_found user x.settings.settled.rec.users row found

    there : (u : User) × (user_of st.vault.users user ≡ Some u) × HoldsUser row (held_of_row w x.settings.settled.rec.armed row) u
    there = user_there w x st a user row found

    secret_is : there.0.secret ≡ s
    secret_is =
        let known = entry_found user x.opened.items entry opened in
        subst (λ (t : Option User). IsSomeAnd t (λ u. u.secret ≡ s)) (ap (user_of st.vault.users) known.1 ∙ there.1) (a.opened entry known.0)

    escrow_on : row.escrow ≡ true
    escrow_on = has_escrow b x can user a.keeps row found some

    e0_file : (held_of_user w x.settings.settled.rec.armed row).files E0 ≡ user_file w row E0
    e0_file =
        ap (λ (e : Bool). where_it_has (list_any (same_part E0) (only_if (has_secure row) (Handle ∷ []) ++ (only_if e (E0 ∷ P1 ∷ []) ++ only_if (is_armed x.settings.settled.rec.armed row.user) (Resume ∷ [])))) (user_file w row E0)) escrow_on
        ∙ ap (λ (c : Bool). where_it_has c (user_file w row E0)) (e0_there (has_secure row) (is_armed x.settings.settled.rec.armed row.user))

    half_of : (u : User) → u.secret ≡ s → (e : Bool) → e ≡ true → MatchBool e (HoldsEscrow (held_of_user w x.settings.settled.rec.armed row) (held_of_row w x.settings.settled.rec.armed row).tokens u) (u.tokens ≡ [])
        → (q : List ℕ) × (option_and_then (opened_e0 s) (user_file w row E0) ≡ Some q)
    half_of u secret true on is = (
      is.p0,
      subst (λ (t : SecretValue). option_and_then (opened_e0 t) (user_file w row E0) ≡ Some is.p0) secret
          (ap (λ (o : Option (List ℕ)). option_and_then (opened_e0 u.secret) o) (sym e0_file) ∙ is.e0),
    )
    half_of u secret false on is = absurd (cc)

    e0_in : Contains (user_parts x.settings.settled.rec.armed row) E0
    e0_in = subst (λ (e : Bool). Contains (only_if (has_secure row) (Handle ∷ []) ++ (only_if e (E0 ∷ P1 ∷ []) ++ only_if (is_armed x.settings.settled.rec.armed row.user) (Resume ∷ []))) E0) (sym escrow_on)
        (Contains-append_right (only_if (has_secure row) (Handle ∷ [])) (E0 ∷ P1 ∷ only_if (is_armed x.settings.settled.rec.armed row.user) (Resume ∷ [])) E0 (at_first E0 (P1 ∷ only_if (is_armed x.settings.settled.rec.armed row.user) (Resume ∷ []))))

    sound_e0 : format_fault E0 (unwrap_or (user_file w row E0) []) ≡ None
    sound_e0 = first_none _ _ (alone w x.settings.settled.rec a.stands.stands.holds.files row (name_of row.user 0 E0) its.0
        (Contains-append_left (parts_of row.user 0 (user_parts x.settings.settled.rec.armed row)) (parts_of row.user row.protector (credential_parts (has_weaver w) row.kind) ++ token_files (has_weaver w) row) (name_of row.user 0 E0)
        (in_map (name_of row.user 0) (user_parts x.settings.settled.rec.armed row) E0 e0_in)))

    no_fault : (at : Spot) → half_at user s w ≡ Err at → ⊥
    no_fault at is =
        let half = half_of there.0 secret_is there.0.escrow (sym there.2.says.escrow ∙ escrow_on) there.2.escrow in
        let opens : half_at row.user s w ≡ Ok half.0 = opens_half s (user_file w row E0) half.0 half.1 sound_e0 in
        let both : ◌≡◌ {A = Result (List ℕ) Spot} (Ok half.0) (Err at) = sym opens ∙ (ap (λ (n : ℕ). half_at n s w) its.1 ∙ is) in
        cc

  -- it is at fault in no world in which the session agrees
  pub never_at_fault : own_refusal x (command.Activate user) ≡ None → (st : State) → Agrees b.world x st → (at : Spot) → half_at user s w ≡ Err at → ⊥
  never_at_fault goes st a at is = by (row_of x.settings.settled.rec user) refl
    where
      by : (o : Option UserRow) → row_of x.settings.settled.rec user ≡ o → ⊥
      by None none = row_some x user goes none
      by (Some row) found = no_fault st a row found at is

-- ---- the ends

module _ (old mid : Sight) (x : Session) (can : CanServe old x) (user : ℕ) (some : count_for x user ≢ 0) (entry : Opened) (opened : IsEntry x user entry) (goes : GoesOn old mid) (turn : Stage → Turned) where
  told_old : IsTrue mid.told → IsTrue old.told
  told_old told = subst (λ (c : Bool). IsTrue c) goes.told told

  -- the file is at fault
  pub corrupt_serves : own_refusal x (command.Activate user) ≡ None → (at : Spot) → (IsTrue old.told → half_at user entry.secret mid.world ≡ Err at) → (why : Refusal) → Serves old x turn Always (Ok (No why)) x mid
  corrupt_serves unrefused at found why =
      let can_mid = goes.can x can in
      goes.serves x x turn (Ok (No why)) mid
      (still mid x x (λ at. turn (stage_in old.world at.state)) Always (has_kept_all x) (No why) can_mid refl can_mid.waits (omega arith)
      (λ told st agrees. absurd (never_at_fault mid x can_mid user some entry opened unrefused st agrees at (found (told_old told)))))

  -- there is no memory to say so
  pub lacks_then : StopsBy old board.Memory mid
  lacks_then = stops_then old mid mid board.Memory goes (passes_lacking {T = Planned} mid).stops
