-- Each command and each restart keeps the limits of a state.
use Rattle.std.proofs.Common.{◌≡◌, ◌≤◌, ◌<◌, ◌+◌, ℕ, Bool, true, false, not, cond, List, [], ◌∷◌, Option, None, Some, length, refl, sym, ◌∙◌, ap, subst, arith}
use Rattle.std.proofs.lemmas.Bool.Decides.{nat_tests}
use Rattle.std.specs.Prelude.{◌-◌, ◌&&◌, ◌==◌, min, nat_lt, nat_le, is_some, bytes_eq}
use Rattle.ls_credential.specs.Rules.{KindAndText}
use Rattle.ls_promises.proofs.FreshLemmas.{fresh_free}
use Rattle.ls_promises.proofs.LimitLemmas.{waiting, each_with, each_with_all, without_contains, occurs_filter, length_filter}
use Rattle.ls_promises.proofs.Lookups.{eqb_is}
use Rattle.ls_promises.proofs.SoundParts.{taken as places, AreSound, few_ids, used_is, from_parts, to_parts, missing, are_users_kept, user_kept, secure_kept, sound_kept}
use Rattle.ls_promises.proofs.SoundSteps.{are_users_with, sound_with, without_other, sound_without, secure_given, sound_token_add, sound_activate, sound_fewer}
use Rattle.ls_promises.proofs.Steps.{cond_both, arming_both, with_auto, at_unless, at_user, at_committed_if}
use Rattle.ls_promises.specs.Soundness.{AreUsers, IsSound, armed_numbers}
use Rattle.ls_script.specs.declared.command.Command.{Command}
use Rattle.ls_script.specs.declared.command.Command.TheVariants as command
use Rattle.ls_script.specs.declared.reply.Refusal.{Refusal}
use Rattle.ls_script.specs.declared.reply.Reply.TheVariants.{Fine}
use Rattle.ls_vault.specs.Arming.{unarmed, prepared, armed, resumed, is_good, taken, all_opened}
use Rattle.ls_vault.specs.Credentials.{given}
use Rattle.ls_vault.specs.Effects.{effect, auto_set}
use Rattle.ls_vault.specs.Fresh.{fresh, drawn_number}
use Rattle.ls_vault.specs.Histories.{Event, command as served, restarted, happening, state_after}
use Rattle.ls_vault.specs.Limits.{is_worn, is_full, used, token_count, activated_count}
use Rattle.ls_vault.specs.Refusals.{refusal, of_user, differs, token_add_refusal}
use Rattle.ls_vault.specs.States.{with_users, with_arming, with_dead, with_session, with_pending, committed}
use Rattle.ls_vault.specs.Step.{unless, step, restart}
use Rattle.ls_vault.specs.TokenChanges.{with_tokens, first_activated, without_its, plain}
use Rattle.ls_vault.specs.Tokens.{pending_of_others, without_pending, is_active, token_ids}
use Rattle.ls_vault.specs.Unlocking.{opened, cleared, failed, attempted, token_attempted}
use Rattle.ls_vault.specs.UserChanges.{new_user}
use Rattle.ls_arming.specs.Disarming.{disarmed}
use Rattle.ls_vault.specs.Users.{user_of, is_user, changed, with_user, without_user}
use Rattle.ls_arming.specs.Numbers.{contains, with_number, without_number}
use Rattle.ls_vault.specs.declared.state.Outcome.{Outcome}
use Rattle.ls_vault.specs.declared.state.State.{State}
use Rattle.ls_vault.specs.declared.token.PendingToken.{PendingToken}
use Rattle.ls_vault.specs.declared.user.User.{User}
use Rattle.ls_arming.specs.declared.arming.Arming.{Arming}
use Rattle.ls_vault.specs.declared.vault.Books.{Books}

-- ---- what an accepted command tells

-- its user is there
pub of_accepted : (o : Option User) (cause : User → Option Refusal) → of_user o cause ≡ None → (v : User) × (o ≡ Some v) × (cause v ≡ None)
of_accepted None cause is = absurd (cc)
of_accepted (Some v) cause is = (v, refl, is)

-- the test didn't refuse
pub passed : (b : Bool) (why : Refusal) (r : Option Refusal) → cond b (Some why) r ≡ None → (b ≡ false) × (r ≡ None)
passed true why r is = absurd (cc)
passed false why r is = (refl, is)

right_false : (b c : Bool) → (b && c) ≡ false → b ≡ true → c ≡ false
right_false true c is there = is
right_false false c is there = absurd (cc)

none_are_users : (users : List User) → AreUsers users []
none_are_users users n is = absurd (cc)

module _ (slots : ℕ) where
  abbrev Sound : State → Type 0
  Sound s = IsSound slots s

  -- ---- parts of a state

  rebooked : (s : State) (books : Books) → Sound s → Sound (record s { books = books })
  rebooked s books a = from_parts slots (record s { books = books }) (to_parts slots s a) a.opened a.captured a.armed

  rearmed : (s : State) (o : Option Arming) → AreUsers s.vault.users (armed_numbers o) → Sound s → Sound (with_arming s o)
  rearmed s o armed a = from_parts slots (with_arming s o) (to_parts slots s a) a.opened a.captured armed

  reopened : (s : State) (opened captured : List ℕ) (prepared : Bool) → AreUsers s.vault.users opened → AreUsers s.vault.users captured → Sound s
      → Sound (with_session s (record s.session { opened = opened; captured = captured; prepared = prepared }))
  reopened s opened captured prepared o c a =
      from_parts slots (with_session s (record s.session { opened = opened; captured = captured; prepared = prepared })) (to_parts slots s a) o c a.armed

  reusers : (s : State) (users : List User) → AreSound slots users s.session.pending → ((ns : List ℕ) → AreUsers s.vault.users ns → AreUsers users ns) → Sound s → Sound (with_users s users)
  reusers s users b kept a = from_parts slots (with_users s users) b (kept s.session.opened a.opened) (kept s.session.captured a.captured) (kept (armed_numbers s.vault.arming) a.armed)

  retokened : (s : State) (users : List User) (pending : List PendingToken) → AreSound slots users pending → ((ns : List ℕ) → AreUsers s.vault.users ns → AreUsers users ns) → Sound s
      → Sound (with_pending (with_users s users) pending)
  retokened s users pending b kept a =
      from_parts slots (with_pending (with_users s users) pending) b (kept s.session.opened a.opened) (kept s.session.captured a.captured) (kept (armed_numbers s.vault.arming) a.armed)

  -- a user that is changed in what no limit is about
  kept_user : (s : State) (n : ℕ) (f : User → User) → ((u : User) → (f u).number ≡ u.number) → ((u : User) → (f u).tokens ≡ u.tokens) → ((u : User) → (f u).secure ≡ u.secure)
      → Sound s → Sound (with_users s (changed s.vault.users n f))
  kept_user s n f number tokens secure a =
      let b = to_parts slots s a in
      reusers s (changed s.vault.users n f)
      (sound_kept slots s.vault.users s.session.pending n f number tokens (secure_kept s.vault.users n f number secure b.secure) b)
      (are_users_kept s.vault.users n f number) a

  -- a user is opened
  sound_opened : (s : State) (user : ℕ) → is_user s.vault.users user ≡ true → Sound s → Sound (opened s user)
  sound_opened s user there a =
      reopened s (with_number s.session.opened user) (cond s.session.prepared (with_number s.session.captured user) s.session.captured) s.session.prepared
      (each_with (λ m. is_user s.vault.users m ≡ true) s.session.opened user a.opened there)
      (cond_both (λ (ns : List ℕ). AreUsers s.vault.users ns) s.session.prepared (with_number s.session.captured user) s.session.captured
      (each_with (λ m. is_user s.vault.users m ≡ true) s.session.captured user a.captured there) a.captured)
      a

  -- an arming is gone
  sound_taken : (s : State) (users : List ℕ) → Sound s → Sound (taken s users)
  sound_taken s users a =
      cond_both Sound (is_worn s) (with_arming (with_dead s users) None) (committed (with_arming s None))
      (rearmed (with_dead s users) None (none_are_users s.vault.users) (rebooked s _ a))
      (rebooked (with_arming s None) _ (rearmed s None (none_are_users s.vault.users) a))

  sound_unarmed : (o : Option Arming) (s : State) → Sound s → Sound (unarmed o s)
  sound_unarmed None s a =
      cond_both Sound (length s.books.dead == 0) s (cond (is_worn s) s (committed (with_dead s []))) a
      (cond_both Sound (is_worn s) s (committed (with_dead s [])) a (rebooked s _ a))
  sound_unarmed (Some arming) s a =
      cond_both Sound (is_worn s) (with_arming (with_dead s arming.users) None) (committed (with_arming (with_dead s []) None))
      (rearmed (with_dead s arming.users) None (none_are_users s.vault.users) (rebooked s _ a))
      (rebooked (with_arming (with_dead s []) None) _ (rearmed (with_dead s []) None (none_are_users s.vault.users) (rebooked s _ a)))

  sound_resumed : (o : Option Arming) (s : State) → s.vault.arming ≡ o → Sound s → Sound (resumed o s).state
  sound_resumed None s is a = a
  sound_resumed (Some arming) s is a =
      cond_both (λ (out : Outcome). Sound out.state) (is_good arming.boot s.session.boot) _ _
      (all (sound_taken s arming.users a)) (sound_taken s arming.users a)
    where
      users_same : (taken s arming.users).vault.users ≡ s.vault.users
      users_same = cond_both (λ (t : State). t.vault.users ≡ s.vault.users) (is_worn s) _ _ refl refl

      opened_same : (taken s arming.users).session.opened ≡ s.session.opened
      opened_same = cond_both (λ (t : State). t.session.opened ≡ s.session.opened) (is_worn s) _ _ refl refl

      armed_there : AreUsers s.vault.users arming.users
      armed_there = subst (λ (o : Option Arming). AreUsers s.vault.users (armed_numbers o)) is a.armed

      all : Sound (taken s arming.users) → Sound (all_opened (taken s arming.users) arming.users)
      all b =
          reopened (taken s arming.users) _ (taken s arming.users).session.captured (taken s arming.users).session.prepared
          (each_with_all (λ m. is_user (taken s arming.users).vault.users m ≡ true) arming.users (taken s arming.users).session.opened b.opened
          (subst (λ (us : List User). AreUsers us arming.users) (sym users_same) armed_there))
          b.captured b

  -- those that are left are users
  left_users : (users : List User) (user : ℕ) (ns : List ℕ) → AreUsers users ns → AreUsers (without_user users user) (without_number ns user)
  left_users users user ns all m is =
      let h = without_contains ns user m is in
      without_other users user m (λ same. h.1 (sym same)) ∙ all m h.0

  -- an arming without a user
  armed_without : (users : List User) (o : Option Arming) (user : ℕ) → AreUsers users (armed_numbers o) → AreUsers (without_user users user) (armed_numbers (disarmed o user))
  armed_without users None user all = none_are_users (without_user users user)
  armed_without users (Some arming) user all =
      arming_both (λ (o : Option Arming). AreUsers (without_user users user) (armed_numbers o)) arming.boot (without_number arming.users user)
      (none_are_users (without_user users user)) (left_users users user arming.users all)

  -- ---- each command that isn't refused

  module _ (s : State) (moment : ℕ) (drawn : List ℕ) (a : Sound s) where
    sound_add : (user : ℕ) (escrow : Bool) → refusal slots s (command.Add user escrow) moment ≡ None → Sound (effect slots s (command.Add user escrow) moment drawn).state
    sound_add user escrow accepted =
        let exists = passed (is_user s.vault.users user) _ _ accepted in
        let limit = passed (nat_le 16 (length s.vault.users)) _ _ exists.1 in
        let full = passed (is_full slots s) _ _ limit.1 in
        let few : length s.vault.users < 16 = let h = limit.0 in grind (arith, nat_tests, h) in
        rebooked (with_users s (with_user s.vault.users new)) _
        (reusers s (with_user s.vault.users new)
        (sound_with s.vault.users new slots s.session.pending (missing s.vault.users user exists.0) refl refl few (λ some. room full.0 some) (to_parts slots s a))
        (are_users_with s.vault.users new) a)
      where
        new : User
        new = new_user user escrow drawn

        room : is_full slots s ≡ false → 0 < slots → places s.vault.users < slots
        room none some =
            let is : nat_lt 0 slots ≡ true = grind (arith, nat_tests, some) in
            let h : nat_le slots (used s.vault.users) ≡ false = right_false (nat_lt 0 slots) (nat_le slots (used s.vault.users)) none is in
            let less : used s.vault.users < slots = grind (arith, nat_tests, h) in
            let same = used_is s.vault.users in
            omega (arith, less, same)

    sound_drop : (user : ℕ) → Sound (effect slots s (command.Drop user) moment drawn).state
    sound_drop user =
        from_parts slots (effect slots s (command.Drop user) moment drawn).state
        (sound_without s.vault.users user slots s.session.pending (to_parts slots s a))
        (left_users s.vault.users user s.session.opened a.opened)
        (left_users s.vault.users user s.session.captured a.captured)
        (armed_without s.vault.users s.vault.arming user a.armed)

    sound_attempt : (user : ℕ) (offered : KindAndText) → Sound (effect slots s (command.Attempt user offered) moment drawn).state
    sound_attempt user offered =
        at_user Sound (user_of s.vault.users user) s (attempted s user offered moment) a
        (λ u found. cond_both (λ (out : Outcome). Sound out.state) (bytes_eq offered.text u.credential.text) _ _
        (sound_opened (with_users s (changed s.vault.users user cleared)) user
        (user_kept s.vault.users user cleared (λ u. refl) user ∙ ap is_some found)
        (kept_user s user cleared (λ u. refl) (λ u. refl) (λ u. refl) a))
        (kept_user s user (failed moment) (λ u. refl) (λ u. refl) (λ u. refl) a))

    sound_change : (user : ℕ) (new : KindAndText) → refusal slots s (command.Change user new) moment ≡ None → Sound (effect slots s (command.Change user new) moment drawn).state
    sound_change user new accepted =
        let h = of_accepted (user_of s.vault.users user) _ accepted in
        let b = to_parts slots s a in
        rebooked (with_users s (changed s.vault.users user (given s.vault.users new drawn))) _
        (reusers s (changed s.vault.users user (given s.vault.users new drawn))
        (sound_kept slots s.vault.users s.session.pending user (given s.vault.users new drawn) (λ u. refl) (λ u. refl)
        (secure_given s.vault.users user new drawn h.0 h.1 b.few b.secure) b)
        (are_users_kept s.vault.users user (given s.vault.users new drawn) (λ u. refl)) a)

    sound_lock : (user : ℕ) → Sound (effect slots s (command.Lock user) moment drawn).state
    sound_lock user =
        reopened s (without_number s.session.opened user) s.session.captured s.session.prepared
        (λ m is. let h = without_contains s.session.opened user m is in a.opened m h.0) a.captured a

    sound_token_added : (user : ℕ) (bytes : List ℕ) → refusal slots s (command.TokenAdd user bytes) moment ≡ None → Sound (effect slots s (command.TokenAdd user bytes) moment drawn).state
    sound_token_added user bytes accepted =
        let h = of_accepted (user_of s.vault.users user) (token_add_refusal s user) accepted in
        let escrow = passed (not h.0.escrow) _ _ h.2 in
        let limit = passed (nat_le 8 (token_count s user)) _ _ escrow.1 in
        let few : token_count s user < 8 = let h = limit.0 in grind (arith, nat_tests, h) in
        let b = to_parts slots s a in
        from_parts slots (effect slots s (command.TokenAdd user bytes) moment drawn).state
        (sound_token_add slots s.vault.users s.session.pending (record { user = user; id = fresh (drawn_number drawn) (token_ids s); bytes = bytes }) b
        (ap is_some h.1) few (fresh_free (drawn_number drawn) (token_ids s) (few_ids slots s.vault.users s.session.pending b)))
        a.opened a.captured a.armed

    -- no more get active than find a place
    place : (user : ℕ) → 0 < slots → activated_count slots s user + places s.vault.users ≤ slots
    place user some = by_tests (is_worn s) (slots == 0) refl
      where
        fits : places s.vault.users ≤ slots
        fits = let b = to_parts slots s a in b.fit some

        by_tests : (b d : Bool) → (slots == 0) ≡ d
            → cond b 0 (cond d (waiting s.session.pending user) (min (waiting s.session.pending user) (slots - used s.vault.users))) + places s.vault.users ≤ slots
        by_tests true d is = omega (arith, fits)
        by_tests false true is = absurd (let e = eqb_is slots 0 is in omega (arith, e, some))
        by_tests false false is = let same = used_is s.vault.users in omega (arith, fits, same)

    sound_activated : (user : ℕ) → refusal slots s (command.Activate user) moment ≡ None → Sound (effect slots s (command.Activate user) moment drawn).state
    sound_activated user accepted =
        let h = of_accepted (user_of s.vault.users user) _ accepted in
        let k = activated_count slots s user in
        let b : Sound (first_activated k s user) =
        retokened s _ _ (sound_activate slots s.vault.users s.session.pending user k h.0 h.1 (to_parts slots s a) (λ some. place user some))
        (are_users_kept s.vault.users user (with_tokens _) (λ u. refl)) a in
        at_committed_if Sound (nat_lt 0 k) (first_activated k s user) b (rebooked (first_activated k s user) _ b)

    sound_token_dropped : (user id : ℕ) → Sound (effect slots s (command.TokenDrop user id) moment drawn).state
    sound_token_dropped user id =
        let b : Sound (with_pending (with_users s (changed s.vault.users user (without_its id))) (without_pending s.session.pending user id)) =
        retokened s _ _
        (sound_fewer slots s.vault.users s.session.pending user (without_its id) (λ p. not (p.user == user && p.id == id)) (λ u. refl) (λ u. refl)
        (λ u. length_filter (λ t. not (t.id == id)) u.tokens) (λ u i. occurs_filter i (λ t. not (t.id == id)) u.tokens) (to_parts slots s a))
        (are_users_kept s.vault.users user (without_its id) (λ u. refl)) a in
        at_committed_if Sound (is_active s user id) _ b (rebooked _ _ b)

    sound_escrow_off : (user : ℕ) → Sound (effect slots s (command.EscrowOff user) moment drawn).state
    sound_escrow_off user =
        rebooked (with_pending (with_users s (changed s.vault.users user plain)) (pending_of_others s.session.pending user)) _
        (retokened s _ _
        (sound_fewer slots s.vault.users s.session.pending user plain (λ p. not (p.user == user)) (λ u. refl) (λ u. refl)
        (λ u. omega arith) (λ u i. omega arith) (to_parts slots s a))
        (are_users_kept s.vault.users user plain (λ u. refl)) a)

    sound_prepare : Sound (prepared s)
    sound_prepare =
        let b = sound_unarmed s.vault.arming s a in
        reopened (unarmed s.vault.arming s) (unarmed s.vault.arming s).session.opened [] true b.opened (none_are_users (unarmed s.vault.arming s).vault.users) b

    sound_arm : Sound (armed s)
    sound_arm =
        reopened (committed (with_arming s (Some (record { boot = s.session.boot; users = s.session.captured })))) s.session.opened [] false a.opened (none_are_users s.vault.users)
        (rebooked (with_arming s (Some (record { boot = s.session.boot; users = s.session.captured }))) _
        (rearmed s (Some (record { boot = s.session.boot; users = s.session.captured })) a.captured a))

    sound_auto : (user : ℕ) (on : Bool) → Sound (effect slots s (command.AutoPin user on) moment drawn).state
    sound_auto user on =
        at_user Sound (user_of s.vault.users user) s (λ u. record { reply = _; state = auto_set s user on u }) a
        (λ u found.
        let b = kept_user s user (with_auto on) (λ u. refl) (λ u. refl) (λ u. refl) a in
        at_committed_if Sound (differs u.auto on) _ b (rebooked _ _ b))

    sound_effect : (c : Command) → refusal slots s c moment ≡ None → Sound (effect slots s c moment drawn).state
    sound_effect (command.Add user escrow) accepted = sound_add user escrow accepted
    sound_effect (command.Drop user) accepted = sound_drop user
    sound_effect (command.Attempt user offered) accepted = sound_attempt user offered
    sound_effect (command.Change user new) accepted = sound_change user new accepted
    sound_effect (command.Lock user) accepted = sound_lock user
    sound_effect (command.Status user) accepted = at_user Sound (user_of s.vault.users user) s _ a (λ u found. a)
    sound_effect command.Users accepted = a
    sound_effect (command.TokenAdd user bytes) accepted = sound_token_added user bytes accepted
    sound_effect (command.Activate user) accepted = sound_activated user accepted
    sound_effect (command.TokenDrop user id) accepted = sound_token_dropped user id
    sound_effect (command.TokenState user id) accepted = a
    sound_effect (command.TokenAttempt user id offered) accepted =
        at_user Sound (user_of s.vault.users user) s (token_attempted s user) a (λ u found. sound_opened s user (ap is_some found) a)
    sound_effect (command.EscrowOff user) accepted = sound_escrow_off user
    sound_effect command.Prepare accepted = sound_prepare
    sound_effect command.Arm accepted = sound_arm
    sound_effect command.Resume accepted = sound_resumed s.vault.arming s refl a
    sound_effect (command.AutoPin user on) accepted = sound_auto user on
    sound_effect (command.PinLength user) accepted = at_user Sound (user_of s.vault.users user) s _ a (λ u found. a)

  pub sound_step : (s : State) (c : Command) (moment : ℕ) (drawn : List ℕ) → Sound s → Sound (step slots s c moment drawn).state
  sound_step s c moment drawn a =
      at_unless Sound (refusal slots s c moment) s (effect slots s c moment drawn) a (λ accepted. sound_effect s moment drawn a c accepted)

  -- a new user is closed
  pub new_closed : (s : State) (user : ℕ) (escrow : Bool) (moment : ℕ) (drawn : List ℕ) → Sound s → (r : Option Refusal) → refusal slots s (command.Add user escrow) moment ≡ r
      → (unless r s (effect slots s (command.Add user escrow) moment drawn)).reply ≡ Fine
      → contains (unless r s (effect slots s (command.Add user escrow) moment drawn)).state.session.opened user ≡ false
  new_closed s user escrow moment drawn a None accepted fine = by_test (contains s.session.opened user) refl
    where
      by_test : (b : Bool) → contains s.session.opened user ≡ b → b ≡ false
      by_test false is = refl
      by_test true is =
          let there = a.opened user is in
          let exists = passed (is_user s.vault.users user) _ _ accepted in
          absurd (let none = exists.0 in cc)
  new_closed s user escrow moment drawn a (Some why) accepted fine = absurd (cc)

  -- ---- a restart, and the begin

  no_pending : (users : List User) (pending : List PendingToken) → AreSound slots users pending → AreSound slots users []
  no_pending users pending b = record {
    few = b.few;
    ascending = b.ascending;
    tokens = λ n. let h = b.tokens n in omega (arith, h);
    fit = b.fit;
    ids = λ id. let h = b.ids id in omega (arith, h);
    secure = b.secure;
    waiting = λ n none. refl;
  }

  pub sound_restart : (s : State) (boot : ℕ) (books : Books) → Sound s → Sound (restart s boot books)
  sound_restart s boot books a =
      from_parts slots (restart s boot books) (no_pending s.vault.users s.session.pending (to_parts slots s a)) (none_are_users s.vault.users) (none_are_users s.vault.users) a.armed

  no_users : AreSound slots [] []
  no_users = record {
    few = omega arith;
    ascending = tt;
    tokens = λ n. omega arith;
    fit = λ some. omega arith;
    ids = λ id. omega arith;
    secure = λ m n u v um vn same some. absurd (cc);
    waiting = λ n none. refl;
  }

  pub sound_empty : (s : State) → s.vault.users ≡ [] → s.vault.arming ≡ None → s.session.opened ≡ [] → s.session.captured ≡ [] → s.session.pending ≡ [] → Sound s
  sound_empty s users arming opened captured pending =
      from_parts slots s
      (subst (λ (us : List User). AreSound slots us s.session.pending) (sym users) (subst (λ (ps : List PendingToken). AreSound slots [] ps) (sym pending) no_users))
      (subst (λ (ns : List ℕ). AreUsers s.vault.users ns) (sym opened) (none_are_users s.vault.users))
      (subst (λ (ns : List ℕ). AreUsers s.vault.users ns) (sym captured) (none_are_users s.vault.users))
      (subst (λ (o : Option Arming). AreUsers s.vault.users (armed_numbers o)) (sym arming) (none_are_users s.vault.users))

  -- ---- a history

  sound_event : (s : State) (event : Event) → Sound s → Sound (happening slots s event).state
  sound_event s (served c moment drawn) a = sound_step s c moment drawn a
  sound_event s (restarted boot books) a = sound_restart s boot books a

  pub sound_history : (s : State) (events : List Event) → Sound s → Sound (state_after slots s events)
  sound_history s [] a = a
  sound_history s (event ∷ events) a = sound_history (happening slots s event).state events (sound_event s event a)
