-- Each command leaves users armed or dead, not both.
use Rattle.std.proofs.Common.{◌≡◌, ◌⊎◌, inl, inr, ℕ, Bool, true, false, not, cond, eq-eqb, List, [], ◌∷◌, Option, None, Some, length, refl, sym, ◌∙◌, ap, subst, arith}
use Rattle.std.specs.Prelude.{◌==◌, ◌||◌, nat_lt, nat_le, min, filter, bytes_eq, ◌-◌}
use Rattle.std.specs.List.{AllByRecursion}
use Rattle.ls_promises.proofs.EndingLemmas.{none_taken, session_taken}
use Rattle.ls_promises.proofs.Lookups.{eqb_is}
use Rattle.ls_promises.proofs.SoundCommands.{of_accepted, passed}
use Rattle.ls_promises.proofs.Steps.{cond_both, at_unless, at_user, at_committed_if}
use Rattle.ls_promises.specs.Consistency.{IsSettled, FindsBooks}
use Rattle.ls_script.specs.declared.command.Command.{Command}
use Rattle.ls_script.specs.declared.command.Command.TheVariants as command
use Rattle.ls_script.specs.declared.reply.Refusal.TheVariants.{Worn}
use Rattle.ls_vault.specs.Arming.{unarmed, prepared, armed, resumed, is_good, taken, all_opened}
use Rattle.ls_vault.specs.Effects.{effect, auto_set}
use Rattle.ls_vault.specs.Histories.{Event, command as served, restarted, history, state_after}
use Rattle.ls_vault.specs.Limits.{last_of_64, is_worn, is_full, used, activated_count}
use Rattle.ls_vault.specs.Refusals.{refusal, of_user, is_opened, differs, worn_refusal, change_refusal, token_drop_refusal, escrow_off_refusal, auto_pin_refusal}
use Rattle.ls_vault.specs.States.{with_arming, with_dead, with_session, committed, committed_if}
use Rattle.ls_vault.specs.Step.{step, restart}
use Rattle.ls_vault.specs.TokenChanges.{first_activated}
use Rattle.ls_vault.specs.Tokens.{pending_of, is_active, is_pending}
use Rattle.ls_vault.specs.Unlocking.{attempted, token_attempted}
use Rattle.ls_arming.specs.Disarming.{disarmed}
use Rattle.ls_vault.specs.Users.{user_of, is_user}
use Rattle.ls_vault.specs.declared.state.Outcome.{Outcome}
use Rattle.ls_vault.specs.declared.state.State.{State}
use Rattle.ls_vault.specs.declared.user.User.{User}
use Rattle.ls_arming.specs.declared.arming.Arming.{Arming}
use Rattle.ls_vault.specs.declared.vault.Books.{Books}

no_arming : (o : Option Arming) (a : Arming) → o ≡ None → o ≡ Some a → ⊥
no_arming None a none some = absurd (cc)
no_arming (Some b) a none some = absurd (cc)

no_length : (ns : List ℕ) → (length ns == 0) ≡ true → ns ≡ []
no_length [] is = refl
no_length (n ∷ ns) is = absurd (let e = eqb_is (length (n ∷ ns)) 0 is in omega (arith, e))

-- what a test that lets go says of wear
fresh_of : (s : State) → worn_refusal s ≡ None → is_worn s ≡ false
fresh_of s is = let h = passed (is_worn s) Worn None is in h.0

-- an arming without a user was one
was_armed : (o : Option Arming) (user : ℕ) (a : Arming) → disarmed o user ≡ Some a → (b : Arming) × (o ≡ Some b)
was_armed None user a is = absurd (cc)
was_armed (Some b) user a is = (b, refl)

-- an arming is prepared
abbrev readied : State → State
readied t = with_session t (record t.session { prepared = true; captured = [] })

prepared_settled : (t : State) → t.vault.arming ≡ None → (t.books.dead ≡ []) ⊎ (t.books.kept ≡ last_of_64) → IsSettled (readied t)
prepared_settled t none spent = record {
  never_both = λ a there. absurd (no_arming t.vault.arming a none there);
  unarmed = λ is. none;
  spent = λ is. spent;
}

module _ (slots : ℕ) (s : State) (moment : ℕ) (drawn : List ℕ) (was : IsSettled s) where
  -- nothing of it is changed
  same : (t : State) → t.vault.arming ≡ s.vault.arming → t.books ≡ s.books → t.session.prepared ≡ s.session.prepared → IsSettled t
  same t arming books prepared = record {
    never_both = λ a there. ap (λ (b : Books). b.dead) books ∙ was.never_both a (sym arming ∙ there);
    unarmed = λ is. arming ∙ was.unarmed (sym prepared ∙ is);
    spent = λ is. subst (λ (b : Books). (b.dead ≡ []) ⊎ (b.kept ≡ last_of_64)) (sym books) (was.spent (sym prepared ∙ is));
  }

  -- who isn't worn has no dead users where it is prepared
  none_dead : is_worn s ≡ false → s.session.prepared ≡ true → s.books.dead ≡ []
  none_dead unworn is =
      elim (was.spent is) [
        | inl none ↦ none
        | inr worn ↦ absurd (let e = eq-eqb s.books.kept last_of_64 worn in cc)
      ]

  -- one change more is kept
  one_more : (t : State) → t.vault.arming ≡ s.vault.arming → t.books.dead ≡ s.books.dead → t.session.prepared ≡ s.session.prepared → is_worn s ≡ false → IsSettled t
  one_more t arming dead prepared unworn = record {
    never_both = λ a there. dead ∙ was.never_both a (sym arming ∙ there);
    unarmed = λ is. arming ∙ was.unarmed (sym prepared ∙ is);
    spent = λ is. inl (dead ∙ none_dead unworn (sym prepared ∙ is));
  }

  -- kept where a test says so
  by_test : (t : State) → t.vault.arming ≡ s.vault.arming → t.books ≡ s.books → t.session.prepared ≡ s.session.prepared → (b : Bool) → cond b (worn_refusal s) None ≡ None → IsSettled (committed_if b t)
  by_test t arming books prepared true is = one_more (committed t) arming (ap (λ (x : Books). x.dead) books) prepared (fresh_of s is)
  by_test t arming books prepared false is = same t arming books prepared

  settled_dropped : (user : ℕ) → is_worn s ≡ false → IsSettled (effect slots s (command.Drop user) moment drawn).state
  settled_dropped user unworn = record {
    never_both = λ a there. let h = was_armed s.vault.arming user a there in ap (λ (ns : List ℕ). filter (λ m. not (m == user)) ns) (was.never_both h.0 h.1);
    unarmed = λ is. ap (λ (o : Option Arming). disarmed o user) (was.unarmed is);
    spent = λ is. inl (ap (λ (ns : List ℕ). filter (λ m. not (m == user)) ns) (none_dead unworn is));
  }

  settled_activated : (user : ℕ) → IsSettled (effect slots s (command.Activate user) moment drawn).state
  settled_activated user = by_worn (is_worn s) refl
    where
      places : ℕ
      places = cond (slots == 0) (length (pending_of s.session.pending user)) (min (length (pending_of s.session.pending user)) (slots - used s.vault.users))

      by_worn : (w : Bool) → is_worn s ≡ w → IsSettled (committed_if (nat_lt 0 (cond w 0 places)) (first_activated (activated_count slots s user) s user))
      by_worn true is = same (first_activated (activated_count slots s user) s user) refl refl refl
      by_worn false is =
          at_committed_if IsSettled (nat_lt 0 places) (first_activated (activated_count slots s user) s user)
          (same (first_activated (activated_count slots s user) s user) refl refl refl)
          (one_more (committed (first_activated (activated_count slots s user) s user)) refl refl refl is)

  -- an arming that is taken
  settled_ended : (a : Arming) → s.vault.arming ≡ Some a → (t : State) → t.vault.arming ≡ None → t.session.prepared ≡ s.session.prepared → IsSettled t
  settled_ended a there t none prepared = record {
    never_both = λ b armed. absurd (no_arming t.vault.arming b none armed);
    unarmed = λ is. none;
    spent = λ is. absurd (no_arming s.vault.arming a (was.unarmed (sym prepared ∙ is)) there);
  }

  settled_resumed : (o : Option Arming) → s.vault.arming ≡ o → IsSettled (resumed o s).state
  settled_resumed None there = was
  settled_resumed (Some a) there =
      cond_both (λ (o : Outcome). IsSettled o.state) (is_good a.boot s.session.boot) _ _
      (settled_ended a there (all_opened (taken s a.users) a.users) (none_taken s a.users) (ap (λ x. x.prepared) (session_taken s a.users)))
      (settled_ended a there (taken s a.users) (none_taken s a.users) (ap (λ x. x.prepared) (session_taken s a.users)))

  settled_prepared : (o : Option Arming) → s.vault.arming ≡ o → IsSettled (readied (unarmed o s))
  settled_prepared None there = by_tests (length s.books.dead == 0) (is_worn s) refl refl
    where
      by_tests : (b w : Bool) → (length s.books.dead == 0) ≡ b → is_worn s ≡ w → IsSettled (readied (cond b s (cond w s (committed (with_dead s [])))))
      by_tests true w none worn = prepared_settled s there (inl (no_length s.books.dead none))
      by_tests false true none worn = prepared_settled s there (inr (eqb_is s.books.kept last_of_64 worn))
      by_tests false false none worn = prepared_settled (committed (with_dead s [])) there (inl refl)
  settled_prepared (Some a) there = by_worn (is_worn s) refl
    where
      by_worn : (w : Bool) → is_worn s ≡ w → IsSettled (readied (cond w (with_arming (with_dead s a.users) None) (committed (with_arming (with_dead s []) None))))
      by_worn true worn = prepared_settled (with_arming (with_dead s a.users) None) refl (inr (eqb_is s.books.kept last_of_64 worn))
      by_worn false worn = prepared_settled (committed (with_arming (with_dead s []) None)) refl (inl refl)

  settled_armed : refusal slots s command.Arm moment ≡ None → IsSettled (armed s)
  settled_armed accepted =
      let h = passed (not s.session.prepared) _ _ accepted in
      let k = passed (length s.session.captured == 0) _ _ h.1 in
      record {
        never_both = λ a there. none_dead (fresh_of s k.1) (was_prepared s.session.prepared h.0);
        unarmed = λ is. absurd (cc);
        spent = λ is. absurd (cc);
      }
    where
      was_prepared : (b : Bool) → not b ≡ false → b ≡ true
      was_prepared true is = refl
      was_prepared false is = absurd (cc)

  settled_effect : (c : Command) → refusal slots s c moment ≡ None → IsSettled (effect slots s c moment drawn).state
  settled_effect (command.Add user escrow) accepted =
      let exists = passed (is_user s.vault.users user) _ _ accepted in
      let limit = passed (nat_le 16 (length s.vault.users)) _ _ exists.1 in
      let full = passed (is_full slots s) _ _ limit.1 in
      one_more _ refl refl refl (fresh_of s full.1)
  settled_effect (command.Drop user) accepted =
      let h = of_accepted (user_of s.vault.users user) _ accepted in settled_dropped user (fresh_of s h.2)
  settled_effect (command.Attempt user offered) accepted =
      at_user IsSettled (user_of s.vault.users user) s (attempted s user offered moment) was
      (λ u found. cond_both (λ (o : Outcome). IsSettled o.state) (bytes_eq offered.text u.credential.text) _ _ (same _ refl refl refl) (same _ refl refl refl))
  settled_effect (command.Change user new) accepted =
      let h = of_accepted (user_of s.vault.users user) (λ u. change_refusal slots s user) accepted in
      let closed = passed (not (is_opened s user)) _ _ h.2 in
      let full = passed (is_full slots s) _ _ closed.1 in
      one_more _ refl refl refl (fresh_of s full.1)
  settled_effect (command.Lock user) accepted = same _ refl refl refl
  settled_effect (command.Status user) accepted = at_user IsSettled (user_of s.vault.users user) s _ was (λ u found. was)
  settled_effect command.Users accepted = was
  settled_effect (command.TokenAdd user bytes) accepted = same _ refl refl refl
  settled_effect (command.Activate user) accepted = settled_activated user
  settled_effect (command.TokenDrop user id) accepted =
      let h = of_accepted (user_of s.vault.users user) (λ u. token_drop_refusal s user id) accepted in
      let k = passed (not (is_pending s user id || is_active s user id)) _ _ h.2 in
      by_test _ refl refl refl (is_active s user id) k.1
  settled_effect (command.TokenState user id) accepted = was
  settled_effect (command.TokenAttempt user id offered) accepted =
      at_user IsSettled (user_of s.vault.users user) s (token_attempted s user) was (λ u found. same _ refl refl refl)
  settled_effect (command.EscrowOff user) accepted =
      let h = of_accepted (user_of s.vault.users user) (escrow_off_refusal s) accepted in
      let k = passed (not h.0.escrow) _ _ h.2 in
      one_more _ refl refl refl (fresh_of s k.1)
  settled_effect command.Prepare accepted = settled_prepared s.vault.arming refl
  settled_effect command.Arm accepted = settled_armed accepted
  settled_effect command.Resume accepted = settled_resumed s.vault.arming refl
  settled_effect (command.AutoPin user on) accepted =
      at_user IsSettled (user_of s.vault.users user) s (λ u. record { reply = _; state = auto_set s user on u }) was
      (λ u found.
      let e = sym (ap (λ (o : Option User). of_user o (auto_pin_refusal s user on)) found) ∙ accepted in
      let h = passed (not (is_opened s user)) _ _ e in
      by_test _ refl refl refl (differs u.auto on) h.1)
  settled_effect (command.PinLength user) accepted = at_user IsSettled (user_of s.vault.users user) s _ was (λ u found. was)

pub settled_step : (slots : ℕ) (s : State) (c : Command) (moment : ℕ) (drawn : List ℕ) → IsSettled s → IsSettled (step slots s c moment drawn).state
settled_step slots s c moment drawn was =
    at_unless IsSettled (refusal slots s c moment) s (effect slots s c moment drawn) was (λ accepted. settled_effect slots s moment drawn was c accepted)

pub settled_empty : (s : State) → s.vault.arming ≡ None → s.session.prepared ≡ false → IsSettled s
settled_empty s none idle = record {
  never_both = λ a there. absurd (no_arming s.vault.arming a none there);
  unarmed = λ is. none;
  spent = λ is. absurd (cc);
}

pub settled_books : (s : State) (boot : ℕ) (books : Books) → ((a : Arming) → s.vault.arming ≡ Some a → books.dead ≡ []) → IsSettled (restart s boot books)
settled_books s boot books good = record {
  never_both = good;
  unarmed = λ is. absurd (cc);
  spent = λ is. absurd (cc);
}

pub settled_restart : (s : State) (boot : ℕ) (books : Books) → (s.vault.arming ≡ None) ⊎ (books.dead ≡ []) → IsSettled (restart s boot books)
settled_restart s boot books (inl none) = settled_books s boot books (λ a there. absurd (no_arming s.vault.arming a none there))
settled_restart s boot books (inr dead) = settled_books s boot books (λ a there. dead)

pub settled_history : (slots : ℕ) (s : State) (events : List Event) → AllByRecursion FindsBooks (history slots s events) → IsSettled s → IsSettled (state_after slots s events)
settled_history slots s [] good was = was
settled_history slots s (served c moment drawn ∷ events) good was =
    settled_history slots (step slots s c moment drawn).state events good.1 (settled_step slots s c moment drawn was)
settled_history slots s (restarted boot books ∷ events) good was =
    settled_history slots (restart s boot books) events good.1 (settled_books s boot books good.0)
