-- Who is opened behind an unlock or a resume.
use Rattle.std.proofs.Common.{◌≡◌, ℕ, Bool, true, false, cond, eqb, eq-eqb, ltb, List, [], ◌∷◌, Option, None, Some, refl, sym, ◌∙◌, ap, subst}
use Rattle.std.specs.Prelude.{◌||◌, ◌&&◌, option_map, bytes_eq}
use Rattle.ls_credential.specs.Rules.{KindAndText}
use Rattle.ls_promises.proofs.EndingLemmas.{opening, at_arming}
use Rattle.ls_promises.proofs.LimitLemmas.{or_true_left, or_true_right}
use Rattle.ls_promises.proofs.Lookups.{eqb_is, user_of-changed}
use Rattle.ls_promises.proofs.Steps.{cond_both}
use Rattle.ls_promises.specs.Answers.{is_opened, unlocks}
use Rattle.ls_promises.specs.Counters.{fails_of, until_of}
use Rattle.ls_script.specs.declared.command.Command.{Command}
use Rattle.ls_script.specs.declared.command.Command.TheVariants as command
use Rattle.ls_script.specs.declared.reply.Refusal.{Refusal}
use Rattle.ls_script.specs.declared.reply.Reply.TheVariants.{Opened, Resumed}
use Rattle.ls_script.specs.declared.reply.Revealed.{Revealed}
use Rattle.ls_vault.specs.Arming.{is_good, taken}
use Rattle.ls_vault.specs.Refusals.{refusal}
use Rattle.ls_vault.specs.States.{refused, on_user}
use Rattle.ls_vault.specs.Step.{unless, step}
use Rattle.ls_vault.specs.Unlocking.{cleared, attempted, token_attempted}
use Rattle.ls_vault.specs.Users.{user_of}
use Rattle.ls_arming.specs.Numbers.{contains, with_number, with_numbers}
use Rattle.ls_vault.specs.declared.state.Outcome.{Outcome}
use Rattle.ls_vault.specs.declared.state.State.{State}
use Rattle.ls_vault.specs.declared.user.User.{User}
use Rattle.ls_arming.specs.declared.arming.Arming.{Arming}

-- ---- numbers

with_this : (ns : List ℕ) (n : ℕ) → contains (with_number ns n) n ≡ true
with_this [] n = or_true_left (eqb n n) false (eq-eqb n n refl)
with_this (m ∷ ns) n = by_tests (ltb m n) (eqb m n) refl (with_this ns n)
  where
    by_tests : (b d : Bool) → eqb m n ≡ d → contains (with_number ns n) n ≡ true → contains (cond b (m ∷ with_number ns n) (cond d (m ∷ ns) (n ∷ m ∷ ns))) n ≡ true
    by_tests true d is rest = or_true_right (eqb m n) (contains (with_number ns n) n) rest
    by_tests false true is rest = or_true_left (eqb m n) (contains ns n) is
    by_tests false false is rest = or_true_left (eqb n n) (contains (m ∷ ns) n) (eq-eqb n n refl)

still_with : (ns : List ℕ) (n k : ℕ) → contains ns k ≡ true → contains (with_number ns n) k ≡ true
still_with [] n k is = absurd (cc)
still_with (m ∷ ns) n k is = by_tests (ltb m n) (eqb m n) (eqb m k) refl is (λ rest. still_with ns n k rest)
  where
    by_tests : (b d e : Bool) → eqb m k ≡ e → (e || contains ns k) ≡ true → (contains ns k ≡ true → contains (with_number ns n) k ≡ true)
        → contains (cond b (m ∷ with_number ns n) (cond d (m ∷ ns) (n ∷ m ∷ ns))) k ≡ true
    by_tests true d true is there rest = or_true_left (eqb m k) (contains (with_number ns n) k) is
    by_tests true d false is there rest = or_true_right (eqb m k) (contains (with_number ns n) k) (rest there)
    by_tests false true true is there rest = or_true_left (eqb m k) (contains ns k) is
    by_tests false true false is there rest = or_true_right (eqb m k) (contains ns k) there
    by_tests false false true is there rest = or_true_right (eqb n k) (eqb m k || contains ns k) (or_true_left (eqb m k) (contains ns k) is)
    by_tests false false false is there rest = or_true_right (eqb n k) (eqb m k || contains ns k) (or_true_right (eqb m k) (contains ns k) there)

still_with_all : (more ns : List ℕ) (k : ℕ) → contains ns k ≡ true → contains (with_numbers ns more) k ≡ true
still_with_all [] ns k is = is
still_with_all (n ∷ more) ns k is = still_with_all more (with_number ns n) k (still_with ns n k is)

with_all : (more ns : List ℕ) (k : ℕ) → contains more k ≡ true → contains (with_numbers ns more) k ≡ true
with_all [] ns k is = absurd (cc)
with_all (n ∷ more) ns k is = by_test (eqb n k) refl is (λ rest. with_all more (with_number ns n) k rest)
  where
    by_test : (b : Bool) → eqb n k ≡ b → (b || contains more k) ≡ true → (contains more k ≡ true → contains (with_numbers (with_number ns n) more) k ≡ true)
        → contains (with_numbers (with_number ns n) more) k ≡ true
    by_test true same there rest = still_with_all more (with_number ns n) k (subst (λ m. contains (with_number ns n) m ≡ true) (eqb_is n k same) (with_this ns n))
    by_test false other there rest = rest there

-- ---- an unlock

module _ (P : Outcome → Type 0) (s : State) (none : (why : Refusal) → P (refused s why)) where
  out_unless : (r : Option Refusal) (o : Outcome) → P o → P (unless r s o)
  out_unless None o p = p
  out_unless (Some why) o p = none why

  out_user : (o : Option User) (act : User → Outcome) → ((u : User) → o ≡ Some u → P (act u)) → P (on_user o s act)
  out_user None act p = none _
  out_user (Some u) act p = p u refl

both_true : (a b : Bool) → (a && b) ≡ true → (a ≡ true) × (b ≡ true)
both_true true b is = (refl, is)
both_true false b is = absurd (cc)

module _ (slots : ℕ) (s : State) (moment : ℕ) (drawn : List ℕ) (n : ℕ) where
  -- an outcome by which this user is opened
  abbrev Unlocked : Outcome → Type 0
  Unlocked o = is_opened o.reply ≡ true → (contains o.state.session.opened n ≡ true) × (s.session.prepared ≡ true → contains o.state.session.captured n ≡ true)

  is_captured : (b : Bool) → b ≡ true → contains (cond b (with_number s.session.captured n) s.session.captured) n ≡ true
  is_captured true is = with_this s.session.captured n
  is_captured false is = absurd (cc)

  by_attempt : (offered : KindAndText) → Unlocked (step slots s (command.Attempt n offered) moment drawn)
  by_attempt offered =
      out_unless Unlocked s (λ why is. absurd (cc)) (refusal slots s (command.Attempt n offered) moment) _
      (out_user Unlocked s (λ why is. absurd (cc)) (user_of s.vault.users n) (attempted s n offered moment)
      (λ u found. cond_both Unlocked (bytes_eq offered.text u.credential.text) _ _
      (λ is. (with_this s.session.opened n, λ prepared. is_captured s.session.prepared prepared)) (λ is. absurd (cc))))

  by_token_attempt : (id : ℕ) (offered : List ℕ) → Unlocked (step slots s (command.TokenAttempt n id offered) moment drawn)
  by_token_attempt id offered =
      out_unless Unlocked s (λ why is. absurd (cc)) (refusal slots s (command.TokenAttempt n id offered) moment) _
      (out_user Unlocked s (λ why is. absurd (cc)) (user_of s.vault.users n) (token_attempted s n)
      (λ u found is. (with_this s.session.opened n, λ prepared. is_captured s.session.prepared prepared)))

  abbrev Now : Outcome → Type 0
  Now o = (contains o.state.session.opened n ≡ true) × (s.session.prepared ≡ true → contains o.state.session.captured n ≡ true)

  pub unlocked : (c : Command) → unlocks n c (step slots s c moment drawn).reply ≡ true → Now (step slots s c moment drawn)
  unlocked (command.Attempt u offered) is =
      let h = both_true (eqb u n) _ is in
      subst (λ m. is_opened (step slots s (command.Attempt m offered) moment drawn).reply ≡ true → Now (step slots s (command.Attempt m offered) moment drawn))
      (sym (eqb_is u n h.0)) (by_attempt offered) h.1
  unlocked (command.TokenAttempt u id offered) is =
      let h = both_true (eqb u n) _ is in
      subst (λ m. is_opened (step slots s (command.TokenAttempt m id offered) moment drawn).reply ≡ true → Now (step slots s (command.TokenAttempt m id offered) moment drawn))
      (sym (eqb_is u n h.0)) (by_token_attempt id offered) h.1
  unlocked (command.Add user escrow) is = absurd (cc)
  unlocked (command.Drop user) is = absurd (cc)
  unlocked (command.Change user new) is = absurd (cc)
  unlocked (command.Lock user) is = absurd (cc)
  unlocked (command.Status user) is = absurd (cc)
  unlocked command.Users is = absurd (cc)
  unlocked (command.TokenAdd user bytes) is = absurd (cc)
  unlocked (command.Activate user) is = absurd (cc)
  unlocked (command.TokenDrop user id) is = absurd (cc)
  unlocked (command.TokenState user id) is = absurd (cc)
  unlocked (command.EscrowOff user) is = absurd (cc)
  unlocked command.Prepare is = absurd (cc)
  unlocked command.Arm is = absurd (cc)
  unlocked command.Resume is = absurd (cc)
  unlocked (command.AutoPin user on) is = absurd (cc)
  unlocked (command.PinLength user) is = absurd (cc)

  -- the counters behind the right text
  abbrev Cleared : Revealed → Outcome → Type 0
  Cleared r o = o.reply ≡ Opened r → (fails_of o.state n ≡ Some 0) × (until_of o.state n ≡ Some 0)

  pub counters_cleared : (offered : KindAndText) (r : Revealed) → Cleared r (step slots s (command.Attempt n offered) moment drawn)
  counters_cleared offered r =
      out_unless (Cleared r) s (λ why is. absurd (cc)) (refusal slots s (command.Attempt n offered) moment) _
      (out_user (Cleared r) s (λ why is. absurd (cc)) (user_of s.vault.users n) (attempted s n offered moment)
      (λ u found.
      let e = user_of-changed cleared (λ u. refl) n s.vault.users ∙ ap (λ (o : Option User). option_map cleared o) found in
      cond_both (Cleared r) (bytes_eq offered.text u.credential.text) _ _
      (λ is. (ap (λ (o : Option User). option_map (λ u. u.fails) o) e, ap (λ (o : Option User). option_map (λ u. u.until) o) e)) (λ is. absurd (cc))))

-- ---- a resume

pub resumed_opens : (slots : ℕ) (s : State) (moment : ℕ) (drawn : List ℕ) (a : Arming) (rows : List Revealed) (user : ℕ) → s.vault.arming ≡ Some a → contains a.users user ≡ true
    → (step slots s command.Resume moment drawn).reply ≡ Resumed rows → contains (step slots s command.Resume moment drawn).state.session.opened user ≡ true
resumed_opens slots s moment drawn a rows user there among is =
    let e = at_arming s a there (is_good a.boot s.session.boot) refl in
    subst (λ (o : Outcome). o.reply ≡ Resumed rows → contains o.state.session.opened user ≡ true) (sym e) (by_good (is_good a.boot s.session.boot)) is
  where
    by_good : (b : Bool) → (opening s a b).reply ≡ Resumed rows → contains (opening s a b).state.session.opened user ≡ true
    by_good true is = with_all a.users (taken s a.users).session.opened user among
    by_good false is = absurd (cc)
