-- A user is locked.
use Rattle.std.proofs.Common.{◌≡◌, ◌≢◌, ℕ, Bool, true, false, List, Option, None, Some, refl}
use Rattle.std.specs.Prelude.{is_some}
use Rattle.ls_promises.proofs.FreshLemmas.{other_contained}
use Rattle.ls_promises.proofs.LimitLemmas.{without_contains}
use Rattle.ls_promises.proofs.Steps.{at_unless}
use Rattle.ls_script.specs.declared.command.Command.TheVariants as command
use Rattle.ls_script.specs.declared.reply.Refusal.{Refusal}
use Rattle.ls_script.specs.declared.reply.Reply.TheVariants.{Fine}
use Rattle.ls_vault.specs.Refusals.{refusal, of_user}
use Rattle.ls_vault.specs.States.{fine}
use Rattle.ls_vault.specs.Step.{unless, step}
use Rattle.ls_vault.specs.Unlocking.{locked}
use Rattle.ls_vault.specs.Users.{user_of, is_user}
use Rattle.ls_arming.specs.Numbers.{contains, without_number}
use Rattle.ls_vault.specs.declared.state.Outcome.{Outcome}
use Rattle.ls_vault.specs.declared.state.State.{State}
use Rattle.ls_vault.specs.declared.user.User.{User}

gone : (ns : List ℕ) (n : ℕ) → contains (without_number ns n) n ≡ false
gone ns n = by_test (contains (without_number ns n) n) refl
  where
    by_test : (b : Bool) → contains (without_number ns n) n ≡ b → b ≡ false
    by_test false is = refl
    by_test true is = let h = without_contains ns n n is in absurd (h.1 refl)

module _ (slots : ℕ) (s : State) (user moment : ℕ) (drawn : List ℕ) where
  abbrev answer : Option Refusal → Outcome
  answer r = unless r s (fine (locked s user))

  abbrev cause : Option User → Option Refusal
  cause o = of_user o (λ u. None)

  accepted : (o : Option User) → is_some o ≡ true → (answer (cause o)).reply ≡ Fine
  accepted None is = absurd (cc)
  accepted (Some u) is = refl

  pub lock_accepted : is_user s.vault.users user ≡ true → (step slots s (command.Lock user) moment drawn).reply ≡ Fine
  lock_accepted is = accepted (user_of s.vault.users user) is

  closed : (r : Option Refusal) → (answer r).reply ≡ Fine → contains (answer r).state.session.opened user ≡ false
  closed None is = gone s.session.opened user
  closed (Some why) is = absurd (cc)

  pub lock_closed : (step slots s (command.Lock user) moment drawn).reply ≡ Fine → contains (step slots s (command.Lock user) moment drawn).state.session.opened user ≡ false
  lock_closed is = closed (refusal slots s (command.Lock user) moment) is

  pub lock_others : (other : ℕ) → other ≢ user → contains (step slots s (command.Lock user) moment drawn).state.session.opened other ≡ contains s.session.opened other
  lock_others other differ =
      at_unless (λ (t : State). contains t.session.opened other ≡ contains s.session.opened other) (refusal slots s (command.Lock user) moment) s (fine (locked s user)) refl
      (λ accepted. other_contained s.session.opened user other differ)

  -- any part of the state that doesn't say who is opened
  pub lock_keeps : {A : Type 0} (g : State → A) → g (locked s user) ≡ g s → g (step slots s (command.Lock user) moment drawn).state ≡ g s
  lock_keeps g same = at_unless (λ (t : State). g t ≡ g s) (refusal slots s (command.Lock user) moment) s (fine (locked s user)) refl (λ accepted. same)
