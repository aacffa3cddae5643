-- The length of a PIN.
use Rattle.std.proofs.Common.{◌≡◌, ◌≤◌, ◌<◌, ℕ, Bool, true, false, cond, List, Option, None, Some, length, refl, sym, ◌∙◌, ap, subst, arith}
use Rattle.std.proofs.lemmas.Bool.Decides.{nat_tests}
use Rattle.std.specs.Prelude.{◌&&◌, ◌↔◌, nat_le}
use Rattle.ls_credential.specs.declared.kind.Kind.{Kind}
use Rattle.ls_credential.specs.declared.kind.Kind.TheVariants.{Empty, Pattern, Pin, Password}
use Rattle.ls_promises.proofs.Steps.{at_unless, at_user}
use Rattle.ls_promises.specs.PinLengths.{ShowsLength}
use Rattle.ls_script.specs.declared.command.Command.TheVariants as command
use Rattle.ls_script.specs.declared.reply.Reply.{Reply}
use Rattle.ls_script.specs.declared.reply.Reply.TheVariants.{PinLength}
use Rattle.ls_vault.specs.Effects.{effect}
use Rattle.ls_vault.specs.Kinds.{is_pin}
use Rattle.ls_vault.specs.Refusals.{refusal, of_user}
use Rattle.ls_vault.specs.Revealed.{shown_length}
use Rattle.ls_vault.specs.States.{on_user}
use Rattle.ls_vault.specs.Step.{unless, step}
use Rattle.ls_vault.specs.Users.{user_of}
use Rattle.ls_vault.specs.declared.state.State.{State}
use Rattle.ls_vault.specs.declared.user.User.{User}

pin_is : (kind : Kind) → is_pin kind ≡ true → kind ≡ Pin
pin_is Empty is = absurd (cc)
pin_is Pattern is = absurd (cc)
pin_is Pin is = refl
pin_is Password is = absurd (cc)

long_is : (n : ℕ) → nat_le 6 n ≡ true → 6 ≤ n
long_is n is = grind (arith, nat_tests)

is_long : (n : ℕ) → 6 ≤ n → nat_le 6 n ≡ true
is_long n long = grind (arith, nat_tests)

-- a length that is shown passed the three tests
passed : (a b c : Bool) (n digits : ℕ) → 0 < digits → cond (a && b && c) n 0 ≡ digits → (a ≡ true) × (b ≡ true) × (c ≡ true) × (n ≡ digits)
passed true true true n digits some is = (refl, refl, refl, is)
passed true true false n digits some is = absurd (omega (arith, some, is))
passed true false c n digits some is = absurd (omega (arith, some, is))
passed false b c n digits some is = absurd (omega (arith, some, is))

module _ (s : State) (user : ℕ) where
  abbrev answer : Option User → Reply
  answer o = (unless (of_user o (λ u. None)) s (on_user o s (λ u. record { reply = PinLength (shown_length u); state = s }))).reply

  shows : (digits : ℕ) → 0 < digits → (o : Option User) → user_of s.vault.users user ≡ o → answer o ≡ PinLength digits → ShowsLength s user digits
  shows digits some None there is = absurd (cc)
  shows digits some (Some u) there is =
      let same : shown_length u ≡ digits = cc in
      let h = passed u.auto (is_pin u.credential.kind) (nat_le 6 (length u.credential.text)) (length u.credential.text) digits some same in
      record {
        found = u;
        there = there;
        allowed = h.0;
        pin = pin_is u.credential.kind h.1;
        exact = sym h.3;
        long = subst (λ n. 6 ≤ n) h.3 (long_is (length u.credential.text) h.2);
      }

  shown_by : (digits : ℕ) → ShowsLength s user digits → answer (user_of s.vault.users user) ≡ PinLength digits
  shown_by digits h =
      ap answer h.there
      ∙ ap PinLength
      (ap (λ b. cond (b && is_pin h.found.credential.kind && nat_le 6 (length h.found.credential.text)) (length h.found.credential.text) 0) h.allowed
      ∙ (ap (λ k. cond (is_pin k && nat_le 6 (length h.found.credential.text)) (length h.found.credential.text) 0) h.pin
      ∙ (ap (λ b. cond b (length h.found.credential.text) 0) (is_long (length h.found.credential.text) (subst (λ n. 6 ≤ n) h.exact h.long))
      ∙ sym h.exact)))

  module _ (slots moment : ℕ) (drawn : List ℕ) where
    pub length_shown : (digits : ℕ) → 0 < digits → ((step slots s (command.PinLength user) moment drawn).reply ≡ PinLength digits) ↔ ShowsLength s user digits
    length_shown digits some = (shows digits some (user_of s.vault.users user) refl, shown_by digits)

    pub length_long : (digits : ℕ) → 0 < digits → (step slots s (command.PinLength user) moment drawn).reply ≡ PinLength digits → 6 ≤ digits
    length_long digits some is = let h = shows digits some (user_of s.vault.users user) refl is in h.long

    pub length_same : (step slots s (command.PinLength user) moment drawn).state ≡ s
    length_same =
        at_unless (λ (t : State). t ≡ s) (refusal slots s (command.PinLength user) moment) s (effect slots s (command.PinLength user) moment drawn) refl
        (λ accepted. at_user (λ (t : State). t ≡ s) (user_of s.vault.users user) s _ refl (λ u found. refl))
