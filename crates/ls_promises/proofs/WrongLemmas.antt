-- An attempt with a credential that isn't the present one.
use Rattle.std.proofs.Common.{◌≡◌, ◌≢◌, ◌≤◌, ◌+◌, ℕ, Bool, true, false, ltb, List, Option, Some, min, refl, ◌∙◌, ap, arith}
use Rattle.std.proofs.lemmas.Bool.Decides.{nat_tests}
use Rattle.std.proofs.lemmas.Slice.Eq.{bytes_eq-Decides}
use Rattle.std.specs.Prelude.{nat_lt, option_map, bytes_eq}
use Rattle.ls_credential.specs.Rules.{KindAndText}
use Rattle.ls_promises.proofs.CounterLemmas.{wrong, tried, tried_is}
use Rattle.ls_promises.proofs.Lookups.{user_of-changed}
use Rattle.ls_promises.proofs.UnlockLemmas.{same_kind_is, same_parts}
use Rattle.ls_promises.specs.Counters.{fails_of}
use Rattle.ls_script.specs.declared.command.Command.TheVariants as command
use Rattle.ls_script.specs.declared.reply.Refusal.TheVariants.{WrongKind}
use Rattle.ls_vault.specs.Kinds.{same_kind}
use Rattle.ls_vault.specs.Limits.{last_of_32}
use Rattle.ls_vault.specs.States.{refused}
use Rattle.ls_vault.specs.Step.{step}
use Rattle.ls_vault.specs.Unlocking.{failed}
use Rattle.ls_vault.specs.Users.{user_of}
use Rattle.ls_vault.specs.declared.state.Outcome.{Outcome}
use Rattle.ls_vault.specs.declared.state.State.{State}
use Rattle.ls_vault.specs.declared.user.User.{User}

module _ (s : State) (n : ℕ) (offered : KindAndText) (moment : ℕ) (v : User) where
  unseen_at : (kind early same : Bool) → kind ≡ false → tried s n offered moment v kind early same ≡ refused s (WrongKind v.credential.kind)
  unseen_at false early same is = refl
  unseen_at true early same is = absurd (cc)

  wrong_at : (kind early same : Bool) → kind ≡ true → early ≡ false → same ≡ false → tried s n offered moment v kind early same ≡ wrong s n offered moment v
  wrong_at true false false a b d = refl
  wrong_at true false true a b d = absurd (cc)
  wrong_at true true same a b d = absurd (cc)
  wrong_at false early same a b d = absurd (cc)

  on_time : (a b : ℕ) → b ≤ a → ltb a b ≡ false
  on_time a b is = grind (arith, nat_tests)

  other_text : same_kind offered.kind v.credential.kind ≡ true → offered ≢ v.credential → (b : Bool) → bytes_eq offered.text v.credential.text ≡ b → b ≡ false
  other_text kind other false is = refl
  other_text kind other true is =
      absurd (other (same_parts offered v.credential (same_kind_is offered.kind v.credential.kind kind) ((bytes_eq-Decides offered.text v.credential.text).0 is)))

  module _ (slots : ℕ) (drawn : List ℕ) (there : user_of s.vault.users n ≡ Some v) where
    pub unseen : same_kind offered.kind v.credential.kind ≡ false → step slots s (command.Attempt n offered) moment drawn ≡ refused s (WrongKind v.credential.kind)
    unseen is =
        tried_is s n offered moment v slots drawn there
        ∙ unseen_at (same_kind offered.kind v.credential.kind) (nat_lt moment v.until) (bytes_eq offered.text v.credential.text) is

    pub answered : same_kind offered.kind v.credential.kind ≡ true → v.until ≤ moment → offered ≢ v.credential
        → step slots s (command.Attempt n offered) moment drawn ≡ wrong s n offered moment v
    answered kind free other =
        tried_is s n offered moment v slots drawn there
        ∙ wrong_at (same_kind offered.kind v.credential.kind) (nat_lt moment v.until) (bytes_eq offered.text v.credential.text)
        kind (on_time moment v.until free) (other_text kind other (bytes_eq offered.text v.credential.text) refl)

    pub counted : same_kind offered.kind v.credential.kind ≡ true → v.until ≤ moment → offered ≢ v.credential
        → fails_of (step slots s (command.Attempt n offered) moment drawn).state n ≡ Some (min (v.fails + 1) last_of_32)
    counted kind free other =
        ap (λ (o : Outcome). fails_of o.state n) (answered kind free other)
        ∙ ap (λ (o : Option User). option_map (λ u. u.fails) o)
        (user_of-changed (failed moment) (λ u. refl) n s.vault.users ∙ ap (λ (o : Option User). option_map (failed moment) o) there)
