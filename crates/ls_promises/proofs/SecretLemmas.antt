-- A user's secret after a step.
use Rattle.std.proofs.Common.{◌≡◌, ℕ, Bool, true, false, eqb, List, Option, None, Some, refl, sym, ◌∙◌, ap, subst}
use Rattle.std.specs.Prelude.{cond, is_some, nat_le, length, option_map}
use Rattle.std.specs.List.{list_any}
use Rattle.ls_script.specs.declared.command.Command.{Command}
use Rattle.ls_script.specs.declared.command.Command.TheVariants as command
use Rattle.ls_script.specs.declared.reply.Refusal.{Refusal}
use Rattle.ls_script.specs.declared.reply.Reply.TheVariants.{Fine}
use Rattle.ls_script.specs.declared.reply.Refusal.TheVariants.{UserExists, UserLimit, NoSlot}
use Rattle.ls_secret.specs.Derivation.{derived_of}
use Rattle.ls_secret.specs.Secrets.{SecretValue}
use Rattle.ls_secret.specs.declared.derived.Derived.{Derived}
use Rattle.ls_promises.specs.Answers.{drops}
use Rattle.ls_promises.specs.Secrets.{secret_of, derived_at, makes_or_removes}
use Rattle.ls_promises.proofs.Along.{along}
use Rattle.ls_promises.proofs.Lookups.{eqb_is, eqb_differs, seen, seen_kept, user_of-with, user_of-with_other, user_of-without_other}
use Rattle.ls_promises.proofs.Steps.{with_auto, Moved, at_step}
use Rattle.ls_vault.specs.Credentials.{given}
use Rattle.ls_vault.specs.Effects.{effect}
use Rattle.ls_vault.specs.Histories.{Event, history, state_after, passes}
use Rattle.ls_vault.specs.Limits.{most_users, is_full}
use Rattle.ls_vault.specs.Refusals.{worn_refusal, refusal}
use Rattle.ls_vault.specs.Step.{unless, step}
use Rattle.ls_vault.specs.TokenChanges.{with_tokens, without_its, plain}
use Rattle.ls_vault.specs.Unlocking.{cleared, failed}
use Rattle.ls_vault.specs.UserChanges.{new_user}
use Rattle.ls_vault.specs.Users.{user_of, is_user, changed}
use Rattle.ls_vault.specs.declared.state.State.{State}
use Rattle.ls_vault.specs.declared.user.User.{User}

abbrev secret : User → SecretValue
secret u = u.secret

module _ (slots : ℕ) (s : State) (moment : ℕ) (drawn : List ℕ) (n : ℕ) where
  abbrev Same : List User → Type 0
  Same users = seen secret users n ≡ secret_of s n

  kept : (f : User → User) → ((u : User) → (f u).number ≡ u.number) → ((u : User) → (f u).secret ≡ u.secret) → (user : ℕ)
      → seen secret (changed s.vault.users user f) n ≡ secret_of s n
  kept f number same user = seen_kept secret f number user n same s.vault.users

  moved : (c : Command) → makes_or_removes n c ≡ false → Moved Same slots s moment drawn c
  moved (command.Add user escrow) other =
      ap (λ (o : Option User). option_map secret o) (user_of-with_other s.vault.users (new_user user escrow drawn) n (eqb_differs user n other))
  moved (command.Drop user) other =
      ap (λ (o : Option User). option_map secret o) (user_of-without_other s.vault.users user n (eqb_differs user n other))
  moved (command.Attempt user offered) other = (kept cleared (λ u. refl) (λ u. refl) user, kept (failed moment) (λ u. refl) (λ u. refl) user)
  moved (command.Change user new) other = kept (given s.vault.users new drawn) (λ u. refl) (λ u. refl) user
  moved (command.Lock user) other = tt
  moved (command.Status user) other = tt
  moved command.Users other = tt
  moved (command.TokenAdd user bytes) other = tt
  moved (command.Activate user) other = kept (with_tokens _) (λ u. refl) (λ u. refl) user
  moved (command.TokenDrop user id) other = kept (without_its id) (λ u. refl) (λ u. refl) user
  moved (command.TokenState user id) other = tt
  moved (command.TokenAttempt user id offered) other = tt
  moved (command.EscrowOff user) other = kept plain (λ u. refl) (λ u. refl) user
  moved command.Prepare other = tt
  moved command.Arm other = tt
  moved command.Resume other = tt
  moved (command.AutoPin user on) other = kept (with_auto on) (λ u. refl) (λ u. refl) user
  moved (command.PinLength user) other = tt

  pub secret_kept : (c : Command) → makes_or_removes n c ≡ false → secret_of (step slots s c moment drawn).state n ≡ secret_of s n
  secret_kept c other = at_step Same slots s moment drawn c refl (moved c other)

-- an added user has the secret that was drawn
pub secret_added : (slots : ℕ) (s : State) (user : ℕ) (escrow : Bool) (moment : ℕ) (drawn : List ℕ) (r : Option Refusal)
    → (unless r s (effect slots s (command.Add user escrow) moment drawn)).reply ≡ Fine
    → secret_of (unless r s (effect slots s (command.Add user escrow) moment drawn)).state user ≡ Some (new_user user escrow drawn).secret
secret_added slots s user escrow moment drawn None is = ap (λ (o : Option User). option_map secret o) (user_of-with s.vault.users (new_user user escrow drawn))
secret_added slots s user escrow moment drawn (Some why) is = absurd (cc)

-- a user who is there isn't added again, and is dropped only where that is answered
module _ (slots : ℕ) (n : ℕ) (x : SecretValue) where
  abbrev pub Has : State → Type 0
  Has s = secret_of s n ≡ Some x

  is_there : (o : Option User) → option_map secret o ≡ Some x → is_some o ≡ true
  is_there None has = absurd (cc)
  is_there (Some u) has = refl

  add_cases : (s : State) (u : ℕ) (escrow : Bool) (moment : ℕ) (drawn : List ℕ) (b : Bool) → eqb u n ≡ b → Has s → Has (step slots s (command.Add u escrow) moment drawn).state
  add_cases s u escrow moment drawn false other has = secret_kept slots s moment drawn n (command.Add u escrow) other ∙ has
  add_cases s u escrow moment drawn true this has =
      subst Has (sym (ap (λ (r : Option Refusal). (unless r s (effect slots s (command.Add u escrow) moment drawn)).state)
      (ap (λ b. cond b (Some UserExists) (cond (nat_le most_users (length s.vault.users)) (Some UserLimit) (cond (is_full slots s) (Some NoSlot) (worn_refusal s))))
      (ap (λ k. is_user s.vault.users k) (eqb_is u n this) ∙ is_there (user_of s.vault.users n) has)))) has

  drop_cases : (s : State) (u : ℕ) (moment : ℕ) (drawn : List ℕ) (b : Bool) → eqb u n ≡ b → Has s → drops n (command.Drop u) (step slots s (command.Drop u) moment drawn).reply ≡ false
      → Has (step slots s (command.Drop u) moment drawn).state
  drop_cases s u moment drawn false other has not = secret_kept slots s moment drawn n (command.Drop u) other ∙ has
  drop_cases s u moment drawn true this has not = by_refusal (refusal slots s (command.Drop u) moment) not
    where
      by_refusal : (r : Option Refusal) → drops n (command.Drop u) (unless r s (effect slots s (command.Drop u) moment drawn)).reply ≡ false
          → Has (unless r s (effect slots s (command.Drop u) moment drawn)).state
      by_refusal None not = absurd (cc)
      by_refusal (Some why) not = has

  pub served : (s : State) (c : Command) (moment : ℕ) (drawn : List ℕ) → Has s → drops n c (step slots s c moment drawn).reply ≡ false → Has (step slots s c moment drawn).state
  served s (command.Add u escrow) moment drawn has not = add_cases s u escrow moment drawn (eqb u n) refl has
  served s (command.Drop u) moment drawn has not = drop_cases s u moment drawn (eqb u n) refl has not
  served s (command.Attempt u offered) moment drawn has not = secret_kept slots s moment drawn n (command.Attempt u offered) refl ∙ has
  served s (command.Change u new) moment drawn has not = secret_kept slots s moment drawn n (command.Change u new) refl ∙ has
  served s (command.Lock u) moment drawn has not = secret_kept slots s moment drawn n (command.Lock u) refl ∙ has
  served s (command.Status u) moment drawn has not = secret_kept slots s moment drawn n (command.Status u) refl ∙ has
  served s command.Users moment drawn has not = secret_kept slots s moment drawn n command.Users refl ∙ has
  served s (command.TokenAdd u bytes) moment drawn has not = secret_kept slots s moment drawn n (command.TokenAdd u bytes) refl ∙ has
  served s (command.Activate u) moment drawn has not = secret_kept slots s moment drawn n (command.Activate u) refl ∙ has
  served s (command.TokenDrop u id) moment drawn has not = secret_kept slots s moment drawn n (command.TokenDrop u id) refl ∙ has
  served s (command.TokenState u id) moment drawn has not = secret_kept slots s moment drawn n (command.TokenState u id) refl ∙ has
  served s (command.TokenAttempt u id offered) moment drawn has not = secret_kept slots s moment drawn n (command.TokenAttempt u id offered) refl ∙ has
  served s (command.EscrowOff u) moment drawn has not = secret_kept slots s moment drawn n (command.EscrowOff u) refl ∙ has
  served s command.Prepare moment drawn has not = secret_kept slots s moment drawn n command.Prepare refl ∙ has
  served s command.Arm moment drawn has not = secret_kept slots s moment drawn n command.Arm refl ∙ has
  served s command.Resume moment drawn has not = secret_kept slots s moment drawn n command.Resume refl ∙ has
  served s (command.AutoPin u on) moment drawn has not = secret_kept slots s moment drawn n (command.AutoPin u on) refl ∙ has
  served s (command.PinLength u) moment drawn has not = secret_kept slots s moment drawn n (command.PinLength u) refl ∙ has

  pub secret_along : (s : State) (events : List Event) → Has s → list_any (passes (drops n)) (history slots s events) ≡ false → Has (state_after slots s events)
  secret_along = along slots Has (drops n) served (λ s boot books has. has)

pub derived_along : (slots : ℕ) (s : State) (events : List Event) (n : ℕ) (keys : Derived) (o : Option SecretValue) → secret_of s n ≡ o → option_map derived_of o ≡ Some keys
    → list_any (passes (drops n)) (history slots s events) ≡ false → derived_at (state_after slots s events) n ≡ Some keys
derived_along slots s events n keys None is none not = absurd (cc)
derived_along slots s events n keys (Some x) is some not = ap (λ (o : Option SecretValue). option_map derived_of o) (secret_along slots n x s events is not) ∙ some
