-- A user's present credential after a step.
use Rattle.std.proofs.Common.{◌≡◌, ℕ, Bool, true, false, eqb, List, Option, None, Some, refl, ◌∙◌, ap}
use Rattle.std.specs.Prelude.{◌&&◌, option_map}
use Rattle.std.specs.List.{list_any}
use Rattle.ls_credential.specs.Rules.{KindAndText}
use Rattle.ls_promises.proofs.Along.{along}
use Rattle.ls_promises.proofs.Lookups.{eqb_differs, seen, seen_kept, seen_other, user_of-changed, user_of-with, user_of-with_other, user_of-without_other}
use Rattle.ls_promises.proofs.Steps.{with_auto, Moved, at_step}
use Rattle.ls_promises.specs.Answers.{is_fine}
use Rattle.ls_promises.specs.Credentials.{credential_of, no_credential, renews}
use Rattle.ls_script.specs.declared.command.Command.{Command}
use Rattle.ls_script.specs.declared.command.Command.TheVariants as command
use Rattle.ls_script.specs.declared.reply.Refusal.{Refusal}
use Rattle.ls_script.specs.declared.reply.Reply.TheVariants.{Fine}
use Rattle.ls_vault.specs.Credentials.{given}
use Rattle.ls_vault.specs.Effects.{effect}
use Rattle.ls_vault.specs.Histories.{Event, history, state_after, passes}
use Rattle.ls_vault.specs.Refusals.{refusal, change_refusal, of_user}
use Rattle.ls_vault.specs.Step.{unless, step}
use Rattle.ls_vault.specs.TokenChanges.{with_tokens, without_its, plain}
use Rattle.ls_vault.specs.Unlocking.{cleared, failed}
use Rattle.ls_vault.specs.UserChanges.{new_user}
use Rattle.ls_vault.specs.Users.{user_of, changed}
use Rattle.ls_vault.specs.declared.state.State.{State}
use Rattle.ls_vault.specs.declared.user.User.{User}

abbrev credential : User → KindAndText
credential u = u.credential

-- the command may renew the credential of this user
abbrev may_renew : ℕ → Command → Bool
may_renew n (command.Add u escrow) = eqb u n
may_renew n (command.Drop u) = eqb u n
may_renew n (command.Change u new) = eqb u n
may_renew n _ = false

module _ (slots : ℕ) (s : State) (moment : ℕ) (drawn : List ℕ) (n : ℕ) where
  abbrev Same : List User → Type 0
  Same users = seen credential users n ≡ credential_of s n

  abbrev Stays : State → Type 0
  Stays t = credential_of t n ≡ credential_of s n

  kept : (f : User → User) → ((u : User) → (f u).number ≡ u.number) → ((u : User) → (f u).credential ≡ u.credential) → (user : ℕ)
      → seen credential (changed s.vault.users user f) n ≡ credential_of s n
  kept f number same user = seen_kept credential f number user n same s.vault.users

  moved : (c : Command) → may_renew n c ≡ false → Moved Same slots s moment drawn c
  moved (command.Add user escrow) other =
      ap (λ (o : Option User). option_map credential o) (user_of-with_other s.vault.users (new_user user escrow drawn) n (eqb_differs user n other))
  moved (command.Drop user) other =
      ap (λ (o : Option User). option_map credential o) (user_of-without_other s.vault.users user n (eqb_differs user n other))
  moved (command.Attempt user offered) other = (kept cleared (λ u. refl) (λ u. refl) user, kept (failed moment) (λ u. refl) (λ u. refl) user)
  moved (command.Change user new) other = seen_other credential (given s.vault.users new drawn) (λ u. refl) user n (eqb_differs user n other) s.vault.users
  moved (command.Lock user) other = tt
  moved (command.Status user) other = tt
  moved command.Users other = tt
  moved (command.TokenAdd user bytes) other = tt
  moved (command.Activate user) other = kept (with_tokens _) (λ u. refl) (λ u. refl) user
  moved (command.TokenDrop user id) other = kept (without_its id) (λ u. refl) (λ u. refl) user
  moved (command.TokenState user id) other = tt
  moved (command.TokenAttempt user id offered) other = tt
  moved (command.EscrowOff user) other = kept plain (λ u. refl) (λ u. refl) user
  moved command.Prepare other = tt
  moved command.Arm other = tt
  moved command.Resume other = tt
  moved (command.AutoPin user on) other = kept (with_auto on) (λ u. refl) (λ u. refl) user
  moved (command.PinLength user) other = tt

  by_kept : (c : Command) → may_renew n c ≡ false → Stays (step slots s c moment drawn).state
  by_kept c other = at_step Same slots s moment drawn c refl (moved c other)

  -- an answer that isn't Fine is a refusal
  fine_only : (t : State) (r : Option Refusal) → is_fine (unless r s (record { reply = Fine; state = t })).reply ≡ false → Stays (unless r s (record { reply = Fine; state = t })).state
  fine_only t None not = absurd (cc)
  fine_only t (Some why) not = refl

  add_cases : (u : ℕ) (escrow b : Bool) → eqb u n ≡ b → (b && is_fine (step slots s (command.Add u escrow) moment drawn).reply) ≡ false → Stays (step slots s (command.Add u escrow) moment drawn).state
  add_cases u escrow true this not = fine_only _ (refusal slots s (command.Add u escrow) moment) not
  add_cases u escrow false this not = by_kept (command.Add u escrow) this

  drop_cases : (u : ℕ) (b : Bool) → eqb u n ≡ b → (b && is_fine (step slots s (command.Drop u) moment drawn).reply) ≡ false → Stays (step slots s (command.Drop u) moment drawn).state
  drop_cases u true this not = fine_only _ (refusal slots s (command.Drop u) moment) not
  drop_cases u false this not = by_kept (command.Drop u) this

  change_cases : (u : ℕ) (new : KindAndText) (b : Bool) → eqb u n ≡ b → (b && is_fine (step slots s (command.Change u new) moment drawn).reply) ≡ false
      → Stays (step slots s (command.Change u new) moment drawn).state
  change_cases u new true this not = fine_only _ (refusal slots s (command.Change u new) moment) not
  change_cases u new false this not = by_kept (command.Change u new) this

  pub credential_kept : (c : Command) → renews n c (step slots s c moment drawn).reply ≡ false → Stays (step slots s c moment drawn).state
  credential_kept (command.Add u escrow) not = add_cases u escrow (eqb u n) refl not
  credential_kept (command.Drop u) not = drop_cases u (eqb u n) refl not
  credential_kept (command.Change u new) not = change_cases u new (eqb u n) refl not
  credential_kept (command.Attempt u offered) not = by_kept (command.Attempt u offered) refl
  credential_kept (command.Lock u) not = by_kept (command.Lock u) refl
  credential_kept (command.Status u) not = by_kept (command.Status u) refl
  credential_kept command.Users not = by_kept command.Users refl
  credential_kept (command.TokenAdd u bytes) not = by_kept (command.TokenAdd u bytes) refl
  credential_kept (command.Activate u) not = by_kept (command.Activate u) refl
  credential_kept (command.TokenDrop u id) not = by_kept (command.TokenDrop u id) refl
  credential_kept (command.TokenState u id) not = by_kept (command.TokenState u id) refl
  credential_kept (command.TokenAttempt u id offered) not = by_kept (command.TokenAttempt u id offered) refl
  credential_kept (command.EscrowOff u) not = by_kept (command.EscrowOff u) refl
  credential_kept command.Prepare not = by_kept command.Prepare refl
  credential_kept command.Arm not = by_kept command.Arm refl
  credential_kept command.Resume not = by_kept command.Resume refl
  credential_kept (command.AutoPin u on) not = by_kept (command.AutoPin u on) refl
  credential_kept (command.PinLength u) not = by_kept (command.PinLength u) refl

-- an added user has none
pub none_added : (slots : ℕ) (s : State) (user : ℕ) (escrow : Bool) (moment : ℕ) (drawn : List ℕ) (r : Option Refusal)
    → (unless r s (effect slots s (command.Add user escrow) moment drawn)).reply ≡ Fine
    → credential_of (unless r s (effect slots s (command.Add user escrow) moment drawn)).state user ≡ Some no_credential
none_added slots s user escrow moment drawn None is = ap (λ (o : Option User). option_map credential o) (user_of-with s.vault.users (new_user user escrow drawn))
none_added slots s user escrow moment drawn (Some why) is = absurd (cc)

-- a change gives the new one
pub new_given : (slots : ℕ) (s : State) (user : ℕ) (new : KindAndText) (moment : ℕ) (drawn : List ℕ) (o : Option User) → user_of s.vault.users user ≡ o
    → (unless (of_user o (λ u. change_refusal slots s user)) s (effect slots s (command.Change user new) moment drawn)).reply ≡ Fine
    → credential_of (unless (of_user o (λ u. change_refusal slots s user)) s (effect slots s (command.Change user new) moment drawn)).state user ≡ Some new
new_given slots s user new moment drawn None there is = absurd (cc)
new_given slots s user new moment drawn (Some u) there is = by_refusal (change_refusal slots s user) is
  where
    by_refusal : (r : Option Refusal) → (unless r s (effect slots s (command.Change user new) moment drawn)).reply ≡ Fine
        → credential_of (unless r s (effect slots s (command.Change user new) moment drawn)).state user ≡ Some new
    by_refusal None is =
        ap (λ (o : Option User). option_map credential o)
        (user_of-changed (given s.vault.users new drawn) (λ u. refl) user s.vault.users
        ∙ ap (λ (o : Option User). option_map (given s.vault.users new drawn) o) there)
    by_refusal (Some why) is = absurd (cc)

-- over a history
pub credential_along : (slots n : ℕ) (s : State) (events : List Event) → list_any (passes (renews n)) (history slots s events) ≡ false
    → credential_of (state_after slots s events) n ≡ credential_of s n
credential_along slots n s events none =
    along slots (λ (t : State). credential_of t n ≡ credential_of s n) (renews n)
    (λ t c moment drawn was not. credential_kept slots t moment drawn n c not ∙ was)
    (λ t boot books was. was) s events refl none
