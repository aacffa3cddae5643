-- What a step leaves of the users, case by case.
use Rattle.std.proofs.Common.{◌≡◌, ℕ, Bool, true, false, cond, List, Option, None, Some, refl, [], ◌∷◌}
use Rattle.std.specs.Prelude.{◌==◌, nat_lt, length, map, take, bytes_eq}
use Rattle.ls_script.specs.declared.command.Command.{Command}
use Rattle.ls_script.specs.declared.command.Command.TheVariants as command
use Rattle.ls_script.specs.declared.reply.Refusal.{Refusal}
use Rattle.ls_vault.specs.Arming.{unarmed, resumed, is_good, taken}
use Rattle.ls_vault.specs.Credentials.{given}
use Rattle.ls_vault.specs.Effects.{effect, auto_set}
use Rattle.ls_vault.specs.Limits.{is_worn, activated_count}
use Rattle.ls_vault.specs.Refusals.{refusal, differs}
use Rattle.ls_vault.specs.States.{on_user, committed_if, committed}
use Rattle.ls_vault.specs.Step.{unless, step}
use Rattle.ls_vault.specs.TokenChanges.{with_tokens, without_its, plain}
use Rattle.ls_vault.specs.Tokens.{pending_of, activated, is_active}
use Rattle.ls_vault.specs.Unlocking.{cleared, failed, attempted, token_attempted}
use Rattle.ls_vault.specs.UserChanges.{new_user}
use Rattle.ls_vault.specs.Users.{user_of, changed, with_user, without_user}
use Rattle.ls_vault.specs.declared.state.Outcome.{Outcome}
use Rattle.ls_vault.specs.declared.state.State.{State}
use Rattle.ls_vault.specs.declared.user.User.{User}
use Rattle.ls_arming.specs.declared.arming.Arming.{Arming}
use Rattle.ls_arming.specs.Disarming.{arming_of}

-- either of two
pub cond_both : {A : Type 0} (P : A → Type 0) (b : Bool) (x y : A) → P x → P y → P (cond b x y)
cond_both P true x y p q = p
cond_both P false x y p q = q

-- what holds of none, and of an arming of these users, holds of what is armed of them
pub arming_both : (P : Option Arming → Type 0) (boot : ℕ) (users : List ℕ) → P None → P (Some (record { boot = boot; users = users })) → P (arming_of boot users)
arming_both P boot [] none some = none
arming_both P boot (u ∷ users) none some = some

-- the user with this flag
abbrev pub with_auto : Bool → User → User
with_auto on u = record u { auto = on }

-- what holds of a state
module _ (P : State → Type 0) where
  pub at_unless : (r : Option Refusal) (s : State) (o : Outcome) → P s → (r ≡ None → P o.state) → P (unless r s o).state
  at_unless None s o p q = q refl
  at_unless (Some why) s o p q = p

  pub at_user : (o : Option User) (s : State) (act : User → Outcome) → P s → ((u : User) → o ≡ Some u → P (act u).state) → P (on_user o s act).state
  at_user None s act p q = p
  at_user (Some u) s act p q = q u refl

  pub at_committed_if : (b : Bool) (s : State) → P s → P (committed s) → P (committed_if b s)
  at_committed_if b s p q = cond_both P b (committed s) s q p

-- what holds of users
module _ (P : List User → Type 0) where
  abbrev Of : State → Type 0
  Of t = P t.vault.users

  pub at_unarmed : (o : Option Arming) (s : State) → P s.vault.users → P (unarmed o s).vault.users
  at_unarmed None s p = cond_both Of (length s.books.dead == 0) _ _ p (cond_both Of (is_worn s) _ _ p p)
  at_unarmed (Some arming) s p = cond_both Of (is_worn s) _ _ p p

  at_taken : (s : State) (users : List ℕ) → P s.vault.users → P (taken s users).vault.users
  at_taken s users p = cond_both Of (is_worn s) _ _ p p

  pub at_resumed : (o : Option Arming) (s : State) → P s.vault.users → P (resumed o s).state.vault.users
  at_resumed None s p = p
  at_resumed (Some arming) s p =
      cond_both (λ (out : Outcome). P out.state.vault.users) (is_good arming.boot s.session.boot) _ _ (at_taken s arming.users p) (at_taken s arming.users p)

  -- what it asks for to hold after a command too
  module _ (slots : ℕ) (s : State) (moment : ℕ) (drawn : List ℕ) where
    abbrev pub Moved : Command → Type 0
    Moved (command.Add user escrow) = P (with_user s.vault.users (new_user user escrow drawn))
    Moved (command.Drop user) = P (without_user s.vault.users user)
    Moved (command.Attempt user offered) = P (changed s.vault.users user cleared) × P (changed s.vault.users user (failed moment))
    Moved (command.Change user new) = P (changed s.vault.users user (given s.vault.users new drawn))
    Moved (command.Activate user) =
        P (changed s.vault.users user (with_tokens (map activated (take (activated_count slots s user) (pending_of s.session.pending user)))))
    Moved (command.TokenDrop user id) = P (changed s.vault.users user (without_its id))
    Moved (command.EscrowOff user) = P (changed s.vault.users user plain)
    Moved (command.AutoPin user on) = P (changed s.vault.users user (with_auto on))
    Moved _ = Unit {0}

    at_effect : (c : Command) → P s.vault.users → Moved c → P (effect slots s c moment drawn).state.vault.users
    at_effect (command.Add user escrow) p q = q
    at_effect (command.Drop user) p q = q
    at_effect (command.Attempt user offered) p q =
        at_user Of (user_of s.vault.users user) s (attempted s user offered moment) p
        (λ u found. cond_both (λ (o : Outcome). P o.state.vault.users) (bytes_eq offered.text u.credential.text) _ _ q.0 q.1)
    at_effect (command.Change user new) p q = q
    at_effect (command.Lock user) p q = p
    at_effect (command.Status user) p q = at_user Of (user_of s.vault.users user) s _ p (λ u found. p)
    at_effect command.Users p q = p
    at_effect (command.TokenAdd user bytes) p q = p
    at_effect (command.Activate user) p q = at_committed_if Of (nat_lt 0 (activated_count slots s user)) _ q q
    at_effect (command.TokenDrop user id) p q = at_committed_if Of (is_active s user id) _ q q
    at_effect (command.TokenState user id) p q = p
    at_effect (command.TokenAttempt user id offered) p q = at_user Of (user_of s.vault.users user) s (token_attempted s user) p (λ u found. p)
    at_effect (command.EscrowOff user) p q = q
    at_effect command.Prepare p q = at_unarmed s.vault.arming s p
    at_effect command.Arm p q = p
    at_effect command.Resume p q = at_resumed s.vault.arming s p
    at_effect (command.AutoPin user on) p q =
        at_user Of (user_of s.vault.users user) s (λ u. record { reply = _; state = auto_set s user on u }) p
        (λ u found. at_committed_if Of (differs u.auto on) _ q q)
    at_effect (command.PinLength user) p q = at_user Of (user_of s.vault.users user) s _ p (λ u found. p)

    -- the need stands only where the command isn't refused
    pub at_accepted : (c : Command) → P s.vault.users → (refusal slots s c moment ≡ None → Moved c) → P (step slots s c moment drawn).state.vault.users
    at_accepted c p q = at_unless Of (refusal slots s c moment) s (effect slots s c moment drawn) p (λ accepted. at_effect c p (q accepted))

    pub at_step : (c : Command) → P s.vault.users → Moved c → P (step slots s c moment drawn).state.vault.users
    at_step c p q = at_accepted c p (λ accepted. q)
