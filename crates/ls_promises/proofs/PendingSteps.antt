-- What a step leaves of the pending tokens, case by case.
use Rattle.std.proofs.Common.{◌≡◌, ℕ, List, [], ◌∷◌, ◌++◌, Option, None, Some}
use Rattle.std.specs.Prelude.{◌==◌, nat_lt, length, bytes_eq}
use Rattle.ls_promises.proofs.Steps.{cond_both, at_unless, at_user, at_committed_if}
use Rattle.ls_script.specs.declared.command.Command.{Command}
use Rattle.ls_script.specs.declared.command.Command.TheVariants as command
use Rattle.ls_vault.specs.Arming.{unarmed, resumed, is_good, taken}
use Rattle.ls_vault.specs.Effects.{effect}
use Rattle.ls_vault.specs.Fresh.{fresh, drawn_number}
use Rattle.ls_vault.specs.Limits.{is_worn, activated_count}
use Rattle.ls_vault.specs.Refusals.{refusal, differs}
use Rattle.ls_vault.specs.Step.{step}
use Rattle.ls_vault.specs.Tokens.{pending_of_others, without_pending, without_first, is_active, token_ids}
use Rattle.ls_vault.specs.Unlocking.{attempted, token_attempted}
use Rattle.ls_vault.specs.Users.{user_of}
use Rattle.ls_vault.specs.declared.state.Outcome.{Outcome}
use Rattle.ls_vault.specs.declared.state.State.{State}
use Rattle.ls_vault.specs.declared.token.PendingToken.{PendingToken}
use Rattle.ls_arming.specs.declared.arming.Arming.{Arming}

module _ (P : List PendingToken → Type 0) where
  abbrev Of : State → Type 0
  Of t = P t.session.pending

  at_unarmed : (o : Option Arming) (s : State) → P s.session.pending → P (unarmed o s).session.pending
  at_unarmed None s p = cond_both Of (length s.books.dead == 0) _ _ p (cond_both Of (is_worn s) _ _ p p)
  at_unarmed (Some arming) s p = cond_both Of (is_worn s) _ _ p p

  at_taken : (s : State) (users : List ℕ) → P s.session.pending → P (taken s users).session.pending
  at_taken s users p = cond_both Of (is_worn s) _ _ p p

  at_resumed : (o : Option Arming) (s : State) → P s.session.pending → P (resumed o s).state.session.pending
  at_resumed None s p = p
  at_resumed (Some arming) s p =
      cond_both (λ (out : Outcome). P out.state.session.pending) (is_good arming.boot s.session.boot) _ _ (at_taken s arming.users p) (at_taken s arming.users p)

  -- what it asks for to hold after a command too
  module _ (slots : ℕ) (s : State) (moment : ℕ) (drawn : List ℕ) where
    abbrev pub Pends : Command → Type 0
    Pends (command.Drop user) = P (pending_of_others s.session.pending user)
    Pends (command.TokenAdd user bytes) =
        P (s.session.pending ++ record { user = user; id = fresh (drawn_number drawn) (token_ids s); bytes = bytes } ∷ [])
    Pends (command.Activate user) = P (without_first (activated_count slots s user) s.session.pending user)
    Pends (command.TokenDrop user id) = P (without_pending s.session.pending user id)
    Pends (command.EscrowOff user) = P (pending_of_others s.session.pending user)
    Pends _ = Unit {0}

    at_effect : (c : Command) → P s.session.pending → Pends c → P (effect slots s c moment drawn).state.session.pending
    at_effect (command.Add user escrow) p q = p
    at_effect (command.Drop user) p q = q
    at_effect (command.Attempt user offered) p q =
        at_user Of (user_of s.vault.users user) s (attempted s user offered moment) p
        (λ u found. cond_both (λ (o : Outcome). P o.state.session.pending) (bytes_eq offered.text u.credential.text) _ _ p p)
    at_effect (command.Change user new) p q = p
    at_effect (command.Lock user) p q = p
    at_effect (command.Status user) p q = at_user Of (user_of s.vault.users user) s _ p (λ u found. p)
    at_effect command.Users p q = p
    at_effect (command.TokenAdd user bytes) p q = q
    at_effect (command.Activate user) p q = at_committed_if Of (nat_lt 0 (activated_count slots s user)) _ q q
    at_effect (command.TokenDrop user id) p q = at_committed_if Of (is_active s user id) _ q q
    at_effect (command.TokenState user id) p q = p
    at_effect (command.TokenAttempt user id offered) p q = at_user Of (user_of s.vault.users user) s (token_attempted s user) p (λ u found. p)
    at_effect (command.EscrowOff user) p q = q
    at_effect command.Prepare p q = at_unarmed s.vault.arming s p
    at_effect command.Arm p q = p
    at_effect command.Resume p q = at_resumed s.vault.arming s p
    at_effect (command.AutoPin user on) p q = at_user Of (user_of s.vault.users user) s _ p (λ u found. at_committed_if Of (differs u.auto on) _ p p)
    at_effect (command.PinLength user) p q = at_user Of (user_of s.vault.users user) s _ p (λ u found. p)

    -- the need stands only where the command isn't refused
    pub at_pending : (c : Command) → P s.session.pending → (refusal slots s c moment ≡ None → Pends c) → P (step slots s c moment drawn).state.session.pending
    at_pending c p q = at_unless Of (refusal slots s c moment) s (effect slots s c moment drawn) p (λ accepted. at_effect c p (q accepted))
