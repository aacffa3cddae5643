-- A refused command changes nothing.
use Rattle.std.proofs.Common.{◌≡◌, ℕ, false, List, Option, None, Some, refl}
use Rattle.std.specs.Prelude.{bytes_eq}
use Rattle.ls_script.specs.declared.command.Command.{Command}
use Rattle.ls_script.specs.declared.command.Command.TheVariants as command
use Rattle.ls_script.specs.declared.reply.Refusal.{Refusal}
use Rattle.ls_script.specs.declared.reply.Reply.TheVariants.{No}
use Rattle.ls_promises.proofs.Steps.{cond_both}
use Rattle.ls_promises.specs.Answers.{tells_of_a_change}
use Rattle.ls_vault.specs.Arming.{resumed, is_good}
use Rattle.ls_vault.specs.Effects.{effect}
use Rattle.ls_vault.specs.Refusals.{refusal}
use Rattle.ls_vault.specs.States.{on_user}
use Rattle.ls_vault.specs.Step.{unless, step}
use Rattle.ls_vault.specs.Users.{user_of}
use Rattle.ls_vault.specs.declared.state.Outcome.{Outcome}
use Rattle.ls_vault.specs.declared.state.State.{State}
use Rattle.ls_vault.specs.declared.user.User.{User}
use Rattle.ls_arming.specs.declared.arming.Arming.{Arming}

module _ (slots : ℕ) (s : State) (moment : ℕ) (drawn : List ℕ) where
  -- refused, it has the state
  abbrev Kept : Outcome → Type 0
  Kept o = (why : Refusal) → o.reply ≡ No why → tells_of_a_change why ≡ false → o.state ≡ s

  kept_user : (o : Option User) (act : User → Outcome) → ((u : User) → Kept (act u)) → Kept (on_user o s act)
  kept_user None act all = λ why is other. refl
  kept_user (Some u) act all = all u

  kept_resumed : (o : Option Arming) → Kept (resumed o s)
  kept_resumed None = λ why is other. refl
  kept_resumed (Some arming) = cond_both Kept (is_good arming.boot s.session.boot) _ _ (λ why is other. absurd (cc)) (λ why is other. absurd (cc))

  kept_effect : (c : Command) → Kept (effect slots s c moment drawn)
  kept_effect (command.Add user escrow) = λ why is other. absurd (cc)
  kept_effect (command.Drop user) = λ why is other. absurd (cc)
  kept_effect (command.Attempt user offered) = kept_user (user_of s.vault.users user) _
      (λ u. cond_both Kept (bytes_eq offered.text u.credential.text) _ _ (λ why is other. absurd (cc)) (λ why is other. absurd (cc)))
  kept_effect (command.Change user new) = λ why is other. absurd (cc)
  kept_effect (command.Lock user) = λ why is other. absurd (cc)
  kept_effect (command.Status user) = kept_user (user_of s.vault.users user) _ (λ u why is other. absurd (cc))
  kept_effect command.Users = λ why is other. absurd (cc)
  kept_effect (command.TokenAdd user bytes) = λ why is other. absurd (cc)
  kept_effect (command.Activate user) = λ why is other. absurd (cc)
  kept_effect (command.TokenDrop user id) = λ why is other. absurd (cc)
  kept_effect (command.TokenState user id) = λ why is other. absurd (cc)
  kept_effect (command.TokenAttempt user id offered) = kept_user (user_of s.vault.users user) _ (λ u why is other. absurd (cc))
  kept_effect (command.EscrowOff user) = λ why is other. absurd (cc)
  kept_effect command.Prepare = λ why is other. absurd (cc)
  kept_effect command.Arm = λ why is other. absurd (cc)
  kept_effect command.Resume = kept_resumed s.vault.arming
  kept_effect (command.AutoPin user on) = kept_user (user_of s.vault.users user) _ (λ u why is other. absurd (cc))
  kept_effect (command.PinLength user) = kept_user (user_of s.vault.users user) _ (λ u why is other. absurd (cc))

  kept_unless : (r : Option Refusal) (o : Outcome) → Kept o → Kept (unless r s o)
  kept_unless None o kept = kept
  kept_unless (Some why) o kept = λ w is other. refl

  pub refused_kept : (c : Command) → Kept (step slots s c moment drawn)
  refused_kept c = kept_unless (refusal slots s c moment) (effect slots s c moment drawn) (kept_effect c)
