-- What the machine does where the length of a PIN is to be shown or hidden.
use Rattle.std.proofs.Common.{◌≡◌, ℕ, Bool, true, false, cond, not, Option, None, Some, ◌∙◌, ap, length, drop}
use Rattle.ls_script.specs.declared.command.Command.TheVariants as command
use Rattle.ls_script.specs.declared.reply.Reply.TheVariants.{Fine, No}
use Rattle.ls_script.specs.declared.reply.Refusal.{Refusal}
use Rattle.ls_script.specs.declared.reply.Refusal.TheVariants.{NoUser, Locked, Worn}
use Rattle.ls_tape.specs.Tape.{drawn}
use Rattle.ls_vault.specs.declared.state.Outcome.{Outcome}
use Rattle.ls_vault.specs.declared.state.State.{State}
use Rattle.ls_vault.specs.declared.user.User.{User}
use Rattle.ls_vault.specs.Drawn.{len_unless}
use Rattle.ls_vault.specs.Effects.{auto_set}
use Rattle.ls_vault.specs.Limits.{is_worn}
use Rattle.ls_vault.specs.Refusals.{of_user, auto_pin_refusal, differs, is_opened}
use Rattle.ls_vault.specs.Script.{Stage}
use Rattle.ls_vault.specs.States.{fine, on_user, committed, with_users}
use Rattle.ls_vault.specs.Step.{unless}
use Rattle.ls_vault.specs.Users.{user_of, changed}
use Rattle.ls_turn.specs.Serving.{Turned, turned}

module _ (n : ℕ) (at : Stage) (user : ℕ) (on : Bool) where
  -- the state with the flag, and nothing kept
  abbrev pub flagged : State
  flagged = with_users at.state (changed at.state.vault.users user (λ v. record v { auto = on }))

  abbrev turn_of : Option Refusal → Outcome → Turned
  turn_of why out = record {
    reply = (unless why at.state out).reply;
    stage = record {
      state = (unless why at.state out).state;
      moments = at.moments;
      noise = drop (length (drawn at.noise (len_unless why 0))) at.noise;
    };
  }

  abbrev turn_by : Option User → Turned
  turn_by o = turn_of (of_user o (auto_pin_refusal at.state user on)) (on_user o at.state (λ u. fine (auto_set at.state user on u)))

  pub auto_nobody : user_of at.state.vault.users user ≡ None → turned n (command.AutoPin user on) at ≡ record { reply = No NoUser; stage = at }
  auto_nobody none = ap turn_by none

  module _ (u : User) (found : user_of at.state.vault.users user ≡ Some u) where
    -- by whether the user is opened, the flag is another, and nothing can be kept
    abbrev auto_with : Bool → Bool → Bool → Turned
    auto_with o d w = turn_of (cond (not o) (Some Locked) (cond d (cond w (Some Worn) None) None)) (fine (cond d (committed flagged) flagged))

    pub auto_locked : is_opened at.state user ≡ false → turned n (command.AutoPin user on) at ≡ record { reply = No Locked; stage = at }
    auto_locked closed = ap turn_by found ∙ ap (λ (o : Bool). auto_with o (differs u.auto on) (is_worn at.state)) closed

    module _ (opened : is_opened at.state user ≡ true) where
      first : turned n (command.AutoPin user on) at ≡ auto_with true (differs u.auto on) (is_worn at.state)
      first = ap turn_by found ∙ ap (λ (o : Bool). auto_with o (differs u.auto on) (is_worn at.state)) opened

      pub auto_same : differs u.auto on ≡ false → turned n (command.AutoPin user on) at ≡ record { reply = Fine; stage = record at { state = flagged } }
      auto_same same = first ∙ ap (λ (d : Bool). auto_with true d (is_worn at.state)) same

      pub auto_worn : differs u.auto on ≡ true → is_worn at.state ≡ true → turned n (command.AutoPin user on) at ≡ record { reply = No Worn; stage = at }
      auto_worn other worn = first ∙ (ap (λ (d : Bool). auto_with true d (is_worn at.state)) other ∙ ap (λ (w : Bool). auto_with true true w) worn)

      pub auto_kept : differs u.auto on ≡ true → is_worn at.state ≡ false → turned n (command.AutoPin user on) at ≡ record { reply = Fine; stage = record at { state = committed flagged } }
      auto_kept other fresh = first ∙ (ap (λ (d : Bool). auto_with true d (is_worn at.state)) other ∙ ap (λ (w : Bool). auto_with true true w) fresh)
