-- What the machine does of a command on a user that draws nothing and takes no moment.
use Rattle.std.proofs.Common.{◌≡◌, Option, None, Some, ◌∙◌, ap, length, drop}
use Rattle.ls_script.specs.declared.reply.Reply.TheVariants.{No}
use Rattle.ls_script.specs.declared.reply.Refusal.TheVariants.{NoUser}
use Rattle.ls_tape.specs.Tape.{drawn}
use Rattle.ls_vault.specs.declared.user.User.{User}
use Rattle.ls_vault.specs.declared.state.Outcome.{Outcome}
use Rattle.ls_vault.specs.Drawn.{len_unless}
use Rattle.ls_vault.specs.Refusals.{of_user}
use Rattle.ls_vault.specs.Script.{Stage}
use Rattle.ls_vault.specs.Step.{unless}
use Rattle.ls_turn.specs.Serving.{Turned}

-- by the user that is found; nothing refuses it but that there is none
abbrev pub turned_by : Stage → (Option User → Outcome) → Option User → Turned
turned_by at act found = record {
  reply = (unless (of_user found (λ u. None)) at.state (act found)).reply;
  stage = record {
    state = (unless (of_user found (λ u. None)) at.state (act found)).state;
    moments = at.moments;
    noise = drop (length (drawn at.noise (len_unless (of_user found (λ u. None)) 0))) at.noise;
  };
}

module _ (at : Stage) (act : Option User → Outcome) (found : Option User) where
  pub turned_nobody : found ≡ None → turned_by at act found ≡ record { reply = No NoUser; stage = at }
  turned_nobody none = ap (turned_by at act) none

  pub turned_user : (u : User) → found ≡ Some u → (o : Outcome) → act (Some u) ≡ o
      → turned_by at act found ≡ record { reply = o.reply; stage = record at { state = o.state } }
  turned_user u some o is =
      ap (turned_by at act) some
      ∙ ap (λ (p : Outcome). record { reply = p.reply; stage = record at { state = p.state } }) is
