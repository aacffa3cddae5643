-- A credential is replaced: the machine's turn, by why it refuses.
use Rattle.std.proofs.Common.{◌≡◌, ℕ, List, drop, length, Option, refl}
use Rattle.ls_credential.specs.Rules.{KindAndText}
use Rattle.ls_script.specs.declared.command.Command.TheVariants as command
use Rattle.ls_script.specs.declared.reply.Refusal.{Refusal}
use Rattle.ls_tape.specs.Tape.{drawn}
use Rattle.ls_vault.specs.Credentials.{credential_changed}
use Rattle.ls_vault.specs.Drawn.{len_unless, effect_len}
use Rattle.ls_vault.specs.Refusals.{of_user, change_refusal}
use Rattle.ls_vault.specs.Script.{Stage}
use Rattle.ls_vault.specs.States.{fine}
use Rattle.ls_vault.specs.Step.{unless}
use Rattle.ls_vault.specs.Users.{user_of}
use Rattle.ls_turn.specs.Serving.{Turned, turned}

module _ (n : ℕ) (at : Stage) (user : ℕ) (c : KindAndText) where
  -- how many bytes are drawn
  abbrev pub draws : ℕ
  draws = effect_len n at.state (command.Change user c)

  abbrev pub bytes_for : Option Refusal → List ℕ
  bytes_for why = drawn at.noise (len_unless why draws)

  abbrev pub turn_of : Option Refusal → Turned
  turn_of why = record {
    reply = (unless why at.state (fine (credential_changed at.state user c (bytes_for why)))).reply;
    stage = record {
      state = (unless why at.state (fine (credential_changed at.state user c (bytes_for why)))).state;
      moments = at.moments;
      noise = drop (length (bytes_for why)) at.noise;
    };
  }

  -- why the machine refuses
  abbrev pub machine_refusal : Option Refusal
  machine_refusal = of_user (user_of at.state.vault.users user) (λ u. change_refusal n at.state user)

  pub turned_is : turned n (command.Change user c) at ≡ turn_of machine_refusal
  turned_is = refl
