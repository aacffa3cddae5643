-- A user is added: the machine's turn, by why it refuses.
use Rattle.std.proofs.Common.{◌≡◌, ℕ, Bool, List, drop, length, Option, refl}
use Rattle.ls_script.specs.declared.command.Command.TheVariants as command
use Rattle.ls_script.specs.declared.reply.Refusal.{Refusal}
use Rattle.ls_tape.specs.Tape.{drawn}
use Rattle.ls_vault.specs.Drawn.{len_unless, effect_len}
use Rattle.ls_vault.specs.Refusals.{add_refusal}
use Rattle.ls_vault.specs.Script.{Stage}
use Rattle.ls_vault.specs.States.{fine}
use Rattle.ls_vault.specs.Step.{unless}
use Rattle.ls_vault.specs.UserChanges.{added}
use Rattle.ls_turn.specs.Serving.{Turned, turned}

module _ (n : ℕ) (at : Stage) (user : ℕ) (escrow : Bool) where
  -- how many bytes are drawn
  abbrev pub draws : ℕ
  draws = effect_len n at.state (command.Add user escrow)

  abbrev pub bytes_for : Option Refusal → List ℕ
  bytes_for why = drawn at.noise (len_unless why draws)

  abbrev pub turn_of : Option Refusal → Turned
  turn_of why = record {
    reply = (unless why at.state (fine (added at.state user escrow (bytes_for why)))).reply;
    stage = record {
      state = (unless why at.state (fine (added at.state user escrow (bytes_for why)))).state;
      moments = at.moments;
      noise = drop (length (bytes_for why)) at.noise;
    };
  }

  pub turned_is : turned n (command.Add user escrow) at ≡ turn_of (add_refusal n at.state user)
  turned_is = refl
