use Rattle.std.proofs.Common.{refl}
use Rattle.ls_promises.proofs.SoundCommands.{sound_step, sound_restart, sound_empty, sound_history, new_closed}
use Rattle.ls_script.specs.declared.command.Command.TheVariants as command
use Rattle.ls_vault.specs.Refusals.{refusal}
use Rattle.ls_promises.proofs.limits.limits_are_kept.Goals as goal

pub returns-clause-command : goal.returns-clause-command
returns-clause-command c = λ slots s command moment drawn sound. sound_step slots s command moment drawn sound

pub returns-clause-restart : goal.returns-clause-restart
returns-clause-restart c = λ slots s boot books sound. sound_restart slots s boot books sound

pub returns-clause-empty : goal.returns-clause-empty
returns-clause-empty c = λ slots s users arming opened captured pending. sound_empty slots s users arming opened captured pending

pub returns-clause-history : goal.returns-clause-history
returns-clause-history c = λ slots s events sound. sound_history slots s events sound

pub returns-clause-closed : goal.returns-clause-closed
returns-clause-closed c = λ slots s user escrow moment drawn sound fine. new_closed slots s user escrow moment drawn sound (refusal slots s (command.Add user escrow) moment) refl fine
