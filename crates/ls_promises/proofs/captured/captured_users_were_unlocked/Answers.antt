use Rattle.std.proofs.Common.{refl}
use Rattle.ls_promises.proofs.CapturedLemmas.{arm_spent, stranger_along, free_along, unarmed_along, prepared_stranger}
use Rattle.ls_script.specs.declared.command.Command.TheVariants as command
use Rattle.ls_vault.specs.Step.{step}
use Rattle.ls_promises.proofs.captured.captured_users_were_unlocked.Goals as goal

pub returns-clause-prepared : goal.returns-clause-prepared
returns-clause-prepared c = λ slots s moment drawn. refl

pub returns-clause-armed : goal.returns-clause-armed
returns-clause-armed c = λ slots s moment drawn fine. arm_spent slots s moment drawn fine

pub returns-clause-restarted : goal.returns-clause-restarted
returns-clause-restarted c = λ s boot books. refl

pub returns-clause-since : goal.returns-clause-since
returns-clause-since c = λ slots s events user free none. free_along slots user s events free none

pub returns-clause-unarmed : goal.returns-clause-unarmed
returns-clause-unarmed c = λ slots s events user free other none. let h = unarmed_along slots user s events (free, other) none in h.1

pub returns-clause-closed : goal.returns-clause-closed
returns-clause-closed c = λ slots s events user closed free other none.
    let h = stranger_along slots user s events (record { closed = closed; free = free; unarmed = other }) none in h.closed

pub returns-clause-behind_prepare : goal.returns-clause-behind_prepare
returns-clause-behind_prepare c = λ slots s moment drawn events user closed none.
    let h = stranger_along slots user (step slots s command.Prepare moment drawn).state events (prepared_stranger slots user s moment drawn closed) none in h.closed
