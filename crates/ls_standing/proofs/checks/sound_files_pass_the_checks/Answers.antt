use Rattle.ls_standing.proofs.CheckLemmas.{alone, together}
use Rattle.ls_standing.proofs.SlotLemmas.{one_name}
use Rattle.ls_standing.proofs.checks.sound_files_pass_the_checks.Goals as goal

pub returns-clause-alone : goal.returns-clause-alone
returns-clause-alone c = alone

pub returns-clause-once : goal.returns-clause-once
returns-clause-once c = one_name

pub returns-clause-together : goal.returns-clause-together
returns-clause-together c = together
