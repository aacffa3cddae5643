use Rattle.ls_standing.proofs.BareLemmas.{bare_settings, bare_done, bare_plan}
use Rattle.ls_standing.proofs.bare.what_keeps_a_world_bare.Goals as goal

pub returns-clause-settings : goal.returns-clause-settings
returns-clause-settings c = λ start w mid r retired is bare. bare_settings start w r retired is bare mid

pub returns-clause-done : goal.returns-clause-done
returns-clause-done c = λ start w r retired a count is bare. bare_done start w r retired is bare a count

pub returns-clause-plan : goal.returns-clause-plan
returns-clause-plan c = bare_plan
