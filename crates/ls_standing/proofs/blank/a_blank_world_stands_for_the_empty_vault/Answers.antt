use Rattle.ls_standing.proofs.BlankLemmas.{blank_stands, blank_only, blank_bare}
use Rattle.ls_standing.proofs.blank.a_blank_world_stands_for_the_empty_vault.Goals as goal

pub returns-clause-stands : goal.returns-clause-stands
returns-clause-stands c = blank_stands

pub returns-clause-only : goal.returns-clause-only
returns-clause-only c = blank_only

pub returns-clause-bare : goal.returns-clause-bare
returns-clause-bare c = blank_bare
