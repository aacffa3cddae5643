use Rattle.ls_lines.proofs.PartingLemmas.{parted_joined, parted_unended, parted_only, parted_count}
use Rattle.ls_lines.proofs.laws.scripts_are_parted.Goals as goal

pub returns-clause-joined : goal.returns-clause-joined
returns-clause-joined c = parted_joined

pub returns-clause-unended : goal.returns-clause-unended
returns-clause-unended c = parted_unended

pub returns-clause-only : goal.returns-clause-only
returns-clause-only c = parted_only

pub returns-clause-count : goal.returns-clause-count
returns-clause-count c = parted_count
