use Rattle.ls_sweep.proofs.NamedSlotLemmas.{slots_are_named}
use Rattle.ls_sweep.proofs.laws.the_slots_of_files_are_named.Goals as goal

pub returns : goal.returns
returns c = slots_are_named
