use Rattle.std.proofs.Common.{length}
use Rattle.ls_formats.proofs.name_fault.+text_fault.Given as goal

abbrev pub decreases-text_fault : goal.decreases-text_fault
decreases-text_fault l = length l.text.now
