use Rattle.std.proofs.Common.{length}
use Rattle.ls_formats.proofs.field.+row_fault.Given as goal

abbrev pub decreases-row_fault : goal.decreases-row_fault
decreases-row_fault l = length l.fields.now
