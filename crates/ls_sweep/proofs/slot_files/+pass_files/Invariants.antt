use Rattle.std.proofs.Common.{length}
use Rattle.ls_sweep.proofs.slot_files.+pass_files.Given as goal

abbrev pub decreases-pass_files : goal.decreases-pass_files
decreases-pass_files g l = length l.names.now
