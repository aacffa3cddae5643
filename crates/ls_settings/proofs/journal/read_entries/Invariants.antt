use Rattle.std.proofs.Common.{◌-◌, length}
use Rattle.ls_settings.proofs.EntriesLemmas.{IsSoFar}
use Rattle.ls_settings.proofs.journal.read_entries.Given as goal

abbrev pub invariant-entries : goal.invariant-entries
invariant-entries l = IsSoFar l.file l.fn.start l.walk

abbrev pub decreases-entries : goal.decreases-entries
decreases-entries l = length l.file - l.walk.at
