use Rattle.std.proofs.Common.{◌<◌, ℕ}
use Rattle.ls_checker.specs.BareRows.{HasKeyAt, IsLeft}
use Rattle.ls_checker.proofs.bare_files.leaves_table.Given as goal

abbrev pub invariant-loop-at : goal.invariant-loop-at
invariant-loop-at l = (k : ℕ) → k < l.at → HasKeyAt (IsLeft l.start l.world) l.files k
