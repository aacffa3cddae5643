use Rattle.std.proofs.Common.{◌≡◌, drop}
use Rattle.std.specs.Ordering.{nat_cmp}
use Rattle.std.specs.FinMap.Entries.{find}
use Rattle.ls_board.proofs.ids.IdTable.find.Given as goal

abbrev pub invariant-loop-row : goal.invariant-loop-row
invariant-loop-row g l = find nat_cmp l.id (drop l.row-index l.row-items) ≡ find nat_cmp l.id l.row-items
