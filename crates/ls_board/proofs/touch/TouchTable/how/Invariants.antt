use Rattle.std.proofs.Common.{◌≡◌, drop}
use Rattle.std.specs.FinMap.Entries.{find}
use Rattle.ls_board.specs.Order.{byte_cmp}
use Rattle.ls_board.proofs.touch.TouchTable.how.Given as goal

abbrev pub invariant-loop-row : goal.invariant-loop-row
invariant-loop-row l = find byte_cmp l.name (drop l.row-index l.row-items) ≡ find byte_cmp l.name l.row-items
