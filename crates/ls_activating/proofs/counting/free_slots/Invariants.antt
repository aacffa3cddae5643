use Rattle.std.proofs.Common.{◌≡◌, ◌-◌, drop}
use Rattle.ls_turn.specs.Refusing.{used_by}
use Rattle.ls_activating.proofs.counting.free_slots.Given as goal

abbrev pub invariant-loop-row : goal.invariant-loop-row
invariant-loop-row l = l.free - used_by (drop l.row-index l.rows) ≡ l.slots - used_by l.rows
