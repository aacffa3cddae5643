use Rattle.std.proofs.Common.{◌≡◌, ◌≤◌, ◌+◌, ◌++◌, length, vec_len, vec_capacity}
use Rattle.ls_removals.specs.Going.{staying, leaving}
use Rattle.ls_removals.proofs.going.part.Given as goal

abbrev pub invariant-loop-one : goal.invariant-loop-one
invariant-loop-one l = record {
  stays : l.stays.items ++ staying l.going l.all.items ≡ staying l.fn.going l.fn.all.items;
  gone : l.gone.items ++ leaving l.going l.all.items ≡ leaving l.fn.going l.fn.all.items;
  stays_room : vec_len l.stays + length l.all.items ≤ vec_capacity l.stays;
  gone_room : vec_len l.gone + length l.all.items ≤ vec_capacity l.gone;
}

abbrev pub decreases-loop-one : goal.decreases-loop-one
decreases-loop-one l = vec_len l.all
