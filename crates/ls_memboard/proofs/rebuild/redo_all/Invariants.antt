use Rattle.std.proofs.Common.{◌≡◌, take}
use Rattle.ls_memboard.specs.Beside.{bare, beside, with_files_of}
use Rattle.ls_memboard.specs.Replay.{replay}
use Rattle.ls_memboard.proofs.rebuild.redo_all.Given as goal

abbrev pub invariant-loop-e : goal.invariant-loop-e
invariant-loop-e l =
    (l.world ≡ with_files_of l.fn.world (replay l.pool l.fn.world (take l.e-index l.log)))
    × (beside l.devices ≡ bare (replay l.pool l.fn.world (take l.e-index l.log)))
