use Rattle.std.proofs.Common.{◌≡◌, None, take}
use Rattle.ls_memboard.specs.Beside.{with_files_of}
use Rattle.ls_memboard.specs.Replay.{replay}
use Rattle.ls_memboard.specs.Synced.{synced_of}
use Rattle.ls_memboard.proofs.memory.MemBoard.synced.Given as goal

abbrev pub invariant-loop-e : goal.invariant-loop-e
invariant-loop-e l =
    (l.world ≡ with_files_of l.self.start (replay l.self.pool.items l.self.start (take l.e-index l.e-items)))
    × (l.synced ≡ synced_of l.self.pool.items l.self.start None (take l.e-index l.e-items))
