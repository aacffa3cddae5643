-- What is seen of a board in memory.
use Rattle.std.specs.Prelude.{true, List, [], length}
use Rattle.ls_board.specs.declared.world.World.{World}
use Rattle.ls_board.specs.Acts.{Sight}
use Rattle.ls_memboard.specs.declared.memory.MemBoard.{MemBoard}
use Rattle.ls_memboard.specs.declared.failure.Failure.{Failure}
use Rattle.ls_memboard.specs.Failures.{has_none}
use Rattle.ls_memboard.specs.Replay.{replay, past_from, fault_count}

-- the calls that it fails
abbrev pub failures_of : MemBoard → List Failure
failures_of m = m.failures

-- It tells all. The start and the calls done give the world and the past.
abbrev pub sight_of : MemBoard → Sight
sight_of m = record {
  told = true;
  world = replay m.pool.items m.start m.log.items;
  past = past_from m.pool.items m.start m.log.items [];
  faults = λ p. fault_count p m.log.items;
  never_fails = has_none m.failures;
  actions = m.actions;
  bytes = m.bytes;
  slots = length m.start.slots;
}

-- a board that was begun on this world, and fails these calls
abbrev pub fresh : World → List Failure → Sight
fresh world failures = record {
  told = true;
  world = world;
  past = [];
  faults = λ p. 0;
  never_fails = has_none failures;
  actions = 0;
  bytes = 0;
  slots = length world.slots;
}
