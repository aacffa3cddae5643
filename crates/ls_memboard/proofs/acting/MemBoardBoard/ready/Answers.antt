use Rattle.std.proofs.Common.{arith}
use Rattle.ls_memboard.proofs.StepLemmas.{step_same}
use Rattle.ls_memboard.proofs.acting.MemBoardBoard.ready.Goals as goal

pub invariant_of-self-in-Break-branch-4 : goal.invariant_of-self-in-Break-branch-4
invariant_of-self-in-Break-branch-4 c =
    let s = c.args.self.now in
    record {
      log_room = omega (arith, c.grow.ensures.len, c.grow.ensures.capacity, s.log_room);
      changes_room = omega (arith, c.grow-2.ensures.len, c.grow-2.ensures.capacity, s.changes_room);
      pool_room = omega (arith, c.grow-3.ensures.len, c.grow-3.ensures.capacity, s.pool_room);
      said_room = omega (arith, c.make_room.ensures.said, c.make_room.ensures.capacity, s.said_room);
      record_room = omega (arith, c.make_room.ensures.records, s.record_room);
      key_room = omega (arith, c.make_room.ensures.keys, s.key_room);
      in_step = step_same s.start s.failures s.pool.items c.grow-3.new.items.items s.log.items c.grow.new.items.items s.changes.items c.grow-2.new.items.items s.devices c.make_room.new.self
          c.grow-3.ensures.items c.grow.ensures.items c.grow-2.ensures.items c.make_room.ensures.same s.in_step;
    }

pub invariant_of-self-2 : goal.invariant_of-self-2
invariant_of-self-2 c =
    let s = c.args.self.now in
    record {
      log_room = omega (arith, c.in_ok-grow.ensures.enough);
      changes_room = omega (arith, c.in_ok-grow-2.ensures.enough);
      pool_room = omega (arith, c.in_ok-grow-3.ensures.enough);
      said_room = omega (arith, c.in_ok-make_room.ensures.room.2);
      record_room = omega (arith, c.in_ok-make_room.ensures.room.0);
      key_room = omega (arith, c.in_ok-make_room.ensures.room.1);
      in_step = step_same s.start s.failures s.pool.items c.grow-3.new.items.items s.log.items c.grow.new.items.items s.changes.items c.grow-2.new.items.items s.devices c.make_room.new.self
          c.grow-3.ensures.items c.grow.ensures.items c.grow-2.ensures.items c.make_room.ensures.same s.in_step;
    }
