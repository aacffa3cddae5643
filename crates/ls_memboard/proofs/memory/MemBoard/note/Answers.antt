use Rattle.std.proofs.Common.{◌+◌, arith, ap, refl, ◌∙◌, ℕ, List, length, length-append}
use Rattle.std.specs.Prelude.{cond, ◌&&◌, ◌==◌}
use Rattle.ls_board.specs.declared.action.Part.{Part}
use Rattle.ls_board.specs.Images.{changing}
use Rattle.ls_memboard.specs.Beside.{bare, beside}
use Rattle.ls_memboard.specs.Calls.{call_of}
use Rattle.ls_memboard.specs.Failures.{has_none}
use Rattle.ls_memboard.specs.Replay.{after_call, fault_count, number_of}
use Rattle.ls_memboard.proofs.ReplayLemmas.{noted_world, noted_past}
use Rattle.ls_memboard.proofs.StepLemmas.{step_more, fault_more, not_failed}
use Rattle.ls_memboard.proofs.memory.MemBoard.note.Goals as goal

pub invariant_of-self : goal.invariant_of-self
invariant_of-self c =
    let s = c.args.self.now in
    let more = c.keep-kept.ensures.items in
    record {
      log_room = omega (arith, c.push_reserved.ensures.len, c.push_reserved.ensures.capacity, s.log_room, c.requires.actions);
      changes_room = omega (arith, c.keep_change.ensures.len, c.keep_change.ensures.capacity, s.changes_room, c.requires.actions);
      pool_room = omega (arith, ap length more.2, length-append s.pool.items more.0, more.1, s.pool_room, c.weight.ensures.bytes, c.requires.bytes, c.keep-kept.ensures.capacity, c.keep-kept.new.pool.ok, s.pool.ok);
      said_room = omega (arith, c.redo.ensures.longer, c.redo.ensures.capacity, c.keep-kept.ensures.bytes, s.said_room, c.weight.ensures.bytes, c.requires.bytes);
      record_room = omega (arith, c.redo.ensures.records, s.record_room, c.requires.actions);
      key_room = omega (arith, c.redo.ensures.keys, s.key_room, c.requires.actions);
      in_step = step_more s.start s.failures s.pool.items c.keep-kept.new.pool.items s.log.items c.push_reserved.new.self.items s.changes.items c.keep_change.new.changes.items s.devices c.redo.new.self _ c.args.a.now more.0 more.2
          c.push_reserved.ensures.items c.keep-kept.ensures.call s.in_step c.keep-kept.ensures.within c.keep_change.ensures.items
          (c.redo.ensures.done ∙ ap (λ (p : List ℕ). bare (after_call (beside s.devices) (call_of p c.keep-kept.result) c.args.whole c.args.count)) c.deref.ensures.value)
          c.requires.fits (not_failed c.args.failed (has_none s.failures) c.requires.listed);
    }

pub returns-clause-noted : goal.returns-clause-noted
returns-clause-noted c =
    let s = c.args.self.now in
    let more = c.keep-kept.ensures.items in
    record {
      told = refl;
      never_fails = refl;
      slots = refl;
      actions = omega (arith, c.requires.actions);
      bytes = omega (arith, c.weight.ensures.bytes, c.requires.bytes);
      world = noted_world s.pool.items c.keep-kept.new.pool.items s.start s.log.items c.push_reserved.new.self.items _ (changing c.args.a.now) more.0 more.2 c.push_reserved.ensures.items c.keep-kept.ensures.call s.in_step.within;
      past = noted_past s.pool.items c.keep-kept.new.pool.items s.start s.log.items c.push_reserved.new.self.items _ (changing c.args.a.now) more.0 more.2 c.push_reserved.ensures.items c.keep-kept.ensures.call s.in_step.within;
      faults = λ p. fault_more p s.log.items c.push_reserved.new.self.items _ c.push_reserved.ensures.items
          ∙ ap (λ (q : Part). fault_count p s.log.items + cond (c.args.failed && number_of q == number_of p) 1 0) c.part.ensures.part;
    }
