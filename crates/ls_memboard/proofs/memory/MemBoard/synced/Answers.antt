use Rattle.std.proofs.Common.{◌≡◌, arith, ap, ◌∙◌, None, List, take}
use Rattle.std.proofs.lemmas.List.{take_all}
use Rattle.ls_memboard.specs.declared.call.Entry.{Entry}
use Rattle.ls_memboard.specs.Synced.{synced_of}
use Rattle.ls_memboard.proofs.RebuildLemmas.{files_redone, sync_redone}
use Rattle.ls_memboard.proofs.memory.MemBoard.synced.Goals as goal

pub loop-e-preserved : goal.loop-e-preserved
loop-e-preserved c =
    let s = c.args.self.now in
    let log = take c.args.calls c.deref.result.now in
    let world = files_redone s.pool.items s.start log c.loop-e.e-index _ c.loop-e-test.true c.deref-in-loop-e.result.now c.loop-e.world c.redo.new.world c.deref-in-loop-e.ensures.value c.loop-e.invariant.0 c.in_ok-redo.ensures.done in
    (world, sync_redone s.pool.items s.start log c.loop-e.e-index _ c.loop-e-test.true c.deref-in-loop-e-2.result.now c.loop-e.synced c.note_sync.new.synced c.redo.new.world c.deref-in-loop-e-2.ensures.value world c.loop-e.invariant.1 c.in_ok-note_sync.ensures.kept)

pub returns : goal.returns
returns c =
    let s = c.args.self.now in
    let all : take c.loop-e.e-index (take c.args.calls c.deref.result.now) ≡ take c.args.calls s.log.items =
    take_all c.loop-e.e-index (take c.args.calls c.deref.result.now) (omega (arith, c.loop-e-test.false)) ∙ ap (take c.args.calls) c.deref.ensures.value in
    record { files = c.loop-e.invariant.1 ∙ ap (λ (log : List Entry). synced_of s.pool.items s.start None log) all }
