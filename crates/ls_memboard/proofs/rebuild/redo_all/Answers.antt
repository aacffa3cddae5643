use Rattle.std.proofs.Common.{◌≡◌, arith, ap, refl, ◌∙◌, List, take}
use Rattle.std.proofs.lemmas.List.{take_all}
use Rattle.ls_memboard.specs.declared.call.Entry.{Entry}
use Rattle.ls_memboard.specs.Beside.{bare, with_files_of}
use Rattle.ls_memboard.specs.Replay.{replay}
use Rattle.ls_memboard.proofs.RebuildLemmas.{files_redone, devices_redone}
use Rattle.ls_memboard.proofs.rebuild.redo_all.Goals as goal

pub loop-e-init : goal.loop-e-init
loop-e-init c = (refl, c.requires.begins)

pub loop-e-preserved : goal.loop-e-preserved
loop-e-preserved c =
    let pool = c.args.pool.now in
    let start = c.args.world.now in
    let log = c.args.log.now in (
      files_redone pool start log c.loop-e.e-index _ c.loop-e-test.true pool c.loop-e.world _ refl c.loop-e.invariant.0 c.in_ok-redo.ensures.done,
      devices_redone pool start log c.loop-e.e-index _ c.loop-e-test.true pool c.loop-e.devices c.make_room.new.self c.redo-in-loop-e.new.self refl c.loop-e.invariant.1 c.in_ok-make_room.ensures.same c.redo-in-loop-e.ensures.done,
    )

pub returns : goal.returns
returns c =
    let pool = c.args.pool.now in
    let start = c.args.world.now in
    let all : take c.loop-e.e-index c.args.log.now ≡ c.args.log.now = take_all c.loop-e.e-index c.args.log.now (omega (arith, c.loop-e-test.false)) in
    record {
      files = c.loop-e.invariant.0 ∙ ap (λ (log : List Entry). with_files_of start (replay pool start log)) all;
      devices = c.loop-e.invariant.1 ∙ ap (λ (log : List Entry). bare (replay pool start log)) all;
    }
