use Rattle.std.proofs.Common.{arith, ap, ℕ, List}
use Rattle.ls_board.specs.declared.touch.Touch.{Touch}
use Rattle.ls_memboard.specs.Cuts.{held}
use Rattle.ls_memboard.proofs.CutLemmas.{picked_more, picked_all}
use Rattle.ls_memboard.proofs.cut.picked_files.Goals as goal

pub loop-at-preserved : goal.loop-at-preserved
loop-at-preserved c =
    picked_more (held c.args.synced.now c.args.start.now) c.args.world.now c.loop-at.files c.loop-at.picker c.args.world.now.touched c.loop-at.at _ c.loop-at.invariant
    c.set_file.new.files c.choose.new.self c.in-Some.row.now c.row.inside.name c.in_ok-content.content c.in-Some.ensures.found c.in_ok-content.ensures.chosen
    (ap (λ (r : List ℕ × Touch). r.0) c.row.view_is) c.in_ok-set_file.ensures.set

pub returns : goal.returns
returns c = record {
  files = picked_all (held c.args.synced.now c.args.start.now) c.args.world.now c.loop-at.files c.loop-at.picker c.args.world.now.touched c.loop-at.at _ c.loop-at.invariant (omega (arith, c.loop-at-test.false, c.len-at-end.ensures.count));
}
