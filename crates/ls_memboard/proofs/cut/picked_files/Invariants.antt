use Rattle.std.proofs.Common.{◌≡◌, drop}
use Rattle.ls_memboard.specs.Cuts.{held, contents, with_contents}
use Rattle.ls_memboard.proofs.cut.picked_files.Given as goal

abbrev pub invariant-loop-at : goal.invariant-loop-at
invariant-loop-at l =
    with_contents l.files (contents (held l.synced l.start) l.world l.picker (drop l.at l.world.touched))
    ≡ with_contents l.world.files (contents (held l.synced l.start) l.world l.initial.picker l.world.touched)
