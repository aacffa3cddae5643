use Rattle.std.proofs.Common.{sym, arith}
use Rattle.std.proofs.lemmas.List.{length-take-le}
use Rattle.ls_enrolling.proofs.drawn.first_half.Goals as goal

pub slice_bounds-copy_from_slice-end-2 : goal.slice_bounds-copy_from_slice-end-2
slice_bounds-copy_from_slice-end-2 c = sym (length-take-le 32 c.args.drawn.now (let all = c.requires.drawn in omega (arith, all)))

pub copy_from_slice-requires : goal.copy_from_slice-requires
copy_from_slice-requires c = sym (length-take-le 32 c.args.drawn.now (let all = c.requires.drawn in omega (arith, all)))
