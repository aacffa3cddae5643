use Rattle.std.proofs.Common.{arith}
use Rattle.ls_sweep.proofs.ListLemmas.{line_fits, begins}
use Rattle.ls_sweep.proofs.lists.split_line.Goals as goal

pub split_at-requires : goal.split_at-requires
split_at-requires c =
    let fits = line_fits c.args.bytes.now c.requires.lines c.requires.some in
    omega (arith, fits, c.line_length-length.ensures.count)

pub split_at-requires-2 : goal.split_at-requires-2
split_at-requires-2 c =
    let fits = line_fits c.args.bytes.now c.requires.lines c.requires.some in
    omega (arith, fits, c.line_length-length.ensures.count)

pub returns : goal.returns
returns c = record {
  line = rw (c.split_at.ensures.front, c.split_at-2.ensures.back, c.line_length-length.ensures.count) (begins c.args.bytes.now c.requires.lines c.requires.some);
}
