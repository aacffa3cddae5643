use Rattle.ls_checker.proofs.BareLemmas.{both_left, one_not_left}
use Rattle.ls_checker.proofs.bare_files.leaves_strange_files.Goals as goal

pub returns-then-leaves_table : goal.returns-then-leaves_table
returns-then-leaves_table c =
    let first = c.leaves_table in
    let second = c.leaves_table-then-leaves_table in
    record {
      decided = both_left c.args.start.now c.args.world.now first.result second.result first.ensures.decided second.ensures.decided c.if-leaves_table.true;
    }

pub returns-else-leaves_table : goal.returns-else-leaves_table
returns-else-leaves_table c = record {
  decided = one_not_left c.args.start.now c.args.world.now c.leaves_table.result c.leaves_table.ensures.decided c.if-leaves_table.false;
}
