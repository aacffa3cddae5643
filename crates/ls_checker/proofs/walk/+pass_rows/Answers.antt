use Rattle.ls_checker.specs.Walking.{walked_by}
use Rattle.ls_checker.proofs.WalkLemmas.{rows_walked}
use Rattle.ls_checker.proofs.walk.+pass_rows.Goals as goal

pub returns-in_ok-pass_row-in-len1-up : goal.returns-in_ok-pass_row-in-len1-up
returns-in_ok-pass_row-in-len1-up t c = record {
  passed = rows_walked c.args.world.now c.args.armed.now c.args.rows.now c.row-item.result (walked_by c.args.walk.now) (walked_by c.pass_row.new.walk) (walked_by c.pass_rows.new.walk)
      c.pass_rows.result c.in-len1-up.len_at_least c.row-item.is c.in_ok-pass_row-in-len1-up.ensures.passed c.pass_rows.ensures.passed;
}
