use Rattle.ls_sweep.proofs.FileLemmas.{read_part, unread_part}
use Rattle.ls_sweep.proofs.files.part_of.Goals as goal

pub returns-in-Ok : goal.returns-in-Ok
returns-in-Ok c = record {
  named = read_part c.args.name.now c.as_slice.result.now c.part_in.result c.parse.result c.in-Ok.file c.as_slice.ensures.same c.in-Ok.is c.parse.ensures.exact c.part_in.ensures.same;
}

pub returns-in-Err : goal.returns-in-Err
returns-in-Err c = record {
  named = unread_part c.args.name.now c.as_slice.result.now c.parse.result c.in-Err.field-0 c.as_slice.ensures.same c.in-Err.is c.parse.ensures.exact;
}
