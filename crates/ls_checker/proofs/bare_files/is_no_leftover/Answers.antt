use Rattle.ls_checker.proofs.BareLemmas.{read_decided, unread_decided}
use Rattle.ls_checker.proofs.bare_files.is_no_leftover.Goals as goal

pub returns-in-Ok : goal.returns-in-Ok
returns-in-Ok c = record {
  decided = read_decided c.args.world.now c.args.holder.now c.args.retired.now c.args.text.now c.parse.result c.in-Ok.name c.may_stay.result
      c.in-Ok.is c.parse.ensures.exact c.may_stay.ensures.decided;
}

pub returns-in-Err : goal.returns-in-Err
returns-in-Err c = record {
  decided = unread_decided c.args.world.now c.args.holder.now c.args.retired.now c.args.text.now c.parse.result c.in-Err.field-0 c.in-Err.is c.parse.ensures.exact;
}
