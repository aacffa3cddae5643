use Rattle.std.proofs.Common.{subst}
use Rattle.ls_record.specs.Rows.{IsRecord}
use Rattle.ls_checker.proofs.QuietLemmas.{other_decided}
use Rattle.ls_checker.proofs.quiet.is_unnamed.Goals as goal

pub returns-in-Err : goal.returns-in-Err
returns-in-Err c = record {
  decided = other_decided c.args.world.now c.args.holder.now c.args.name.now c.parse.result c.in-Err.field-0
      (subst IsRecord c.holder.view_is c.holder.invariant) c.in-Err.is c.parse.ensures.exact;
}
