use Rattle.std.proofs.Common.{sym, subst}
use Rattle.ls_sweep.proofs.FileLemmas.{read_part, unread_part}
use Rattle.ls_placing.specs.Placing.{SaysOne}
use Rattle.ls_sweep.specs.Files.{part_in}
use Rattle.std.proofs.Common.{refl, None}
use Rattle.ls_placing.proofs.IdLemmas.{part_said}
use Rattle.ls_placing.proofs.ids.id_in.Goals as goal

pub returns-in-Ok : goal.returns-in-Ok
returns-in-Ok c = record {
  says = subst (SaysOne c.args.name.now) (sym c.id_of.ensures.same)
      (part_said c.args.name.now (part_in c.in-Ok.file)
      (read_part c.args.name.now c.as_slice.result.now (part_in c.in-Ok.file) c.parse.result c.in-Ok.file c.as_slice.ensures.same c.in-Ok.is c.parse.ensures.exact refl));
}

pub returns-in-Err : goal.returns-in-Err
returns-in-Err c = record {
  says = part_said c.args.name.now None (unread_part c.args.name.now c.as_slice.result.now c.parse.result c.in-Err.field-0 c.as_slice.ensures.same c.in-Err.is c.parse.ensures.exact);
}
