use Rattle.ls_checker.proofs.QuietLemmas.{part_decided}
use Rattle.ls_checker.proofs.quiet.is_unnamed_file.Goals as goal

pub returns-in-Protector : goal.returns-in-Protector
returns-in-Protector c = record {
  decided = part_decided c.args.world.now c.args.holder.now c.args.name.now c.in-Protector.name c.names_file.result c.has_weaver.result
      c.requires.kept c.requires.spelled c.in-Protector.is c.has_weaver.ensures.same c.names_file.ensures.named;
}
