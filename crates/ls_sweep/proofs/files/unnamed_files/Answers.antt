use Rattle.ls_sweep.specs.Files.{IsUnnamedFile}
use Rattle.ls_sweep.proofs.SiftLemmas.{sifted_more, sifted_whole}
use Rattle.ls_sweep.proofs.files.unnamed_files.Goals as goal

pub loop-name-preserved : goal.loop-name-preserved
loop-name-preserved c =
    sifted_more (IsUnnamedFile c.args.weaver c.args.holder.now c.args.retired.now) c.args.names.now c.loop-name.left c.push_name.new.left c.loop-name.name-index c.name-item.result c.is_unnamed_file-is_left.result
    c.loop-name.invariant c.loop-name-test.true c.name-item.is c.is_unnamed_file-is_left.ensures.decided c.in_ok-push_name.ensures.pushed

pub returns : goal.returns
returns c = record {
  those = sifted_whole (IsUnnamedFile c.args.weaver c.args.holder.now c.args.retired.now) c.args.names.now c.loop-name.left c.loop-name.name-index c.loop-name.invariant c.loop-name-test.false;
}
