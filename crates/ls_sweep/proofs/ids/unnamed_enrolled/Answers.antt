use Rattle.ls_naming.specs.Named.{NamesEnrolled}
use Rattle.ls_sweep.proofs.SiftLemmas.{unnamed_next, unnamed_whole}
use Rattle.ls_sweep.proofs.ids.unnamed_enrolled.Goals as goal

pub loop-id-preserved : goal.loop-id-preserved
loop-id-preserved c =
    unnamed_next (NamesEnrolled c.args.weaver c.args.holder.now) c.args.ids.now c.loop-id.left c.push_unnamed.new.left c.loop-id.id-index c.names_enrolled.result
    c.loop-id.invariant c.loop-id-test.true c.names_enrolled.ensures.named c.in_ok-push_unnamed.ensures.pushed

pub returns : goal.returns
returns c = record { those = unnamed_whole (NamesEnrolled c.args.weaver c.args.holder.now) c.args.ids.now c.loop-id.left c.loop-id.id-index c.loop-id.invariant c.loop-id-test.false }
