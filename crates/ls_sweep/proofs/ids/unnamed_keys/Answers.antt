use Rattle.ls_naming.specs.Named.{NamesKey}
use Rattle.ls_sweep.proofs.SiftLemmas.{unnamed_next, unnamed_whole}
use Rattle.ls_sweep.proofs.ids.unnamed_keys.Goals as goal

pub loop-alias-preserved : goal.loop-alias-preserved
loop-alias-preserved c =
    unnamed_next (NamesKey c.args.holder.now) c.args.aliases.now c.loop-alias.left c.push_unnamed.new.left c.loop-alias.alias-index c.names_key.result
    c.loop-alias.invariant c.loop-alias-test.true c.names_key.ensures.named c.in_ok-push_unnamed.ensures.pushed

pub returns : goal.returns
returns c = record { those = unnamed_whole (NamesKey c.args.holder.now) c.args.aliases.now c.loop-alias.left c.loop-alias.alias-index c.loop-alias.invariant c.loop-alias-test.false }
