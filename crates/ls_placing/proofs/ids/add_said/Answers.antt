use Rattle.ls_placing.proofs.IdLemmas.{said_next}
use Rattle.ls_placing.proofs.ids.add_said.Goals as goal

pub loop-name-preserved : goal.loop-name-preserved
loop-name-preserved c =
    said_next c.args.names.now c.loop-name.name-index c.args.ids.now c.loop-name.ids c.push_id.new.ids c.name-item.result c.id_in.result c.loop-name.invariant c.loop-name-test.true
    c.name-item.is c.id_in.ensures.says c.in_ok-push_id.ensures.pushed
