use Rattle.std.proofs.Common.{subst}
use Rattle.ls_script.specs.ReplyText.{opened_words, Puts}
use Rattle.ls_script.specs.declared.reply.Revealed.{Revealed}
use Rattle.ls_script.proofs.PutLemmas.{rows_more}
use Rattle.ls_script.proofs.details.put_all_opened.Goals as goal

pub loop-row-preserved : goal.loop-row-preserved
loop-row-preserved c =
    rows_more opened_words 589 c.args.rows.now c.loop-row.row-index c.row-item.result _ _ _ c.loop-row-test.true c.loop-row.invariant
    (subst (λ (r : Revealed). Puts (opened_words r) 589 c.loop-row.to c.put_opened.new.to) c.row-item.is c.in_ok-put_opened.ensures)
