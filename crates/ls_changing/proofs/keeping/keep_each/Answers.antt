use Rattle.std.proofs.Common.{rules}
use Rattle.std.proofs.lemmas.List.Edits.{map_over_more}
use Rattle.ls_vault.specs.Revealed.{shown_metrics}
use Rattle.ls_changing.specs.Keeping.{with_metrics}
use Rattle.ls_changing.proofs.keeping.keep_each.Goals as goal

pub loop-entry-preserved : goal.loop-entry-preserved
loop-entry-preserved c = search (rules, map_over_more (with_metrics c.args.user (shown_metrics c.args.new.now)))
