use Rattle.std.proofs.Common.{sym, ◌∙◌}
use Rattle.std.proofs.lemmas.Result.{err_from_is_err_and}
use Rattle.ls_settings.proofs.EntriesLemmas.{walked, stopped, goes_on}
use Rattle.ls_settings.proofs.journal.read_entries.Goals as goal

pub returns-in_err-walk : goal.returns-in_err-walk
returns-in_err-walk c =
    let p = err_from_is_err_and c.from_residual.result c.from_residual.ensures.1 in
    rw (p.1, p.2) (record {
      exact = stopped c.args.file.now c.args.start c.entries.walk c.entries.invariant (sym c.stands_at.ensures.same ∙ c.entries-test.true) c.in_err-walk.field-0.0 c.in_err-walk.ensures.exact;
    })

pub entries-preserved : goal.entries-preserved
entries-preserved c =
    goes_on c.args.file.now c.args.start c.entries.walk c.entries.invariant (sym c.stands_at.ensures.same ∙ c.entries-test.true) c.in_ok-walk.walk c.in_ok-walk.ensures.exact

pub returns : goal.returns
returns c = record {
  exact = walked c.args.file.now c.args.start c.entries.walk c.entries.invariant (sym c.stands_at.ensures.same ∙ c.entries-test.false);
}
