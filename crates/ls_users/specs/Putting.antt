-- A change that puts a row.
use Rattle.std.specs.Prelude.{◌≡◌, []}
use Rattle.ls_change.specs.declared.work.Work.{Work}
use Rattle.ls_change.specs.Work.{next_of}
use Rattle.ls_record.specs.declared.edit.Edit.TheVariants.{PutRow}
use Rattle.ls_record.specs.declared.row.UserRow.{UserRow}
use Rattle.ls_record.specs.Edits.{changed}
use Rattle.ls_settings.specs.Commits.{IsCommit}
use Rattle.ls_settings.specs.Loaded.{Loaded}

-- The change puts this row, and does nothing else.
pub record PutsRow (from : Loaded) (row : UserRow) (k : Work) : Type 0 where
  pub before : k.before ≡ []
  pub after : k.after ≡ []
  pub commit : IsCommit from k.commit.to k.commit.actions
  pub next : next_of k ≡ changed from.settled.rec (PutRow row)
