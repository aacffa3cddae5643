-- A change that ends an arming.
use Rattle.std.specs.Prelude.{◌≡◌, ◌++◌, ◌∷◌, [], ℕ, List, map, Some}
use Rattle.ls_arming.specs.declared.arming.Arming.{Arming}
use Rattle.ls_board.specs.declared.action.Action.{Action}
use Rattle.ls_board.specs.declared.action.Action.TheVariants.{KeyDrop, Remove, Sync}
use Rattle.ls_change.specs.declared.work.Work.{Work}
use Rattle.ls_change.specs.Work.{next_of}
use Rattle.ls_edits.specs.Arming.{resume_of}
use Rattle.ls_formats.specs.PartNames.{part_name_text}
use Rattle.ls_record.specs.declared.edit.Edit.TheVariants.{ClearArmed}
use Rattle.ls_record.specs.Edits.{changed}
use Rattle.ls_record.specs.Rows.{IsRecord}
use Rattle.ls_settings.specs.Commits.{IsCommit}
use Rattle.ls_settings.specs.Loaded.{Loaded}

-- the `resume` file of each of these users is removed
abbrev pub removals : List ℕ → List Action
removals users = map (λ user. Remove (part_name_text (resume_of user))) users

-- the key of alias 0 and the files of an arming of these users are taken away, up to the disk
abbrev pub clearing : List ℕ → List Action
clearing users = KeyDrop 0 ∷ (removals users ++ Sync ∷ [])

-- The change commits the record without an arming, and then takes away what an arming of these users
-- had beside the cell.
pub record ClearsArming (from : Loaded) (users : List ℕ) (k : Work) : Type 0 where
  pub before : k.before ≡ []
  pub commit : IsCommit from k.commit.to k.commit.actions
  pub next : next_of k ≡ changed from.settled.rec ClearArmed
  pub after : k.after ≡ clearing users

-- So it is for the arming that the record names.
pub record EndsArming (from : Loaded) (k : Work) : Type 0 where
  pub rules : IsRecord from.settled.rec
  pub armed : Arming
  pub named : from.settled.rec.armed ≡ Some armed
  pub clears : ClearsArming from armed.users k
