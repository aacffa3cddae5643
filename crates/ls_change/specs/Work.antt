-- A change of the vault: actions that build what the next record names, the commit of that record,
-- and actions that take away what only the old record named.
use Rattle.std.specs.Prelude.{◌≡◌, ◌⊎◌, ◌≤◌, List, ◌++◌, length, sum_by, Ok}
use Rattle.ls_record.specs.Rows.{Rec}
use Rattle.ls_naming.specs.Current.{Settled, current}
use Rattle.ls_board.specs.declared.action.Action.{Action}
use Rattle.ls_board.specs.declared.world.World.{World}
use Rattle.ls_board.specs.Acts.{Sight}
use Rattle.ls_board.specs.Effect.{weight_of, file_at}
use Rattle.ls_board.specs.Reach.{AllTouchOnly}
use Rattle.ls_board.specs.Rest.{LeavesRest}
use Rattle.ls_board.specs.Runs.{after_all, AllApply, AllSound, PlanImage}
use Rattle.ls_settings.specs.Loaded.{Loaded, IsReady}
use Rattle.ls_vault.specs.declared.vault.Vault.{Vault}
use Rattle.ls_standing.specs.Standing.{Holds, NamedAreUntouched, StandsDurably}
use Rattle.ls_standing.specs.Quiet.{unnamed}
use Rattle.ls_change.specs.declared.work.Work.{Work}

-- the record that is committed
abbrev pub next_of : Work → Rec
next_of k = k.commit.to.settled.rec

-- all its actions
abbrev pub actions_of : Work → List Action
actions_of k = k.before ++ (k.commit.actions ++ k.after)

-- the world in which it is committed
abbrev pub staged : World → Work → World
staged w k = after_all w k.before

-- The room covers it, and each of its actions may be asked of a board with so many slots.
pub record HasRoom (s : Sight) (k : Work) : Type 0 where
  pub actions : length (actions_of k) ≤ s.actions
  pub bytes : sum_by weight_of (actions_of k) ≤ s.bytes
  pub before : AllSound s.slots k.before
  pub after : AllSound s.slots k.after

-- A commit may begin with these settings. The actions before it reach nothing that the old record
-- names, and those behind it nothing that the next one names; and each may be done in its turn.
pub record IsQuietWork (w : World) (s : Loaded) (k : Work) : Type 0 where
  pub ready : IsReady w s
  pub before : AllTouchOnly (unnamed w s.settled.rec) k.before
  pub applies : AllApply w k.before
  pub after : AllTouchOnly (unnamed (staged w k) (next_of k)) k.after
  pub follows : AllApply (after_all w (k.before ++ k.commit.actions)) k.after

-- Where it is committed, what the next record names is that of the new vault, and no file of it is
-- touched.
pub record Readies (w : World) (k : Work) (v : Vault) : Type 0 where
  pub holds : Holds (staged w k) (next_of k) v
  pub untouched : NamedAreUntouched (staged w k) (next_of k)

-- What a crash leaves of it, whatever the worlds stand for. The old settings are current or the next
-- ones; what was done are the first of its actions, the last of them perhaps in part; and nothing was
-- said, heard or drawn.
pub record IsCut (w : World) (from : Settled) (k : Work) (image : World) : Type 0 where
  pub either :
      (current (file_at image) ≡ Ok from) ⊎ (current (file_at image) ≡ Ok k.commit.to.settled)
  pub steps : PlanImage w (actions_of k) image
  pub rest : LeavesRest w image

-- What a crash leaves of it stands for the old vault, by the old settings, or for the new one, by
-- the next settings; nothing was said, heard or drawn.
pub record IsDuring (w : World) (from to : Settled) (old new : Vault) (image : World) : Type 0 where
  pub either : StandsDurably image from old ⊎ StandsDurably image to new
  pub rest : LeavesRest w image
