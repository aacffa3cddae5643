-- A user of a vault in a world that stands for it.
use Rattle.std.specs.Prelude.{◌≡◌, None}
use Rattle.std.specs.List.{Contains}
use Rattle.ls_record.specs.declared.row.UserRow.{UserRow}
use Rattle.ls_record.specs.Rows.{Rec}
use Rattle.ls_board.specs.declared.devices.Counter.{Counter}
use Rattle.ls_board.specs.declared.world.World.{World}
use Rattle.ls_vault.specs.declared.user.User.{User}
use Rattle.ls_standing.specs.Named.{held_of_row}
use Rattle.ls_standing.specs.Opening.{first_foreign}
use Rattle.ls_standing.specs.Standing.{HoldsUser}

-- The record has the row, which the world holds for the user, and no file that the record names is
-- at fault.
pub record HoldsRow (w : World) (r : Rec) (row : UserRow) (u : User) : Type 0 where
  pub there : Contains r.users row
  pub holds : HoldsUser row (held_of_row w r.armed row) u
  pub files : first_foreign w r ≡ None

-- the failures of a user
abbrev pub failures_of : User → Counter
failures_of u = record { fails = u.fails; until = u.until }
