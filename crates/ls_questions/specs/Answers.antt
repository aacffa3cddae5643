-- What a session answers of a user, in every world: by the record and by what it knows.
use Rattle.std.specs.Prelude.{ℕ, Bool, if◌then◌else◌, length, Option, option_map}
use Rattle.ls_credential.specs.declared.kind.Kind.{Kind}
use Rattle.ls_record.specs.declared.row.UserRow.{UserRow}
use Rattle.ls_record.specs.Rows.{has}
use Rattle.ls_script.specs.declared.reply.StatusRow.{StatusRow}
use Rattle.ls_script.specs.declared.reply.TokenState.{TokenState}
use Rattle.ls_script.specs.declared.reply.TokenState.TheVariants.{Pending, Active, Absent}
use Rattle.ls_turn.specs.declared.session.Session.{Session}
use Rattle.ls_turn.specs.Refusing.{row_of, is_open, is_waiting, pending_for}

-- How a user stands: whether the session has it opened, and the kind in the record.
abbrev pub standing_in : Session → ℕ → Option (Bool × Kind)
standing_in x user = option_map (λ r. (is_open x user, r.kind)) (row_of x.settings.settled.rec user)

-- the same of a user with this row, with all that is told of it
abbrev pub status_in : Session → ℕ → UserRow → StatusRow
status_in x user row = record {
  opened = is_open x user;
  kind = row.kind;
  escrow = row.escrow;
  secure = row.secure;
  active = length row.tokens;
  pending = length (pending_for x user);
}

-- where a token of a user with this row stands
abbrev pub token_state_in : Session → ℕ → UserRow → ℕ → TokenState
token_state_in x user row id =
    if is_waiting x user id then Pending
    else if has row.tokens id then Active
    else Absent
