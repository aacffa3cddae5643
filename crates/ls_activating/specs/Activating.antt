-- What an activation needs of the files that are left of retired protectors.
use Rattle.std.specs.Prelude.{ℕ, List}
use Rattle.std.specs.List.{Contains}
use Rattle.ls_placing.specs.Placing.{SaysId}
use Rattle.ls_turn.specs.declared.session.Pending.{Pending}
use Rattle.ls_turn.specs.declared.session.Session.{Session}
use Rattle.ls_turn.specs.Agreeing.{retired_files}
use Rattle.ls_turn.specs.Refusing.{pending_for}

-- none of these names is that of a file of a protector with the id of one of these tokens
abbrev pub SayNone : List (List ℕ) → List Pending → Type 0
SayNone names tokens = (p : Pending) → Contains tokens p → ¬ SaysId names p.id

-- nothing has to be tidied before the tokens of the user become active
abbrev pub IsTidyFor : Session → ℕ → Type 0
IsTidyFor x user = SayNone (retired_files x) (pending_for x user)
