-- When a change by protectors leads from one state of the machine to the next.
use Rattle.std.specs.Prelude.{◌≡◌, ◌≤◌, ◌++◌, ℕ, IsTrue, List, length}
use Rattle.ls_board.specs.Acts.{Sight}
use Rattle.ls_exchange.specs.Exchanges.{Exchanged, new_parts, plain}
use Rattle.ls_formats.specs.declared.parts.Parts.{Parts}
use Rattle.ls_settings.specs.Loaded.{Loaded}
use Rattle.ls_vault.specs.declared.state.State.{State}
use Rattle.ls_vault.specs.Script.{Stage}
use Rattle.ls_turn.specs.declared.session.Session.{Session}
use Rattle.ls_turn.specs.Agreeing.{Agrees}
use Rattle.ls_turn.specs.Serving.{Turned, stage_in}
use Rattle.ls_turn.specs.Working.{LeadsTo}

-- The session x commits the change of a command: it is that before the command, but that it lacks the
-- named protectors that are let go, and knows of users what it knows behind the command.
pub record IsReadied (before x : Session) : Type 0 where
  pub slots : x.slots ≡ before.slots
  pub boot : x.boot ≡ before.boot
  pub settings : x.settings ≡ before.settings
  pub retired : x.retired.items ≡ before.retired.items
  pub stopped : x.stopped ≡ before.stopped

-- the parts of the protectors that are named behind the change
abbrev pub named_then : Session → Exchanged → List Parts
named_then x work = x.named.items ++ new_parts work.drafts

-- those of the retired ones
abbrev pub retired_then : Session → Exchanged → List Parts
retired_then x work = x.retired.items ++ work.retire

-- What the session x has become behind the change: it has these settings and these protectors, and all
-- else that it had.
pub record HasBecome (x : Session) (to : Loaded) (bound let_go : List Parts) (y : Session) : Type 0 where
  pub slots : y.slots ≡ x.slots
  pub boot : y.boot ≡ x.boot
  pub settings : y.settings ≡ to
  pub named : y.named.items ≡ bound
  pub retired : y.retired.items ≡ let_go
  pub opened : y.opened.items ≡ x.opened.items
  pub pending : y.pending.items ≡ x.pending.items
  pub prepared : y.prepared ≡ x.prepared
  pub captured : y.captured.items ≡ x.captured.items
  pub stopped : y.stopped ≡ x.stopped

-- In each state with which the session before the command agrees, the change leads to what the machine
-- answers.
abbrev pub CommitsChange : Sight → Session → Session → Exchanged → (Stage → Turned) → Type 0
CommitsChange old before x work turn =
    IsTrue old.told → (s : State) → Agrees old.world before s
    → LeadsTo old.world x (named_then x work) (retired_then x work) (plain work) s
    (turn (stage_in old.world s))
