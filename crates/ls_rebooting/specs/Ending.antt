-- An arming ends, with what a session keeps of it.
use Rattle.std.specs.Prelude.{◌≡◌, ◌≢◌, ◌+◌, ◌≤◌, [], None, Option, length, sum_by}
use Rattle.ls_arming.specs.declared.arming.Arming.{Arming}
use Rattle.ls_board.specs.Acts.{Sight}
use Rattle.ls_board.specs.Effect.{weight_of}
use Rattle.ls_change.specs.declared.work.Work.{Work}
use Rattle.ls_change.specs.Work.{actions_of}
use Rattle.ls_naming.specs.Current.{last_sequence}
use Rattle.ls_script.specs.declared.reply.Reply.TheVariants.{Fine}
use Rattle.ls_standing.specs.Books.{dead_users}
use Rattle.ls_vault.specs.declared.state.State.{State}
use Rattle.ls_vault.specs.Arming.{unarmed}
use Rattle.ls_vault.specs.Script.{Stage}
use Rattle.ls_vault.specs.States.{committed, with_arming, with_dead}
use Rattle.ls_turn.specs.declared.session.Session.{Session}
use Rattle.ls_turn.specs.Serving.{Turned}

-- what Prepare makes of an arming and of the books, with the session as it is
abbrev pub unarming : Stage → Turned
unarming at =
    record { reply = Fine; stage = record at { state = unarmed at.state.vault.arming at.state } }

-- nobody is armed or dead, and that is kept
abbrev pub clears : Stage → Turned
clears at = record {
  reply = Fine;
  stage = record at { state = committed (with_arming (with_dead at.state []) None) };
}

-- the state once the key of an arming is gone, and nothing was kept
abbrev pub without_key : Option Arming → State → State
without_key armed s = with_arming (with_dead s (dead_users armed None)) None

-- Nothing but the settings is another. Where something can be kept, they name no arming.
pub record HasEnded (x y : Session) : Type 0 where
  pub same : record x { settings = y.settings } ≡ y
  pub ended : y.settings.settled.sequence ≢ last_sequence → y.settings.settled.rec.armed ≡ None

-- there is room for the taking of the key and the change
pub record HasRoomBehind (s : Sight) (k : Work) : Type 0 where
  pub actions : length (actions_of k) + 1 ≤ s.actions
  pub bytes : sum_by weight_of (actions_of k) ≤ s.bytes
