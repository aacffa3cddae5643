-- What the session knows behind an attempt, and what is answered.
use Rattle.std.specs.Prelude.{◌≡◌, ◌⊎◌, ℕ, if◌then◌else◌, Option, Result, Ok, Err}
use Rattle.ls_board.specs.declared.action.BoardFault.{BoardFault}
use Rattle.ls_board.specs.declared.action.BoardFault.TheVariants as board
use Rattle.ls_chain.specs.declared.fault.Spot.{Spot}
use Rattle.ls_chain.specs.declared.fault.ChainFault.{ChainFault}
use Rattle.ls_chain.specs.declared.fault.ChainFault.TheVariants.{Corrupt, Failed, Memory}
use Rattle.ls_chain.specs.Links.{link_name}
use Rattle.ls_credential.specs.Counts.{KindAndCounts}
use Rattle.ls_drawing.specs.Drawing.{stop_of}
use Rattle.ls_formats.specs.declared.part.FilePart.{FilePart}
use Rattle.ls_formats.specs.declared.part.FilePart.TheVariants.{SpBlob, Pwd, Secdis, Weaver, Metrics, Handle, E0, P1, Resume}
use Rattle.ls_script.specs.declared.reply.Refusal.{Refusal}
use Rattle.ls_script.specs.declared.reply.Refusal.TheVariants as refusal
use Rattle.ls_script.specs.declared.reply.Reply.{Reply}
use Rattle.ls_script.specs.declared.reply.Reply.TheVariants as reply
use Rattle.ls_secret.specs.Secrets.{SecretValue}
use Rattle.ls_turn.specs.declared.session.Session.{Session}
use Rattle.ls_turn.specs.declared.session.Opened.{Opened}
use Rattle.ls_turn.specs.declared.stop.Stop.{Stop}
use Rattle.ls_turn.specs.Serving.{stopped_by}
use Rattle.ls_unlocking.specs.declared.ending.Ending.{Ending}
use Rattle.ls_unlocking.specs.declared.ending.Ending.TheVariants as ending
use Rattle.ls_unlocking.specs.Entries.{with_entry}

-- what is known of an opened user
abbrev pub entry : ℕ → SecretValue → Option KindAndCounts → Opened
entry user s metrics = record { user = user; secret = s; metrics = metrics }

-- the user is captured, where an arming is prepared
abbrev pub Captures : Session → Opened → Session → Type 0
Captures x one y =
    y.captured.items ≡ (if x.prepared then with_entry x.captured.items one else x.captured.items)

-- The user is opened, and captured where an arming is prepared; nothing else is another.
pub record OpensUser (x : Session) (one : Opened) (y : Session) : Type 0 where
  pub same : y ≡ record x { opened = y.opened; captured = y.captured }
  pub opened : y.opened.items ≡ with_entry x.opened.items one
  pub captured : Captures x one y

-- The session stops by the fault of a call.
pub record StopsBy (x : Session) (fault : BoardFault) (result : Result Reply Stop) (y : Session)
    : Type 0 where
  pub answer : result ≡ Err (stop_of fault)
  pub same : y ≡ record x {
    opened = y.opened;
    captured = y.captured;
    stopped = stopped_by (stop_of fault) x.stopped;
  }

-- the metrics are those of the credential's protector, and each other file that of the one tried
abbrev pub spot_id : ℕ → ℕ → FilePart → ℕ
spot_id credential tried Metrics = credential
spot_id credential tried SpBlob = tried
spot_id credential tried Pwd = tried
spot_id credential tried Secdis = tried
spot_id credential tried Weaver = tried
spot_id credential tried Handle = tried
spot_id credential tried E0 = tried
spot_id credential tried P1 = tried
spot_id credential tried Resume = tried

-- the file at fault, and the place
abbrev pub corrupt_at : ℕ → ℕ → ℕ → Spot → Refusal
corrupt_at user credential tried spot =
    refusal.Corrupt (link_name user (spot_id credential tried spot.part) spot.part) spot.at

-- what is answered, and how the session is then
abbrev pub Finishes : ℕ → ℕ → ℕ → Session → Result Ending ChainFault
    → Result Reply Stop → Session → Type 0
Finishes user credential tried x (Ok (ending.Opened s revealed)) result y =
    ((result ≡ Ok (reply.Opened revealed)) × OpensUser x (entry user s revealed.metrics) y)
    ⊎ StopsBy x board.Memory result y
Finishes user credential tried x (Ok (ending.Refused why)) result y =
    (result ≡ Ok (reply.No why)) × (y ≡ x)
Finishes user credential tried x (Err (Corrupt spot)) result y =
    ((result ≡ Ok (reply.No (corrupt_at user credential tried spot))) × (y ≡ x))
    ⊎ StopsBy x board.Memory result y
Finishes user credential tried x (Err (Failed part)) result y =
    StopsBy x (board.Failed part) result y
Finishes user credential tried x (Err Memory) result y = StopsBy x board.Memory result y
