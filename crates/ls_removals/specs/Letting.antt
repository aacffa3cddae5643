-- When a record leaves protectors out, and the change that commits it.
use Rattle.std.specs.Prelude.{◌≡◌, ◌≢◌, ◌⊎◌, not, ℕ, Bool, true, false, IsTrue, List, [], None, filter}
use Rattle.std.specs.List.{Contains}
use Rattle.ls_board.specs.declared.action.Action.{Action}
use Rattle.ls_board.specs.declared.action.Action.TheVariants.{GkForget, KeyDrop, Remove, ResumeTake}
use Rattle.ls_board.specs.declared.world.World.{World}
use Rattle.ls_board.specs.Acts.{Sight}
use Rattle.ls_board.specs.Reach.{AllTouchOnly}
use Rattle.ls_board.specs.Runs.{AllSound}
use Rattle.ls_exchange.specs.Exchanges.{Exchanged}
use Rattle.ls_formats.specs.declared.part.FilePart.{FilePart}
use Rattle.ls_formats.specs.declared.parts.Parts.{Parts}
use Rattle.ls_formats.specs.PartNames.{PartOf, part_name_text}
use Rattle.ls_naming.specs.Named.{has_secure, user_parts, NamesFile, NamesEnrolled}
use Rattle.ls_record.specs.declared.row.UserRow.{UserRow}
use Rattle.ls_record.specs.Rows.{Rec, IsRecord}
use Rattle.ls_script.specs.declared.reply.Reply.TheVariants.{Fine}
use Rattle.ls_sealing.specs.Protectors.{Protector}
use Rattle.ls_settings.specs.Commits.{Prepared}
use Rattle.ls_standing.specs.Books.{dead_users}
use Rattle.ls_standing.specs.Clearing.{AllTakeAway}
use Rattle.ls_standing.specs.NamedProtectors.{NamesProtector}
use Rattle.ls_standing.specs.Quiet.{unnamed}
use Rattle.ls_standing.specs.Standing.{Holds}
use Rattle.ls_vault.specs.declared.state.State.{State}
use Rattle.ls_vault.specs.Script.{Stage}
use Rattle.ls_vault.specs.States.{committed}
use Rattle.ls_turn.specs.declared.session.Pending.{Pending}
use Rattle.ls_turn.specs.declared.session.Session.{Session}
use Rattle.ls_turn.specs.Agreeing.{Agrees, HaveMetrics, HaveSecrets, session_of}
use Rattle.ls_turn.specs.Serving.{Turned, stage_in}
use Rattle.ls_removals.specs.declared.going.Going.{Going}
use Rattle.ls_removals.specs.Going.{goes}

-- The session x commits the change of a command: it is that before the command, but that it knows of
-- users what it knows behind the command.
pub record IsBehind (before x : Session) : Type 0 where
  pub slots : x.slots ≡ before.slots
  pub boot : x.boot ≡ before.boot
  pub settings : x.settings ≡ before.settings
  pub named : x.named.items ≡ before.named.items
  pub retired : x.retired.items ≡ before.retired.items
  pub stopped : x.stopped ≡ before.stopped

-- ---- the change

-- it names nothing new and builds nothing
abbrev pub letting : Prepared → List Parts → List Action → Exchanged
letting commit gone after = record {
  drafts = [];
  others = [];
  commit = commit;
  retire = gone;
  after = after;
}

-- ---- what is left out

-- The next record names those protectors of the old one that don't go, and no file that the old one
-- doesn't name. What is done behind the commit, on any board, takes away what the next record doesn't
-- name; and each secure id and each file of a user itself, and the arming, is named still or taken
-- away.
pub record LeavesOut (r next : Rec) (goes : ℕ → ℕ → Bool) (after : List Action) : Type 0 where
  pub rules : IsRecord next
  pub back : (p : Protector) → NamesProtector next p
      → NamesProtector r p × (goes p.user p.id ≡ false)
  pub stay : (p : Protector) → NamesProtector r p → goes p.user p.id ≡ false
      → NamesProtector next p
  pub files : (weaver : Bool) (name : PartOf) → NamesFile weaver next name
      → NamesFile weaver r name
  pub sound : (slots : ℕ) → AllSound slots after
  pub away : AllTakeAway after
  pub unnamed : (w : World) → AllTouchOnly (unnamed w next) after
  pub secure : (weaver : Bool) (row : UserRow) → Contains r.users row → has_secure row ≡ true
      → NamesEnrolled weaver next row.secure ⊎ Contains after (GkForget row.secure)
  pub parts : (weaver : Bool) (row : UserRow) → Contains r.users row → (part : FilePart)
      → Contains (user_parts r.armed row) part
      → let name : PartOf = record { user = row.user; id = 0; part = part } in
      NamesFile weaver next name ⊎ Contains after (Remove (part_name_text name))
  pub armed : ¬ (r.armed ≡ None)
      → (next.armed ≢ None) ⊎ (Contains after ResumeTake × Contains after (KeyDrop 0))

-- ---- tokens that aren't active yet

-- these without those that go
abbrev pub waiting_still : Going → List Pending → List Pending
waiting_still g pending = filter (λ p. not (goes g p.user p.id)) pending

-- The session y is x without those of its tokens that go and aren't active yet.
pub record HasForgotten (g : Going) (x y : Session) : Type 0 where
  pub is : y ≡ record x { pending = y.pending }
  pub pending : y.pending.items ≡ waiting_still g x.pending.items

-- ---- where it leads

-- The machine answers `Fine`, and one commit more is kept. The world holds the next record for the
-- vault then, and what the session x and the books have is so there.
pub record LeavesTo (w : World) (x : Session) (next : Rec) (s : State) (t : Turned) : Type 0 where
  pub left : State
  pub turn : t ≡ record {
    reply = Fine;
    stage = record { state = committed left; moments = w.moments; noise = w.noise };
  }
  pub holds : Holds w next left.vault
  pub kept : left.books.kept ≡ s.books.kept
  pub dead : left.books.dead ≡ dead_users next.armed w.cell
  pub session : session_of x ≡ left.session
  pub opened : HaveSecrets left.vault.users x.opened.items
  pub metrics : HaveMetrics left.vault.users x.opened.items
  pub captured : HaveSecrets left.vault.users x.captured.items
  pub prepared : x.prepared ≡ true → next.armed ≡ None

-- so it is in each state with which the session before the command agrees
abbrev pub AllLeaveTo : Sight → Session → Session → Rec → (Stage → Turned) → Type 0
AllLeaveTo old before x next turn =
    IsTrue old.told → (s : State) → Agrees old.world before s
    → LeavesTo old.world x next s (turn (stage_in old.world s))
