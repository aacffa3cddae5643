-- What a commit does: an entry behind the journal of the current file, or a whole record in the
-- other file.
--
-- A gate is opened only once all that stands behind it is on the disk, and a closed one isn't
-- written before that: a crash may leave any byte where one was written.
use Rattle.std.specs.Prelude.{◌≡◌, ◌⊎◌, ◌≤◌, ◌<◌, ◌+◌, ◌-◌, ◌^◌, not, unwrap_or, if◌then◌else◌, ℕ, Bool, List, [], ◌∷◌, ◌++◌, length, Option, Some, is_some, Ok}
use Rattle.ls_bytes.specs.Fields.{be32, be64}
use Rattle.ls_formats.specs.declared.side.Side.{Side}
use Rattle.ls_formats.specs.PartNames.{settings_text}
use Rattle.ls_record.specs.declared.edit.Edit.{Edit}
use Rattle.ls_record.specs.Rows.{Rec}
use Rattle.ls_record.specs.Reading.{record_of}
use Rattle.ls_record.specs.EditReading.{edited_of}
use Rattle.ls_record.specs.Spelling.{record_bytes}
use Rattle.ls_record.specs.Edits.{edit_bytes, LeadsTo}
use Rattle.ls_naming.specs.Named.{only_if}
use Rattle.ls_naming.specs.Current.{Settled, open_gate, current}
use Rattle.ls_board.specs.declared.action.Action.{Action}
use Rattle.ls_board.specs.declared.action.Action.TheVariants.{Poke, Sync}
use Rattle.ls_board.specs.declared.touch.Span.{Span}
use Rattle.ls_board.specs.declared.world.World.{World}
use Rattle.ls_board.specs.Effect.{file_at}
use Rattle.ls_board.specs.Images.{PokedFrom}
use Rattle.ls_board.specs.Reach.{LeavesBut}
use Rattle.ls_board.specs.Runs.{PlanImage}
use Rattle.ls_settings.specs.Loaded.{Loaded, target_of, is_side, settings_reach}

-- ---- the actions

-- each of these is on the disk before the next begins
abbrev pub synced : List Action → List Action
synced [] = []
synced (a ∷ actions) = a ∷ Sync ∷ synced actions

abbrev pub closed_gate : ℕ
closed_gate = 0

-- the length of a change, the change, and a closed gate for the next entry
abbrev pub entry_bytes : List ℕ → List ℕ
entry_bytes change = be32 (length change) ++ (change ++ closed_gate ∷ [])

-- an entry at a place: what stands behind its gate, and then the gate
abbrev pub entry_pokes : Side → ℕ → List ℕ → List Action
entry_pokes side at change =
    Poke (settings_text side) (at + 1) (entry_bytes change)
    ∷ Poke (settings_text side) at (open_gate ∷ [])
    ∷ []

-- the sequence number, the length of a body with the bit for a journal, the body, and a closed gate
-- for the first entry
abbrev pub whole_bytes : ℕ → List ℕ → List ℕ
whole_bytes sequence body =
    be64 sequence ++ (be32 (2 ^ 31 + length body) ++ (body ++ closed_gate ∷ []))

-- a file in whole: its gate is closed where it is open, and opened behind all else
abbrev pub whole_pokes : Side → Bool → ℕ → List ℕ → List Action
whole_pokes side is_open sequence body =
    only_if is_open (Poke (settings_text side) 0 (closed_gate ∷ []) ∷ [])
    ++ (Poke (settings_text side) 1 (whole_bytes sequence body)
    ∷ Poke (settings_text side) 0 (open_gate ∷ [])
    ∷ [])

-- ---- the two kinds of commit

-- The current file has a journal and a body of format 02, one change leads to the next record, and
-- its entry fits behind the journal, with a closed gate behind it.
pub record IsEntry (s : Settled) (next : Rec) (side : Side) (at : ℕ) (change : List ℕ) : Type 0 where
  pub in_file : s.side ≡ Some side
  pub in_journal : s.end ≡ Some at
  pub in_format : s.format ≡ 2
  pub edit : Edit
  pub leads : LeadsTo s.rec edit next
  pub is : change ≡ edit_bytes 2 edit
  pub fits : at + 6 + length change ≤ 4096

abbrev pub HasEntry : Settled → Rec → Type 0
HasEntry s next = (side : Side) × (at : ℕ) × (change : List ℕ) × IsEntry s next side at change

-- the settings with an entry, behind which the journal ends
abbrev pub with_entry : Loaded → Rec → ℕ → Loaded
with_entry s next end = record {
  settled = record s.settled { rec = next; sequence = s.settled.sequence + 1; end = Some end };
  target_open = s.target_open;
}

-- The settings with a record written in whole, behind which the journal begins. The other file is
-- then the one that was current, if one was.
abbrev pub with_whole : Loaded → Rec → ℕ → Loaded
with_whole s next end = record {
  settled = record {
    rec = next;
    sequence = s.settled.sequence + 1;
    side = Some (target_of s.settled.side);
    end = Some end;
    format = 2;
  };
  target_open = is_some s.settled.side;
}

-- a commit by an entry, which is read as leading to the next record
pub record IsByEntry (from to : Loaded) (actions : List Action) : Type 0 where
  pub side : Side
  pub at : ℕ
  pub change : List ℕ
  pub entry : IsEntry from.settled to.settled.rec side at change
  pub reads : edited_of 2 from.settled.rec change ≡ Ok to.settled.rec
  pub to_is : to ≡ with_entry from to.settled.rec (at + 5 + length change)
  pub does : actions ≡ synced (entry_pokes side at change)

-- a commit in whole, whose body is read as the next record and has its place in the file
pub record IsInWhole (from to : Loaded) (actions : List Action) : Type 0 where
  pub body : List ℕ
  pub body_is : body ≡ record_bytes 2 to.settled.rec
  pub reads : record_of body ≡ Ok to.settled.rec
  pub fits : 14 + length body ≤ 4096
  pub to_is : to ≡ with_whole from to.settled.rec (13 + length body)
  pub does :
      let target = target_of from.settled.side in
      let sequence = from.settled.sequence + 1 in
      actions ≡ synced (whole_pokes target from.target_open sequence body)

-- A commit leads from these settings to those by these actions: by an entry exactly where one can
-- be made, and else in whole.
pub record IsCommit (from to : Loaded) (actions : List Action) : Type 0 where
  pub below : to.settled.sequence ≡ from.settled.sequence + 1
  pub small : to.settled.sequence < 2 ^ 64
  pub either :
      IsByEntry from to actions
      ⊎ (¬ (HasEntry from.settled to.settled.rec) × IsInWhole from to actions)

-- what is prepared of a commit: the settings that it leads to, and its actions
pub record Prepared : Type 0 where
  pub to : Loaded
  pub actions : List Action

-- ---- the bytes that it writes

-- the places from one up to another
abbrev pub span_between : ℕ → Option ℕ → Span
span_between first last = record { at = first; len = unwrap_or last 0 + 1 - first }

-- An entry is written behind the journal of the current file, and a whole record from the beginning
-- of the other file on: as far as the closed gate behind the new journal.
abbrev pub written_in : Loaded → Loaded → Side → List Span
written_in from to side =
    if not (is_side to.settled.side side) then []
    else if is_side from.settled.side side then
    span_between (unwrap_or from.settled.end 0) to.settled.end ∷ []
    else span_between 0 to.settled.end ∷ []

-- ---- what a crash leaves of it

-- The old settings are current or the new ones; all but the settings files is as before, and of
-- those all but the bytes that a commit writes; and what was done are the first actions of the
-- commit, the last of them perhaps in part.
pub record IsCommitImage (w : World) (from to : Loaded) (actions : List Action) (image : World)
    : Type 0 where
  pub either :
      (current (file_at image) ≡ Ok from.settled) ⊎ (current (file_at image) ≡ Ok to.settled)
  pub rest : LeavesBut settings_reach w image
  pub bytes : (side : Side) →
      let name = settings_text side in
      PokedFrom (written_in from to side) (file_at w name) (file_at image name)
  pub steps : PlanImage w actions image
