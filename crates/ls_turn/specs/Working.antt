-- When a change of the vault leads from one state of the machine to the next.
use Rattle.std.specs.Prelude.{◌≡◌, ◌≢◌, ℕ, true, IsTrue, List, None, Some, is_some}
use Rattle.std.specs.List.{Contains}
use Rattle.ls_board.specs.declared.world.World.{World}
use Rattle.ls_board.specs.Acts.{Sight}
use Rattle.ls_board.specs.Runs.{AllSound, after_all}
use Rattle.ls_formats.specs.declared.parts.Parts.{Parts}
use Rattle.ls_naming.specs.Current.{last_sequence}
use Rattle.ls_record.specs.Rows.{IsRecord}
use Rattle.ls_script.specs.declared.reply.Reply.TheVariants.{Fine}
use Rattle.ls_sealing.specs.Protectors.{Protector, held_number}
use Rattle.ls_standing.specs.Bare.{IsBare}
use Rattle.ls_standing.specs.Books.{books}
use Rattle.ls_standing.specs.NamedProtectors.{NamesProtector}
use Rattle.ls_vault.specs.declared.state.State.{State}
use Rattle.ls_vault.specs.Script.{Stage}
use Rattle.ls_change.specs.declared.work.Work.{Work}
use Rattle.ls_change.specs.Work.{Readies, actions_of, next_of}
use Rattle.ls_protector.specs.Clear.{AreUnnamed}
use Rattle.ls_protector.specs.Parts.{parts_of}
use Rattle.ls_turn.specs.declared.session.Session.{Session}
use Rattle.ls_turn.specs.Agreeing.{Agrees, AreNamed, HaveSecrets, HaveMetrics, files_of, retired_files, session_of}
use Rattle.ls_turn.specs.Serving.{Turned, IsKeptAs, KeepOnce, KeepApart, KeepsStrange, stage_in}

-- the actions that the code adds may be asked of any board with so many slots
pub record IsSoundWork (slots : ℕ) (k : Work) : Type 0 where
  pub before : AllSound slots k.before
  pub after : AllSound slots k.after

-- On every board: these are the parts of the protectors that the next record names.
pub record KeepsNamed (slots : ℕ) (k : Work) (named : List Parts) : Type 0 where
  pub each : (p : Protector) → NamesProtector (next_of k) p
      → (q : Parts) × Contains named q × IsKeptAs slots p q
  pub only : (q : Parts) → Contains named q
      → (p : Protector) × NamesProtector (next_of k) p × IsKeptAs slots p q
  pub once : KeepOnce named

-- In a told world: of each `weaver` file that the next record names and that is one the slot is kept,
-- no slot is kept of two, no file that was retired is named, and each file outside the grammar is as it was.
pub record LeavesKept (w : World) (k : Work) (named retired : List Parts) : Type 0 where
  pub numbers : (p : Protector) → NamesProtector (next_of k) p → (n : ℕ)
      → held_number (after_all w (actions_of k)) p ≡ Some n
      → Contains named (parts_of (is_some (Some n)) p (Some n))
  pub apart : KeepApart named
  pub are_retired : AreUnnamed (after_all w (actions_of k)) (next_of k) (files_of retired)
  pub strange : KeepsStrange w (after_all w (actions_of k))

-- The change leads to what the machine answers: `Fine`, with another vault, and one change more kept.
-- x is the session that commits it, with what it knows of users then; behind it these protectors are
-- named, and these are retired.
pub record LeadsTo (w : World) (x : Session) (named retired : List Parts) (k : Work) (s : State)
    (t : Turned) : Type 0 where
  pub reply : t.reply ≡ Fine
  pub keeps : IsRecord (next_of k)
  pub readies : Readies w k t.stage.state.vault
  pub session : session_of x ≡ t.stage.state.session
  pub books_are : t.stage.state.books
      ≡ books (after_all w (actions_of k)) k.commit.to.settled
  pub moments : t.stage.moments ≡ w.moments
  pub noise : t.stage.noise ≡ w.noise
  pub opened : HaveSecrets t.stage.state.vault.users x.opened.items
  pub metrics : HaveMetrics t.stage.state.vault.users x.opened.items
  pub captured : HaveSecrets t.stage.state.vault.users x.captured.items
  pub are_named : AreNamed (after_all w (actions_of k)) (next_of k) named
  pub are_retired : AreUnnamed (after_all w (actions_of k)) (next_of k) (files_of retired)
  pub prepared : x.prepared ≡ true → k.commit.to.settled.sequence ≢ last_sequence
      → (next_of k).armed ≡ None
  pub bare : (start : World) → IsBare start w x.settings.settled.rec (retired_files x)
      → IsBare start (after_all w (actions_of k)) (next_of k) (files_of retired)

-- so it is in each state with which the session agrees
abbrev pub Commits : Sight → Session → List Parts → List Parts → Work → (Stage → Turned) → Type 0
Commits old x named retired k turn =
    IsTrue old.told → (s : State) → Agrees old.world x s
    → LeadsTo old.world x named retired k s (turn (stage_in old.world s))
