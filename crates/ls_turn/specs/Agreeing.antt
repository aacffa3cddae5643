-- When a session agrees with a state of the machine in a world.
use Rattle.std.specs.Prelude.{◌≡◌, ◌≢◌, ℕ, true, List, map, flat_map, length, None, IsSomeAnd}
use Rattle.std.specs.List.{Contains}
use Rattle.ls_formats.specs.declared.parts.Parts.{Parts}
use Rattle.ls_formats.specs.PartNames.{PartOf, IsPartOf, part_name_text}
use Rattle.ls_record.specs.Rows.{Rec, IsRecord}
use Rattle.ls_naming.specs.Current.{last_sequence}
use Rattle.ls_board.specs.declared.world.World.{World}
use Rattle.ls_sealing.specs.Protectors.{Protector, has_weaver, held_number}
use Rattle.ls_settings.specs.Loaded.{IsReady}
use Rattle.ls_standing.specs.Books.{books}
use Rattle.ls_standing.specs.NamedProtectors.{NamesProtector}
use Rattle.ls_standing.specs.Standing.{StandsDurably}
use Rattle.ls_vault.specs.declared.session.SessionState.{SessionState}
use Rattle.ls_vault.specs.declared.state.State.{State}
use Rattle.ls_vault.specs.declared.token.PendingToken.{PendingToken}
use Rattle.ls_vault.specs.declared.user.User.{User}
use Rattle.ls_vault.specs.Revealed.{shown_metrics}
use Rattle.ls_vault.specs.Users.{user_of}
use Rattle.ls_protector.specs.Clear.{AreUnnamed}
use Rattle.ls_protector.specs.Parts.{parts_of}
use Rattle.ls_turn.specs.declared.session.Session.{Session}
use Rattle.ls_turn.specs.declared.session.Opened.{Opened}
use Rattle.ls_turn.specs.declared.session.Pending.{Pending}

-- ---- the machine's session

abbrev pub pending_token : Pending → PendingToken
pending_token p = record { user = p.user; id = p.id; bytes = p.token }

abbrev pub users_in : List Opened → List ℕ
users_in opened = map (λ o. o.user) opened

-- the session, as the machine has it
abbrev pub session_of : Session → SessionState
session_of x = record {
  boot = x.boot;
  opened = users_in x.opened.items;
  pending = map pending_token x.pending.items;
  prepared = x.prepared;
  captured = users_in x.captured.items;
}

-- ---- secrets

-- of each of these the vault has the user, with this secret
abbrev pub HaveSecrets : List User → List Opened → Type 0
HaveSecrets users opened =
    (o : Opened) → Contains opened o → IsSomeAnd (user_of users o.user) (λ u. u.secret ≡ o.secret)

-- and what is shown of its credential is what is kept here
abbrev pub HaveMetrics : List User → List Opened → Type 0
HaveMetrics users opened =
    (o : Opened) → Contains opened o
    → IsSomeAnd (user_of users o.user) (λ u. o.metrics ≡ shown_metrics u.credential)

-- ---- protectors

-- what the world has of a protector
abbrev pub parts_in : World → Protector → Parts
parts_in w p = parts_of (has_weaver w) p (held_number w p)

-- These are the protectors that the record names, each with its slot, in any order.
pub record AreNamed (w : World) (r : Rec) (parts : List Parts) : Type 0 where
  pub each : (p : Protector) → NamesProtector r p → Contains parts (parts_in w p)
  pub only : (q : Parts) → Contains parts q
      → (p : Protector) × NamesProtector r p × (q ≡ parts_in w p)

-- the names of the files that these protectors may have left
abbrev pub files_of : List Parts → List (List ℕ)
files_of parts = flat_map (λ p. p.names) parts

-- those of the retired protectors, the oldest first
abbrev pub retired_files : Session → List (List ℕ)
retired_files x = files_of x.retired.items

-- each is the name of a file of a protector
abbrev pub ArePartNames : List (List ℕ) → Type 0
ArePartNames names = (n : List ℕ) → Contains names n
    → (name : PartOf) × IsPartOf name × (name.id ≢ 0) × (n ≡ part_name_text name)

-- ---- agreeing

-- The world stands for the state's vault durably, by the session's settings. What the session knows
-- is so there, and the machine's session and books are its own.
pub record Agrees (w : World) (x : Session) (s : State) : Type 0 where
  pub keeps : IsRecord x.settings.settled.rec
  pub stands : StandsDurably w x.settings.settled s.vault
  pub ready : IsReady w x.settings
  pub books_are : s.books ≡ books w x.settings.settled
  pub session : session_of x ≡ s.session
  pub opened : HaveSecrets s.vault.users x.opened.items
  pub metrics : HaveMetrics s.vault.users x.opened.items
  pub captured : HaveSecrets s.vault.users x.captured.items
  pub named : AreNamed w x.settings.settled.rec x.named.items
  pub slots : length w.slots ≡ x.slots
  -- the record names no file that was retired
  pub retired : AreUnnamed w x.settings.settled.rec (retired_files x)
  -- no call of it has stopped
  pub going : x.stopped ≡ None
  -- Once it has prepared, nothing is armed any more, but where nothing can be kept.
  pub prepared : x.prepared ≡ true → x.settings.settled.sequence ≢ last_sequence
      → x.settings.settled.rec.armed ≡ None
