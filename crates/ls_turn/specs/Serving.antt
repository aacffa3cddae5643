-- What serving a command does.
use Rattle.std.specs.Prelude.{◌≡◌, ◌≢◌, ◌≤◌, ◌<◌, ◌⊎◌, ℕ, IsTrue, List, length, Option, None, Some, is_some, MatchOption, Result, Ok, Err, IfOk, OnOk}
use Rattle.std.specs.List.{Contains}
use Rattle.ls_board.specs.declared.world.World.{World}
use Rattle.ls_board.specs.Acts.{Sight}
use Rattle.ls_board.specs.Effect.{file_at}
use Rattle.ls_board.specs.Keeping.{Keeps}
use Rattle.ls_board.specs.Runs.{LeavesOnly}
use Rattle.ls_formats.specs.declared.parts.Parts.{Parts}
use Rattle.ls_naming.specs.Current.{Settled}
use Rattle.ls_record.specs.Rows.{Pairs}
use Rattle.ls_script.specs.declared.command.Command.{Command}
use Rattle.ls_script.specs.declared.reply.Reply.{Reply}
use Rattle.ls_script.specs.declared.reply.Reply.TheVariants as reply
use Rattle.ls_sealing.specs.Protectors.{Protector, held_number}
use Rattle.ls_serving.specs.Calls.{IsSilent}
use Rattle.ls_serving.specs.Met.{MetBetween}
use Rattle.ls_serving.specs.Turns.{StaysInside}
use Rattle.ls_settings.specs.Loaded.{IsReady}
use Rattle.ls_standing.specs.Bare.{IsBare, IsStrange}
use Rattle.ls_standing.specs.NamedProtectors.{NamesProtector}
use Rattle.ls_standing.specs.Standing.{StandsDurably}
use Rattle.ls_vault.specs.declared.state.State.{State}
use Rattle.ls_vault.specs.declared.vault.Vault.{Vault}
use Rattle.ls_vault.specs.Script.{Stage, entry_of, stage_after}
use Rattle.ls_protector.specs.Clear.{AreUnnamed}
use Rattle.ls_protector.specs.Parts.{parts_of}
use Rattle.ls_turn.specs.declared.session.Session.{Session}
use Rattle.ls_turn.specs.declared.stop.Cause.{Cause}
use Rattle.ls_turn.specs.declared.stop.Cause.TheVariants as cause
use Rattle.ls_turn.specs.declared.stop.Stop.{Stop}
use Rattle.ls_turn.specs.declared.stop.Stop.TheVariants.{Fault, Memory, Stopped}
use Rattle.ls_turn.specs.Agreeing.{Agrees, ArePartNames, retired_files}
use Rattle.ls_turn.specs.Waiting.{CanWait}

-- ---- what a call asks

-- a slot of a board with so many, and none exactly where it has none
abbrev pub FitsBoard : ℕ → Option ℕ → Type 0
FitsBoard slots slot = MatchOption slot (slots ≡ 0) (λ n. n < slots)

-- of the protector these are the parts, with some slot of the board
abbrev pub IsKeptAs : ℕ → Protector → Parts → Type 0
IsKeptAs slots p q =
    (slot : Option ℕ) × FitsBoard slots slot × (q ≡ parts_of (is_some slot) p slot)

-- each of these is another protector
abbrev pub KeepOnce : List Parts → Type 0
KeepOnce parts = Pairs (λ p q. p.id ≢ q.id) parts

-- no slot is that of two of them
abbrev pub KeepApart : List Parts → Type 0
KeepApart parts = Pairs (λ p q. (n : ℕ) → p.slot ≡ Some n → q.slot ≢ Some n) parts

-- What a call of the session asks, and leaves so where it doesn't stop. There is no vault in it: it is
-- known in every world, also in one that stands for none.
pub record CanServe (b : Sight) (x : Session) : Type 0 where
  pub going : x.stopped ≡ None
  pub slots : x.slots ≡ b.slots
  -- The protectors that it keeps are those that the record names.
  pub each : (p : Protector) → NamesProtector x.settings.settled.rec p
      → (q : Parts) × Contains x.named.items q × IsKeptAs x.slots p q
  pub only : (q : Parts) → Contains x.named.items q
      → (p : Protector) × NamesProtector x.settings.settled.rec p × IsKeptAs x.slots p q
  pub once : KeepOnce x.named.items
  -- What was retired has left files of protectors.
  pub names : ArePartNames (retired_files x)
  -- Where the world is told: the settings are those of the files, loading would make none and none is
  -- touched; of each named `weaver` file that is one the slot is kept, and no slot is kept of
  -- two; and no file that was retired is a settings file or named.
  pub ready : IsTrue b.told → IsReady b.world x.settings
  pub numbers : IsTrue b.told → (p : Protector) → NamesProtector x.settings.settled.rec p
      → (n : ℕ) → held_number b.world p ≡ Some n → Contains x.named.items (parts_of (is_some (Some n)) p (Some n))
  pub apart : IsTrue b.told → KeepApart x.named.items
  pub retired : IsTrue b.told → AreUnnamed b.world x.settings.settled.rec (retired_files x)
  -- Each token that isn't active yet may become so.
  pub waits : CanWait x.settings.settled.rec.users x.pending.items

-- ---- a turn of the machine

-- what the machine answers, and how far it has come then
pub record Turned : Type 0 where
  pub reply : Reply
  pub stage : Stage

-- one command
abbrev pub turned : ℕ → Command → Stage → Turned
turned slots c at =
    record { reply = (entry_of slots at c).reply; stage = stage_after slots at c }

-- the state, with the moments and the noise that the world has left
abbrev pub stage_in : World → State → Stage
stage_in w s = record { state = s; moments = w.moments; noise = w.noise }

-- the vault behind the turn
abbrev pub vault_after : (Stage → Turned) → World → State → Vault
vault_after turn w s = (turn (stage_in w s)).stage.state.vault

-- ---- what a crash leaves

abbrev pub StandsSomehow : World → Vault → Type 0
StandsSomehow w v = (s : Settled) × StandsDurably w s v

-- The image stands for the one vault or for the other, and nothing was said or heard. The books are
-- those of the image.
pub record IsBetween (w : World) (old new : Vault) (image : World) : Type 0 where
  pub either : StandsSomehow image old ⊎ StandsSomehow image new
  pub silent : IsSilent w image

-- ---- what a reply tells

-- It is the machine's. The session agrees with the machine's state, and the moments and the noise
-- are those that are left to the machine.
pub record IsTurn (t : Turned) (reply : Reply) (y : Session) (new : World) : Type 0 where
  pub reply_is : reply ≡ t.reply
  pub agrees : Agrees new y t.stage.state
  pub moments : new.moments ≡ t.stage.moments
  pub noise : new.noise ≡ t.stage.noise

-- how many users it tells of
abbrev pub users_told : Reply → ℕ
users_told (reply.Users users) = length users
users_told (reply.Resumed users) = length users
users_told _ = 0

-- ---- the session afterwards

-- why it has stopped then
abbrev pub stopped_by : Stop → Option Cause → Option Cause
stopped_by (Fault part) was = Some (cause.Fault part)
stopped_by Memory was = Some cause.Memory
stopped_by (Stopped c) was = was

abbrev pub KeepsCause : {T : Type 0} → Session → Result T Stop → Session → Type 0
KeepsCause x (Ok t) y = y.stopped ≡ x.stopped
KeepsCause x (Err stop) y = y.stopped ≡ stopped_by stop x.stopped

-- each file outside the grammar is as it was
abbrev pub KeepsStrange : World → World → Type 0
KeepsStrange old new = (n : List ℕ) → IsStrange n → file_at new n ≡ file_at old n

-- where the world was bare but for what had been retired, it is so again
abbrev pub StaysBare : World → Session → World → Session → Type 0
StaysBare old x new y = (start : World)
    → IsBare start old x.settings.settled.rec (retired_files x)
    → IsBare start new y.settings.settled.rec (retired_files y)

-- ---- serving

-- Nothing that is offered matches by chance in a world that these calls met and that stands for the
-- vault before them.

-- nothing is offered
abbrev pub Always : World → State → Type 0
Always w s = Unit {0}

abbrev pub MeetsFair : (World → State → Type 0) → Sight → Sight → State → Type 0
MeetsFair fair old new s = (w : World) → MetBetween old new w → StandsSomehow w s.vault → fair w s

-- What serving a command does, on any board, where no call of the session has stopped.
pub record Serves (old : Sight) (x : Session) (turn : Stage → Turned) (fair : World → State → Type 0)
    (result : Result Reply Stop) (y : Session) (new : Sight) : Type 0 where
  -- A fault comes only where a count rose, and no other answer where one grew.
  pub keeps : Keeps Fault old new result
  pub slots : y.slots ≡ x.slots
  pub boot : y.boot ≡ x.boot
  pub cause : KeepsCause x result y
  pub going : (c : Cause) → result ≡ Err (Stopped c) → ⊥
  -- The next call may be made.
  pub can : OnOk result (CanServe new y)
  pub few : IfOk result (λ r. users_told r ≤ 16)
  -- Nothing is said or heard, and what isn't the service's own stays.
  pub silent : IsTrue old.told → IsSilent old.world new.world
  pub inside : IsTrue old.told → StaysInside old new
  pub strange : IsTrue old.told → OnOk result (KeepsStrange old.world new.world)
  -- At each moment, and within each call, a crash leaves the vault before or after.
  pub crash : IsTrue old.told → (s : State) → Agrees old.world x s → MeetsFair fair old new s
      → LeavesOnly old new (IsBetween old.world s.vault (vault_after turn old.world s))
  -- The reply and what it leaves are the machine's.
  pub done : IsTrue old.told → (s : State) → Agrees old.world x s → MeetsFair fair old new s
      → IfOk result (λ r. IsTurn (turn (stage_in old.world s)) r y new.world)
  -- Nothing is left that isn't named or retired.
  pub bare : IsTrue old.told → (s : State) → Agrees old.world x s → MeetsFair fair old new s
      → OnOk result (StaysBare old.world x new.world y)
