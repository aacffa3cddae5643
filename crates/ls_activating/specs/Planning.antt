-- The activation of tokens, planned.
use Rattle.std.specs.Prelude.{◌≡◌, ◌≢◌, ℕ, true, IsTrue, List, [], ◌∷◌, ◌++◌, ◌*◌, map, length, drop, find, ◌==◌, Option, Some, is_some, Result, Ok, Err}
use Rattle.std.specs.List.{Contains}
use Rattle.ls_board.specs.declared.world.World.{World}
use Rattle.ls_board.specs.Acts.{Sight}
use Rattle.ls_board.specs.declared.action.BoardFault.TheVariants as board
use Rattle.ls_chain.specs.declared.fault.ChainFault.{ChainFault}
use Rattle.ls_chain.specs.declared.fault.ChainFault.TheVariants.{Corrupt, Failed, Memory}
use Rattle.ls_drawing.specs.Passing.{GoesOn, StopsBy, IsStored}
use Rattle.ls_edits.specs.Rows.{with_more_tokens}
use Rattle.ls_exchange.specs.Exchanges.{Exchanged}
use Rattle.ls_formats.specs.Contents.{AreBytes}
use Rattle.ls_naming.specs.Current.{last_sequence}
use Rattle.ls_placing.specs.Placing.{IsFreeSlot, slot_list, slots_of}
use Rattle.ls_protector.specs.Drafts.{drafted, MayBeAsked}
use Rattle.ls_protector.specs.Steps.{Drafted}
use Rattle.ls_record.specs.declared.edit.Edit.TheVariants.{PutRow}
use Rattle.ls_record.specs.declared.row.UserRow.{UserRow}
use Rattle.ls_record.specs.Edits.{changed}
use Rattle.ls_record.specs.Rows.{IsRecord}
use Rattle.ls_sealing.specs.Building.{for_token}
use Rattle.ls_sealing.specs.Draws.{token_draw_size}
use Rattle.ls_secret.specs.Secrets.{SecretValue, IsSecret}
use Rattle.ls_settings.specs.Commits.{IsCommit}
use Rattle.ls_script.specs.declared.reply.Reply.TheVariants.{Fine}
use Rattle.ls_vault.specs.declared.state.State.{State}
use Rattle.ls_vault.specs.Drawn.{token_len}
use Rattle.ls_vault.specs.TokenChanges.{tokens_activated}
use Rattle.ls_turn.specs.declared.session.Opened.{Opened}
use Rattle.ls_turn.specs.declared.session.Pending.{Pending}
use Rattle.ls_turn.specs.declared.session.Session.{Session}
use Rattle.ls_turn.specs.Agreeing.{retired_files}
use Rattle.ls_turn.specs.Refusing.{row_of}
use Rattle.ls_turn.specs.Serving.{Turned}
use Rattle.ls_activating.specs.declared.planned.Planned.{Planned}
use Rattle.ls_activating.specs.Activating.{SayNone}
use Rattle.ls_activating.specs.Counting.{count_for, chosen_for, token_ids}
use Rattle.ls_activating.specs.Halves.{half_at}

-- ---- the new protectors

-- a token that becomes active, the slot of its protector, and the bytes that are drawn for it
pub record Made : Type 0 where
  pub token : Pending
  pub slot : Option ℕ
  pub bytes : List ℕ

-- its draft, for a user, by the version and the first half of the secret
abbrev pub draft_of : ℕ → ℕ → List ℕ → List ℕ → Made → Drafted
draft_of user version p0 gk_key m =
    drafted user m.token.id m.slot (for_token m.token.token version p0) m.bytes gk_key

-- each slot is free beside these and beside those before it
abbrev pub AreFree : ℕ → List ℕ → List Made → Type 0
AreFree slots taken [] = Unit {0}
AreFree slots taken (m ∷ made) =
    IsFreeSlot slots taken m.slot × AreFree slots (taken ++ slot_list m.slot) made

-- These are the drafts of protectors for the tokens, in order, at free slots, whatever the Gatekeeper's
-- key is.
pub record AreDrafts (slots user version : ℕ) (p0 taken : List ℕ) (tokens : List Pending)
    (drafts : List Drafted) : Type 0 where
  pub made : List Made
  pub tokens_are : map (λ m. m.token) made ≡ tokens
  pub free : AreFree slots taken made
  pub bytes : (m : Made) → Contains made m → AreBytes (token_draw_size (is_some m.slot)) m.bytes
  pub drafts_are : (gk_key : List ℕ) → drafts ≡ map (draft_of user version p0 gk_key) made
  pub asked : (d : Drafted) → Contains drafts d → MayBeAsked slots d.plan

-- The draft of one more, at a free slot, which is taken then.
pub record AddsOne (slots user version : ℕ) (p0 taken : List ℕ) (token : Pending) (bytes then : List ℕ)
    (old new : List Drafted) : Type 0 where
  pub slot : Option ℕ
  pub free : IsFreeSlot slots taken slot
  pub are : AreBytes (token_draw_size (is_some slot)) bytes
  pub takes : then ≡ taken ++ slot_list slot
  pub draft : Drafted
  pub behind : new ≡ old ++ draft ∷ []
  pub draft_is : (gk_key : List ℕ)
      → draft ≡ draft_of user version p0 gk_key (record { token = token; slot = slot; bytes = bytes })
  pub asked : MayBeAsked slots draft.plan

-- such drafts stand behind those that were there
pub record AddsDrafts (slots user version : ℕ) (p0 taken : List ℕ) (tokens : List Pending)
    (old new : List Drafted) : Type 0 where
  pub more : List Drafted
  pub behind : new ≡ old ++ more
  pub are : AreDrafts slots user version p0 taken tokens more

-- ---- the plan

-- The plan for the user with this row and this secret, the first half of which this is.
pub record IsPlan (x : Session) (row : UserRow) (tokens : List Pending) (version : ℕ) (p0 : List ℕ)
    (k : Planned) : Type 0 where
  pub ids : k.ids ≡ token_ids tokens
  pub drafts : AreDrafts x.slots row.user version p0 (slots_of x.named.items) tokens k.drafts.items
  pub commit : IsCommit x.settings k.commit.to k.commit.actions
  pub next : k.commit.to.settled.rec
      ≡ changed x.settings.settled.rec (PutRow (with_more_tokens (token_ids tokens) row))

-- what a session knows of an opened user
abbrev pub IsEntry : Session → ℕ → Opened → Type 0
IsEntry x user entry = find (λ o. o.user == user) x.opened.items ≡ Some entry

-- so much of the noise of the one world is taken in the other, and that is all
abbrev pub TakesNoise : ℕ → World → World → Type 0
TakesNoise len old new = new ≡ record old { noise = drop len old.noise }

-- The plan is made over a board as it stands: the half is that of the user's `e0` file.
pub record IsPlanBy (b : Sight) (x : Session) (row : UserRow) (s : SecretValue) (tokens : List Pending)
    (k : Planned) : Type 0 where
  pub secret : IsSecret s
  pub p0 : List ℕ
  pub bytes : AreBytes 32 p0
  pub half : IsTrue b.told → half_at row.user s b.world ≡ Ok p0
  pub plan : IsPlan x row tokens s.version p0 k

-- It is made by calls from the one sight to the other, which take the noise for it.
pub record IsPlanFrom (old new : Sight) (x : Session) (row : UserRow) (s : SecretValue)
    (tokens : List Pending) (k : Planned) : Type 0 where
  pub by : IsPlanBy new x row s tokens k
  pub noise : IsTrue old.told
      → TakesNoise (length tokens * token_len x.slots) old.world new.world

-- It is the plan for an opened user who has a row. The settings can be changed once more, and no file
-- that is left says an id.
pub record IsPlannedFor (b : Sight) (x : Session) (user : ℕ) (k : Planned) : Type 0 where
  pub rules : IsRecord x.settings.settled.rec
  pub row : UserRow
  pub found : row_of x.settings.settled.rec user ≡ Some row
  pub entry : Opened
  pub opened : IsEntry x user entry
  pub some : count_for x user ≢ 0
  pub none : SayNone (retired_files x) (chosen_for x user)
  pub by : IsPlanBy b x row entry.secret (chosen_for x user) k

-- It is made by calls from the one sight to the other.
pub record IsReadyFor (old new : Sight) (x : Session) (user : ℕ) (k : Planned) : Type 0 where
  pub planned : IsPlannedFor new x user k
  pub noise : IsTrue old.told
      → TakesNoise (count_for x user * token_len x.slots) old.world new.world

-- ---- the calls before it

-- A plan is made, and the command goes on behind the calls; or the user's `e0` file is at fault, and it
-- goes on behind them; or one of them fails.
abbrev pub EndsAt : (Planned → Type 0) → ℕ → SecretValue → Sight → Result Planned ChainFault → Sight → Type 0
EndsAt P user s old (Ok k) new = GoesOn old new × P k
EndsAt P user s old (Err (Corrupt at)) new =
    GoesOn old new × (IsTrue old.told → half_at user s new.world ≡ Err at)
EndsAt P user s old (Err (Failed part)) new = StopsBy old (board.Failed part) new
EndsAt P user s old (Err Memory) new = StopsBy old board.Memory new

pub record PassesTo (P : Planned → Type 0) (user : ℕ) (s : SecretValue) (old : Sight)
    (result : Result Planned ChainFault) (new : Sight) : Type 0 where
  pub ends : EndsAt P user s old result new
  pub stored : IsTrue old.told → IsStored old.world new.world

-- what is carried out
abbrev pub exchange_of : Planned → Exchanged
exchange_of k = record {
  drafts = k.drafts.items;
  others = [];
  commit = k.commit;
  retire = [];
  after = [];
}

-- what the machine answers: `Fine`, with the moments and the noise that the world has left
abbrev pub activated_turn : World → State → ℕ → ℕ → Turned
activated_turn w s user count = record {
  reply = Fine;
  stage = record {
    state = tokens_activated count s user;
    moments = w.moments;
    noise = w.noise;
  };
}
