-- The change that adds a user, planned.
use Rattle.std.specs.Prelude.{◌≡◌, ◌≢◌, ◌<◌, ◌∷◌, [], ℕ, Bool, IsTrue, List, None, length, drop}
use Rattle.ls_board.specs.declared.world.World.{World}
use Rattle.ls_board.specs.Acts.{Sight}
use Rattle.ls_exchange.specs.Exchanges.{Exchanged}
use Rattle.ls_naming.specs.Current.{last_sequence}
use Rattle.ls_placing.specs.Placing.{HasNewPlace}
use Rattle.ls_protector.specs.Drafts.{drafted, IsSignedDraft, MayBeAsked}
use Rattle.ls_record.specs.declared.edit.Edit.TheVariants.{PutRow}
use Rattle.ls_record.specs.Edits.{changed}
use Rattle.ls_record.specs.Rows.{IsRecord}
use Rattle.ls_script.specs.declared.reply.Reply.TheVariants.{Fine}
use Rattle.ls_sealing.specs.Building.{for_credential}
use Rattle.ls_settings.specs.Commits.{IsCommit}
use Rattle.ls_tape.specs.Tape.{drawn as drawn_bytes}
use Rattle.ls_turn.specs.declared.session.Session.{Session}
use Rattle.ls_turn.specs.Agreeing.{retired_files}
use Rattle.ls_turn.specs.Refusing.{row_of}
use Rattle.ls_turn.specs.Serving.{FitsBoard, Turned}
use Rattle.ls_vault.specs.declared.state.State.{State}
use Rattle.ls_vault.specs.UserChanges.{added}
use Rattle.ls_enrolling.specs.declared.numbers.Numbers.{Numbers}
use Rattle.ls_enrolling.specs.declared.planned.Planned.{Planned}
use Rattle.ls_enrolling.specs.Enrolling.{Chosen, IsChosen, draw_len, half_files, protector_bytes, row_then, user_then}

-- what is chosen of the new user
abbrev pub chosen_by : ℕ → Bool → List ℕ → Numbers → Chosen
chosen_by user escrow drawn n =
    record { user = user; escrow = escrow; id = n.id; slot = n.slot; drawn = drawn }

abbrev pub chosen_of : ℕ → Bool → List ℕ → Planned → Chosen
chosen_of user escrow drawn k =
    record { user = user; escrow = escrow; id = k.id; slot = k.slot; drawn = drawn }

-- The choice fits the record, and the place is new.
pub record IsChoice (x : Session) (n : Chosen) : Type 0 where
  pub chosen : IsChosen x.settings.settled.rec n
  pub place : HasNewPlace x.named.items (retired_files x) n.id n.slot
  pub fits : FitsBoard x.slots n.slot

-- The record has no row of the user, and room for one more.
pub record MayCome (x : Session) (user : ℕ) : Type 0 where
  pub rules : IsRecord x.settings.settled.rec
  pub none : row_of x.settings.settled.rec user ≡ None
  pub few : length x.settings.settled.rec.users < 16

-- The plan for a new user, by the drawn bytes, made over a board as it stands. What is written is of a
-- choice that fits the record, at a place that is new; where the board tells its world it is that by its
-- Gatekeeper's key.
pub record IsPlan (b : Sight) (x : Session) (user : ℕ) (escrow : Bool) (drawn : List ℕ)
    (k : Planned) : Type 0 where
  pub choice : IsChoice x (chosen_of user escrow drawn k)
  pub draft : IsSignedDraft user k.id k.slot (user_then (chosen_of user escrow drawn k)).credential
      (user_then (chosen_of user escrow drawn k)).secret (protector_bytes escrow drawn) k.draft
  pub asked : MayBeAsked x.slots k.draft.plan
  pub written : IsTrue b.told
      → k.draft ≡ drafted user k.id k.slot
      (for_credential (user_then (chosen_of user escrow drawn k)).credential
      (user_then (chosen_of user escrow drawn k)).secret)
      (protector_bytes escrow drawn) b.world.gk_key
  pub others : k.others
      ≡ half_files user escrow (user_then (chosen_of user escrow drawn k)).secret drawn
  pub commit : IsCommit x.settings k.commit.to k.commit.actions
  pub next : k.commit.to.settled.rec
      ≡ changed x.settings.settled.rec (PutRow (row_then (chosen_of user escrow drawn k)))

-- It is the plan for a user who may come; the settings can be changed once more.
pub record IsPlannedFor (b : Sight) (x : Session) (user : ℕ) (escrow : Bool)
    (k : Planned) : Type 0 where
  pub may : MayCome x user
  pub fresh : x.settings.settled.sequence ≢ last_sequence
  pub drawn : List ℕ
  pub plan : IsPlan b x user escrow drawn k

-- It is made by the bytes that are drawn between the two sights; where the world is told they are its
-- noise, and only that is less.
pub record IsReadyFor (old new : Sight) (x : Session) (user : ℕ) (escrow : Bool)
    (k : Planned) : Type 0 where
  pub planned : IsPlannedFor new x user escrow k
  pub bytes : IsTrue old.told
      → planned.drawn ≡ drawn_bytes old.world.noise (draw_len x.slots escrow)
  pub noise : IsTrue old.told
      → new.world ≡ record old.world { noise = drop (draw_len x.slots escrow) old.world.noise }

-- what is carried out
abbrev pub exchange_of : Planned → Exchanged
exchange_of k = record {
  drafts = k.draft ∷ [];
  others = k.others;
  commit = k.commit;
  retire = [];
  after = [];
}

-- what the machine answers: `Fine`, with the moments and the noise that the world has left
abbrev pub added_turn : World → State → ℕ → Bool → List ℕ → Turned
added_turn w s user escrow drawn = record {
  reply = Fine;
  stage = record {
    state = added s user escrow drawn;
    moments = w.moments;
    noise = w.noise;
  };
}
