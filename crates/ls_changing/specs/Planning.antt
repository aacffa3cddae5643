-- The change that gives a user another credential, planned.
use Rattle.std.specs.Prelude.{◌≡◌, ◌<◌, ◌^◌, ◌&&◌, ◌∷◌, [], not, ℕ, true, IsTrue, if◌then◌else◌, ◌+◌, List, map, drop, find, ◌==◌, ◌≢◌, Some, is_some}
use Rattle.ls_board.specs.declared.world.World.{World}
use Rattle.ls_board.specs.Acts.{Sight}
use Rattle.ls_board.specs.Gatekeeper.{signed}
use Rattle.ls_credential.specs.Rules.{KindAndText}
use Rattle.ls_exchange.specs.Exchanges.{Exchanged}
use Rattle.ls_formats.specs.Contents.{AreBytes}
use Rattle.ls_formats.specs.declared.parts.Parts.{Parts}
use Rattle.ls_placing.specs.Placing.{HasNewPlace}
use Rattle.ls_protector.specs.Drafts.{drafted, IsSignedDraft, MayBeAsked}
use Rattle.ls_record.specs.declared.edit.Edit.TheVariants.{PutRow}
use Rattle.ls_record.specs.declared.row.UserRow.{UserRow}
use Rattle.ls_naming.specs.Current.{last_sequence}
use Rattle.ls_record.specs.Edits.{changed}
use Rattle.ls_record.specs.Rows.{IsRecord}
use Rattle.ls_sealing.specs.Building.{for_credential}
use Rattle.ls_sealing.specs.Draws.{credential_draw_size}
use Rattle.ls_secret.specs.declared.personal.Personal.TheVariants.{SpGkAuthentication}
use Rattle.ls_secret.specs.Derivation.{subkey_of}
use Rattle.ls_secret.specs.Secrets.{SecretValue}
use Rattle.ls_secret.specs.Subkeys.{subkey_bytes}
use Rattle.ls_settings.specs.Commits.{IsCommit}
use Rattle.ls_vault.specs.Fresh.{fresh, drawn_number}
use Rattle.ls_vault.specs.Kinds.{is_empty}
use Rattle.ls_turn.specs.declared.session.Session.{Session}
use Rattle.ls_turn.specs.declared.session.Opened.{Opened}
use Rattle.ls_turn.specs.Refusing.{row_of}
use Rattle.ls_turn.specs.Agreeing.{retired_files}
use Rattle.ls_turn.specs.Serving.{FitsBoard, Turned}
use Rattle.ls_script.specs.declared.reply.Reply.TheVariants.{Fine}
use Rattle.ls_vault.specs.declared.state.State.{State}
use Rattle.ls_vault.specs.Credentials.{credential_changed}
use Rattle.ls_tape.specs.Tape.{drawn as drawn_bytes}
use Rattle.ls_vault.specs.Drawn.{credential_len}
use Rattle.ls_changing.specs.declared.numbers.Numbers.{Numbers}
use Rattle.ls_changing.specs.Drawing.{own_len}
use Rattle.ls_changing.specs.declared.planned.Planned.{Planned}
use Rattle.ls_changing.specs.Replacing.{Chosen, IsChosen, row_then, comes, enrolling, forgetting}

-- what is chosen of the user with this row
abbrev pub chosen_of : UserRow → KindAndText → Planned → Chosen
chosen_of row c k =
    record { row = row; credential = c; id = k.id; slot = k.slot; secure = k.secure }

abbrev pub chosen_by : UserRow → KindAndText → Numbers → Chosen
chosen_by row c n =
    record { row = row; credential = c; id = n.id; slot = n.slot; secure = n.secure }

-- The secure id then, by the drawn bytes: 0 without a credential, a new one for the first credential,
-- else as it was.
abbrev pub secure_for : List UserRow → UserRow → KindAndText → List ℕ → ℕ
secure_for rows row c drawn =
    if is_empty c.kind then 0
    else if is_empty row.kind && not (is_empty c.kind)
    then fresh (drawn_number drawn) (map (λ r. r.secure) rows)
    else row.secure

-- The plan for the user with this row and this secret, by the drawn bytes, made over a board as it
-- stands. What is written is of a choice that fits the record, at a place that is new; where the board
-- tells its world it is that by its Gatekeeper's key.
pub record IsPlan (b : Sight) (x : Session) (row : UserRow) (c : KindAndText) (s : SecretValue)
    (drawn : List ℕ) (k : Planned) : Type 0 where
  pub gone : k.gone ≡ row.protector
  pub chosen : IsChosen x.settings.settled.rec (chosen_of row c k)
  pub place : HasNewPlace x.named.items (retired_files x) k.id k.slot
  pub fits : FitsBoard x.slots k.slot
  pub secure : k.secure ≡ secure_for x.settings.settled.rec.users row c drawn
  -- those of the drawn bytes that are for the protector
  pub bytes : List ℕ
  pub are : AreBytes (credential_draw_size (is_some k.slot) c.kind) bytes
  pub draft : IsSignedDraft row.user k.id k.slot c s bytes k.draft
  pub asked : MayBeAsked x.slots k.draft.plan
  pub written : IsTrue b.told
      → k.draft ≡ drafted row.user k.id k.slot (for_credential c s) bytes b.world.gk_key
  -- the handle of a secure id that comes
  pub handle : List ℕ
  pub salt : ℕ
  pub small : salt < 2 ^ 64
  pub signs : IsTrue b.told → comes row.secure k.secure ≡ true
      → handle ≡ signed b.world.gk_key k.secure salt (subkey_bytes (subkey_of s SpGkAuthentication))
  pub others : k.others ≡ enrolling row k.secure handle
  pub after : k.after ≡ forgetting row k.secure
  pub commit : IsCommit x.settings k.commit.to k.commit.actions
  pub next : k.commit.to.settled.rec
      ≡ changed x.settings.settled.rec (PutRow (row_then (chosen_of row c k)))

-- The numbers are chosen: they fit the record, and the place is new.
pub record IsChoice (x : Session) (row : UserRow) (c : KindAndText) (drawn : List ℕ)
    (n : Numbers) : Type 0 where
  pub chosen : IsChosen x.settings.settled.rec (chosen_by row c n)
  pub place : HasNewPlace x.named.items (retired_files x) n.id n.slot
  pub fits : FitsBoard x.slots n.slot
  pub secure : n.secure ≡ secure_for x.settings.settled.rec.users row c drawn

-- how many bytes are drawn
abbrev pub draw_len : ℕ → UserRow → KindAndText → ℕ
draw_len slots row c =
    own_len (is_empty row.kind && not (is_empty c.kind)) + credential_len slots c.kind

-- The plan is made by the bytes that are drawn between the two sights; where the world is told they
-- are its noise, and only that is less.
pub record IsDrawnFor (old new : Sight) (x : Session) (row : UserRow) (c : KindAndText)
    (s : SecretValue) (k : Planned) : Type 0 where
  pub bytes : List ℕ
  pub drawn : IsTrue old.told → bytes ≡ drawn_bytes old.world.noise (draw_len x.slots row c)
  pub noise : IsTrue old.told
      → new.world ≡ record old.world { noise = drop (draw_len x.slots row c) old.world.noise }
  pub plan : IsPlan new x row c s bytes k

-- It is the plan for an opened user who has a row; the settings can be changed once more.
pub record IsPlannedFor (b : Sight) (x : Session) (user : ℕ) (c : KindAndText)
    (k : Planned) : Type 0 where
  pub rules : IsRecord x.settings.settled.rec
  pub row : UserRow
  pub found : row_of x.settings.settled.rec user ≡ Some row
  pub entry : Opened
  pub opened : find (λ o. o.user == user) x.opened.items ≡ Some entry
  pub fresh : x.settings.settled.sequence ≢ last_sequence
  pub drawn : List ℕ
  pub plan : IsPlan b x row c entry.secret drawn k

-- what is carried out, with the protector that is let go
abbrev pub exchange_of : Planned → Parts → Exchanged
exchange_of k gone = record {
  drafts = k.draft ∷ [];
  others = k.others;
  commit = k.commit;
  retire = gone ∷ [];
  after = k.after;
}

-- what the machine answers: `Fine`, with the moments and the noise that the world has left
abbrev pub changed_turn : World → State → ℕ → KindAndText → List ℕ → Turned
changed_turn w s user c drawn = record {
  reply = Fine;
  stage = record {
    state = credential_changed s user c drawn;
    moments = w.moments;
    noise = w.noise;
  };
}

-- The plan for a user is made by the bytes that are drawn between the two sights; where the world is
-- told they are its noise, and only that is less.
pub record IsReadyFor (old new : Sight) (x : Session) (user : ℕ) (c : KindAndText)
    (k : Planned) : Type 0 where
  pub planned : IsPlannedFor new x user c k
  pub bytes : IsTrue old.told
      → planned.drawn ≡ drawn_bytes old.world.noise (draw_len x.slots planned.row c)
  pub noise : IsTrue old.told
      → new.world
      ≡ record old.world { noise = drop (draw_len x.slots planned.row c) old.world.noise }
