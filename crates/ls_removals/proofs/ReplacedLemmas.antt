-- A row with fewer parts is put for a user: where it leads.
use Rattle.std.proofs.Common.{◌≡◌, ◌≢◌, ℕ, List, map, Some, refl, sym, ◌∙◌, ap, subst}
use Rattle.std.specs.List.{Contains}
use Rattle.ls_board.specs.declared.world.World.{World}
use Rattle.ls_credential.specs.Rules.{KindAndText}
use Rattle.ls_edits.specs.Rows.{HasNoNewPart}
use Rattle.ls_edits.proofs.PutLemmas.{replaced}
use Rattle.ls_edits.proofs.SoundRowLemmas.{less_sound}
use Rattle.ls_naming.specs.Current.{last_sequence}
use Rattle.ls_record.specs.declared.edit.Edit.TheVariants.{PutRow}
use Rattle.ls_record.specs.declared.row.UserRow.{UserRow}
use Rattle.ls_record.specs.Edits.{changed as edited}
use Rattle.ls_record.specs.Rows.{Rec, IsRow}
use Rattle.ls_script.specs.declared.reply.Reply.TheVariants.{Fine}
use Rattle.ls_standing.specs.Named.{held_of_row}
use Rattle.ls_standing.specs.Standing.{Holds, HoldsUser}
use Rattle.ls_vault.specs.declared.session.SessionState.{SessionState}
use Rattle.ls_vault.specs.declared.state.State.{State}
use Rattle.ls_vault.specs.declared.token.PendingToken.{PendingToken}
use Rattle.ls_vault.specs.declared.user.User.{User}
use Rattle.ls_vault.specs.declared.vault.Books.{Books}
use Rattle.ls_vault.specs.Revealed.{shown_metrics}
use Rattle.ls_vault.specs.States.{committed, with_pending, with_users}
use Rattle.ls_vault.specs.Users.{changed}
use Rattle.ls_turn.specs.declared.session.Opened.{Opened}
use Rattle.ls_turn.specs.declared.session.Session.{Session}
use Rattle.ls_turn.specs.Agreeing.{Agrees, HaveMetrics, HaveSecrets, pending_token, session_of}
use Rattle.ls_turn.specs.Refusing.{row_of}
use Rattle.ls_turn.specs.Serving.{Turned, stage_in}
use Rattle.ls_turn.proofs.RowLemmas.{row_found}
use Rattle.ls_users.proofs.UserLemmas.{user_changed}
use Rattle.ls_removals.specs.Letting.{LeavesTo}
use Rattle.ls_removals.proofs.LessLemmas.{may}

-- the user is the same but for its tokens
pub record IsSameUser (change : User → User) (u : User) : Type 0 where
  pub number : (change u).number ≡ u.number
  pub secret : (change u).secret ≡ u.secret
  pub credential : (change u).credential ≡ u.credential

module _ (w : World) (x : Session) (s : State) (a : Agrees w x s) (user : ℕ) (old row : UserRow) (found : row_of x.settings.settled.rec user ≡ Some old)
    (less : HasNoNewPart old row) (fits : IsRow row) (change : User → User) (same : (u : User) → IsSameUser change u)
    (held : (u : User) → HoldsUser old (held_of_row w x.settings.settled.rec.armed old) u → HoldsUser row (held_of_row w x.settings.settled.rec.armed row) (change u)) where
  abbrev r : Rec
  r = x.settings.settled.rec

  abbrev next : Rec
  next = edited r (PutRow row)

  here : Contains r.users old
  here = (row_found user r.users old found).0

  its_user : row.user ≡ user
  its_user = less.user ∙ (row_found user r.users old found).1

  abbrev users_then : List User
  users_then = changed s.vault.users user change

  holds_then : Holds w next (record s.vault { users = users_then })
  holds_then =
      subst (λ (n : ℕ). Holds w next (record s.vault { users = changed s.vault.users n change })) its_user
      (replaced w r row s.vault a.keeps a.stands.stands.holds
      (less_sound w r old row here less a.stands.stands.holds.files (may r a.keeps old row here less fits))
      old change here (sym less.user) (λ u there h. held u h))

  secrets : (items : List Opened) → HaveSecrets s.vault.users items → HaveSecrets users_then items
  secrets items all one has = user_changed (λ u. u.secret ≡ one.secret) s.vault.users user change (λ u. ((same u).number, λ e. (same u).secret ∙ e)) one.user (all one has)

  metrics : (items : List Opened) → HaveMetrics s.vault.users items → HaveMetrics users_then items
  metrics items all one has =
      user_changed (λ u. one.metrics ≡ shown_metrics u.credential) s.vault.users user change
      (λ u. ((same u).number, λ e. e ∙ ap (λ (c : KindAndText). shown_metrics c) (sym (same u).credential))) one.user (all one has)

  module _ (y : Session) (is : y ≡ record x { pending = y.pending }) (pending : List PendingToken) (are : map pending_token y.pending.items ≡ pending)
      (fresh : x.settings.settled.sequence ≢ last_sequence) where
    abbrev left : State
    left = with_pending (with_users s users_then) pending

    its_session : session_of (record x { pending = y.pending }) ≡ left.session
    its_session = ap (λ (t : SessionState). record t { pending = map pending_token y.pending.items }) a.session ∙ ap (λ (l : List PendingToken). record s.session { pending = l }) are

    pub replaced_leads : (t : Turned) → t ≡ record { reply = Fine; stage = record (stage_in w s) { state = committed left } } → LeavesTo w y next s t
    replaced_leads t turn = subst (λ (z : Session). LeavesTo w z next s t) (sym is) (record {
      left = left;
      turn = turn;
      holds = holds_then;
      kept = refl;
      dead = ap (λ (b : Books). b.dead) a.books_are;
      session = its_session;
      opened = secrets x.opened.items a.opened;
      metrics = metrics x.opened.items a.metrics;
      captured = secrets x.captured.items a.captured;
      prepared = λ flag. a.prepared flag fresh;
    })
