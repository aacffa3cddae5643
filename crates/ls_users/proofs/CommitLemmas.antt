-- The row that shows the length of a PIN otherwise is committed, as the machine keeps the flag.
use Rattle.std.proofs.Common.{◌≡◌, ◌≢◌, ◌+◌, ◌++◌, ℕ, Bool, true, List, Option, Some, refl, sym, ◌∙◌, ap, subst}
use Rattle.std.specs.Prelude.{is_some, IsSomeAnd}
use Rattle.std.specs.List.{Contains}
use Rattle.std.proofs.lemmas.Bool.{ne_eqb}
use Rattle.std.proofs.lemmas.List.{append-nil}
use Rattle.ls_board.specs.declared.world.World.{World}
use Rattle.ls_board.specs.Acts.{Sight}
use Rattle.ls_board.specs.Reach.{SameBut, AllTouchOnly}
use Rattle.ls_board.specs.Runs.{AllSound, AllApply, after_all}
use Rattle.ls_board.proofs.FrameLemmas.{plan_same}
use Rattle.ls_change.specs.declared.work.Work.{Work}
use Rattle.ls_change.specs.Work.{IsQuietWork, actions_of, next_of, staged}
use Rattle.ls_credential.specs.declared.kind.Kind.{Kind}
use Rattle.ls_edits.specs.Rows.{HasNoNewPart, with_pin}
use Rattle.ls_edits.proofs.KeepingLemmas.{pin_held}
use Rattle.ls_edits.proofs.MayLemmas.{may_put_less, pin_row}
use Rattle.ls_edits.proofs.PutLemmas.{replaced, put_untouched}
use Rattle.ls_edits.proofs.SoundRowLemmas.{less_sound, less_untouched}
use Rattle.ls_naming.specs.Current.{last_sequence}
use Rattle.ls_protector.specs.Clear.{AreUnnamed}
use Rattle.ls_protector.specs.Parts.{parts_of}
use Rattle.ls_record.specs.declared.edit.Edit.TheVariants.{PutRow}
use Rattle.ls_record.specs.declared.row.UserRow.{UserRow}
use Rattle.ls_record.specs.Edits.{changed as edited, MayChange}
use Rattle.ls_record.specs.Rows.{Rec, IsRecord, IsRow, is_shown_length}
use Rattle.ls_record.proofs.ChangeLemmas.{changed_keeps}
use Rattle.ls_script.specs.declared.command.Command.TheVariants as command
use Rattle.ls_script.specs.declared.reply.Reply.TheVariants.{Fine}
use Rattle.ls_sealing.specs.Protectors.{Protector, held_number}
use Rattle.ls_settings.specs.Loaded.{IsReady, settings_reach}
use Rattle.ls_standing.specs.Bare.{IsBare}
use Rattle.ls_standing.specs.Books.{dead_users}
use Rattle.ls_standing.specs.Named.{held_of_row}
use Rattle.ls_standing.specs.NamedProtectors.{NamesProtector}
use Rattle.ls_standing.specs.Quiet.{unnamed}
use Rattle.ls_standing.specs.Standing.{Holds, HoldsUser, NamedAreUntouched}
use Rattle.ls_standing.proofs.BareLemmas.{bare_settings, strange_kept}
use Rattle.ls_standing.proofs.PairLemmas.{each_in}
use Rattle.ls_vault.specs.declared.state.State.{State}
use Rattle.ls_vault.specs.declared.user.User.{User}
use Rattle.ls_vault.specs.declared.vault.Books.{Books}
use Rattle.ls_vault.specs.declared.vault.Vault.{Vault}
use Rattle.ls_vault.specs.Refusals.{differs}
use Rattle.ls_vault.specs.Revealed.{shown_metrics}
use Rattle.ls_vault.specs.States.{committed, with_users}
use Rattle.ls_vault.specs.Users.{changed, user_of}
use Rattle.ls_turn.specs.declared.session.Session.{Session}
use Rattle.ls_turn.specs.declared.session.Opened.{Opened}
use Rattle.ls_turn.specs.Agreeing.{Agrees, AreNamed, HaveMetrics, HaveSecrets, retired_files}
use Rattle.ls_turn.specs.Refusing.{row_of}
use Rattle.ls_turn.specs.Serving.{CanServe, KeepApart, Turned, turned, stage_in}
use Rattle.ls_turn.specs.Waiting.{CanWait}
use Rattle.ls_turn.specs.Working.{Commits, IsSoundWork, KeepsNamed, LeadsTo, LeavesKept}
use Rattle.ls_turn.proofs.RowLemmas.{row_found, user_there}
use Rattle.ls_turn.proofs.WaitLemmas.{wait_alike}
use Rattle.ls_users.specs.Pins.{shown_pin}
use Rattle.ls_users.specs.Putting.{PutsRow}
use Rattle.ls_users.proofs.AnswerLemmas.{open_now}
use Rattle.ls_users.proofs.FoundLemmas.{entry_of, entry_found}
use Rattle.ls_users.proofs.PinLemmas.{shown_is}
use Rattle.ls_users.proofs.PutLemmas.{protector_on, protector_back, bare_on, number_same, named_on, unnamed_on}
use Rattle.ls_users.proofs.TurnLemmas.{auto_kept}
use Rattle.ls_users.proofs.UserLemmas.{user_changed}

no_new_part : (row : UserRow) (on : Bool) (pin : ℕ) → HasNoNewPart row (with_pin on pin row)
no_new_part row on pin = record { user = refl; kind = refl; protector = refl; secure = refl; escrow = λ e. e; tokens = λ id has. has }

-- the row may be put
pub pin_may : (r : Rec) → IsRecord r → (user : ℕ) (row : UserRow) → row_of r user ≡ Some row → (on : Bool) (pin : ℕ) → is_shown_length row.kind on pin ≡ true → MayChange r (PutRow (with_pin on pin row))
pin_may r is user row found on pin shown =
    let here = (row_found user r.users row found).0 in
    may_put_less r is row (with_pin on pin row) here (no_new_part row on pin) (pin_row row on pin (each_in IsRow r.users row is.rows here) shown)

-- ---- what it asks

module _ (x : Session) (k : Work) (user : ℕ) (row : UserRow) (found : row_of x.settings.settled.rec user ≡ Some row) (on : Bool) (pin : ℕ)
    (is : IsRecord x.settings.settled.rec) (puts : PutsRow x.settings (with_pin on pin row) k) where
  abbrev r : Rec
  r = x.settings.settled.rec

  abbrev next : Rec
  next = edited r (PutRow (with_pin on pin row))

  here : Contains r.users row
  here = (row_found user r.users row found).0

  of_user : row.user ≡ user
  of_user = (row_found user r.users row found).1

  actions_are : actions_of k ≡ k.commit.actions
  actions_are = (λ i. puts.before i ++ (k.commit.actions ++ puts.after i)) ∙ append-nil k.commit.actions

  pub pin_sound : IsSoundWork x.slots k
  pin_sound = record {
    before = subst (AllSound x.slots) (sym puts.before) tt;
    after = subst (AllSound x.slots) (sym puts.after) tt;
  }

  on_next : (p : Protector) → NamesProtector r p → NamesProtector (next_of k) p
  on_next p has = subst (λ (z : Rec). NamesProtector z p) (sym puts.next) (protector_on r is row here on pin p has)

  back : (p : Protector) → NamesProtector (next_of k) p → NamesProtector r p
  back p has = protector_back r is row here on pin p (subst (λ (z : Rec). NamesProtector z p) puts.next has)

  pub pin_named : (b : Sight) → CanServe b x → KeepsNamed x.slots k x.named.items
  pin_named b can = record {
    each = λ p has. can.each p (back p has);
    only = λ q has. let o = can.only q has in (o.0, on_next o.0 o.1, o.2);
    once = can.once;
  }

  pub pin_waits : CanWait r.users x.pending.items → CanWait (next_of k).users x.pending.items
  pin_waits can = subst (λ (z : Rec). CanWait z.users x.pending.items) (sym puts.next)
      (wait_alike r x.pending.items can (with_pin on pin row) is row here refl refl refl)

  module _ (commits : AllTouchOnly settings_reach k.commit.actions) (w : World) where
    abbrev after : World
    after = after_all w (actions_of k)

    but : SameBut settings_reach w after
    but = plan_same settings_reach w (actions_of k) (subst (AllTouchOnly settings_reach) (sym actions_are) commits)

    pub pin_quiet : IsReady w x.settings → IsQuietWork w x.settings k
    pin_quiet ready = record {
      ready = ready;
      before = subst (AllTouchOnly (unnamed w r)) (sym puts.before) tt;
      applies = subst (AllApply w) (sym puts.before) tt;
      after = subst (AllTouchOnly (unnamed (staged w k) (next_of k))) (sym puts.after) tt;
      follows = subst (AllApply (after_all w (k.before ++ k.commit.actions))) (sym puts.after) tt;
    }

    unnamed_next : AreUnnamed w r (retired_files x) → AreUnnamed after (next_of k) (retired_files x)
    unnamed_next was = subst (λ (z : Rec). AreUnnamed after z (retired_files x)) (sym puts.next) (unnamed_on r is row here on pin w after but (retired_files x) was)

    pub pin_left : ((p : Protector) → NamesProtector r p → (n : ℕ) → held_number w p ≡ Some n → Contains x.named.items (parts_of (is_some (Some n)) p (Some n)))
        → KeepApart x.named.items → AreUnnamed w r (retired_files x) → LeavesKept w k x.named.items x.retired.items
    pin_left numbers apart unnamed = record {
      numbers = λ p has n held. numbers p (back p has) n (sym (number_same r is row here on pin w after but p) ∙ held);
      apart = apart;
      are_retired = unnamed_next unnamed;
      strange = strange_kept w after but;
    }

    -- ---- where it leads

    module _ (s : State) (a : Agrees w x s) (o : Opened) (opened : entry_of x.opened.items user ≡ Some o) (pin_is : pin ≡ shown_pin row.kind on o.metrics)
        (may : MayChange r (PutRow (with_pin on pin row))) (fresh : x.settings.settled.sequence ≢ last_sequence) where
      abbrev set : User → User
      set v = record v { auto = on }

      abbrev vault : Vault
      vault = record s.vault { users = changed s.vault.users user set }

      metrics_of_user : (u : User) → user_of s.vault.users user ≡ Some u → o.metrics ≡ shown_metrics u.credential
      metrics_of_user u there =
          let seen = entry_found user x.opened.items o opened in
          let at : user_of s.vault.users o.user ≡ Some u = ap (user_of s.vault.users) seen.1 ∙ there in
          subst (λ (t : Option User). IsSomeAnd t (λ u. o.metrics ≡ shown_metrics u.credential)) at (a.metrics o seen.0)

      held_now : (u : User) → user_of s.vault.users row.user ≡ Some u → HoldsUser row (held_of_row w r.armed row) u
          → HoldsUser (with_pin on pin row) (held_of_row w r.armed (with_pin on pin row)) (set u)
      held_now u there h =
          let there_user : user_of s.vault.users user ≡ Some u = ap (user_of s.vault.users) (sym of_user) ∙ there in
          pin_held w r.armed row u on pin (pin_is ∙ (ap (λ (kind : Kind). shown_pin kind on o.metrics) h.says.kind ∙ shown_is u on o.metrics (metrics_of_user u there_user))) h

      holds_next : Holds w next vault
      holds_next =
          let sound = less_sound w r row (with_pin on pin row) here (no_new_part row on pin) a.stands.stands.holds.files may in
          subst (λ (n : ℕ). Holds w next (record s.vault { users = changed s.vault.users n set })) of_user
          (replaced w r (with_pin on pin row) s.vault is a.stands.stands.holds sound row set here refl held_now)

      untouched_next : NamedAreUntouched w next
      untouched_next = put_untouched w r (with_pin on pin row) a.stands.named (less_untouched w r row (with_pin on pin row) here (no_new_part row on pin) a.stands.named)

      staged_is : staged w k ≡ w
      staged_is = ap (after_all w) puts.before

      secrets : (items : List Opened) → HaveSecrets s.vault.users items → HaveSecrets vault.users items
      secrets items all one has = user_changed (λ u. u.secret ≡ one.secret) s.vault.users user set (λ u. (refl, λ e. e)) one.user (all one has)

      metrics : (items : List Opened) → HaveMetrics s.vault.users items → HaveMetrics vault.users items
      metrics items all one has = user_changed (λ u. one.metrics ≡ shown_metrics u.credential) s.vault.users user set (λ u. (refl, λ e. e)) one.user (all one has)

      kept_now : s.books.kept + 1 ≡ k.commit.to.settled.sequence
      kept_now = ap (λ (b : Books). b.kept + 1) a.books_are ∙ sym puts.commit.below

      dead_now : s.books.dead ≡ dead_users (next_of k).armed after.cell
      dead_now = ap (λ (b : Books). b.dead) a.books_are ∙ sym (λ i. dead_users (puts.next i).armed (but.cell (λ e. e) i))

      abbrev target : Turned
      target = record { reply = Fine; stage = record (stage_in w s) { state = committed (with_users s (changed s.vault.users user set)) } }

      pub leads_target : LeadsTo w x x.named.items x.retired.items k s target
      leads_target = record {
        reply = refl;
        keeps = subst IsRecord (sym puts.next) (changed_keeps r is (PutRow (with_pin on pin row)) may);
        readies = record {
          holds = subst (λ (v : World). Holds v (next_of k) vault) (sym staged_is) (subst (λ (z : Rec). Holds w z vault) (sym puts.next) holds_next);
          untouched = subst (λ (v : World). NamedAreUntouched v (next_of k)) (sym staged_is) (subst (NamedAreUntouched w) (sym puts.next) untouched_next);
        };
        session = a.session;
        books_are = λ i. record { kept = kept_now i; dead = dead_now i };
        moments = refl;
        noise = refl;
        opened = secrets x.opened.items a.opened;
        metrics = metrics x.opened.items a.metrics;
        captured = secrets x.captured.items a.captured;
        are_named = subst (λ (z : Rec). AreNamed after z x.named.items) (sym puts.next) (named_on r is row here on pin w after but x.named.items a.named);
        are_retired = unnamed_next a.retired;
        prepared = λ flag last. ap (λ (z : Rec). z.armed) puts.next ∙ a.prepared flag fresh;
        bare = λ start bare.
            subst (λ (z : Rec). IsBare start after z (retired_files x)) (sym puts.next)
            (bare_on r is row here on pin start after (retired_files x) (bare_settings start w r (retired_files x) is bare after but));
      }

-- the change leads to what the machine answers
pub pin_commits : (old : Sight) (x : Session) (k : Work) (user : ℕ) (row : UserRow) → row_of x.settings.settled.rec user ≡ Some row → (on : Bool) (pin : ℕ)
    → IsRecord x.settings.settled.rec → PutsRow x.settings (with_pin on pin row) k → AllTouchOnly settings_reach k.commit.actions
    → (o : Opened) → entry_of x.opened.items user ≡ Some o → differs row.auto on ≡ true → pin ≡ shown_pin row.kind on o.metrics
    → is_shown_length row.kind on pin ≡ true → x.settings.settled.sequence ≢ last_sequence
    → Commits old x x.named.items x.retired.items k (turned x.slots (command.AutoPin user on))
pin_commits old x k user row found on pin is puts commits o opened other pin_is shown fresh told s a =
    let its = user_there old.world x s a user row found in
    subst (λ (t : Turned). LeadsTo old.world x x.named.items x.retired.items k s t)
    (sym (auto_kept x.slots (stage_in old.world s) user on its.0 its.1 (open_now old x user on row found o opened old.world s a) (ap (λ (b : Bool). differs b on) (sym its.2.says.auto) ∙ other)
    (ne_eqb s.books.kept last_sequence (λ e. fresh (ap (λ (b : Books). b.kept) (sym a.books_are) ∙ e)))))
    (leads_target x k user row found on pin is puts commits old.world s a o opened pin_is (pin_may x.settings.settled.rec is user row found on pin shown) fresh)
