-- A user is opened in the session, and what is answered then.
use Rattle.std.proofs.Common.{◌≡◌, inl, inr, ⊎_elim, ℕ, Bool, true, false, cond, List, Option, Some, Result, Ok, Err, refl, sym, ◌∙◌, ap, subst}
use Rattle.std.specs.Prelude.{map, IfOk, IsSomeAnd}
use Rattle.std.specs.List.{Contains}
use Rattle.ls_arming.specs.Numbers.{with_number}
use Rattle.ls_board.specs.declared.action.BoardFault.TheVariants as board
use Rattle.ls_chain.specs.declared.fault.Spot.{Spot}
use Rattle.ls_chain.specs.declared.fault.ChainFault.{ChainFault}
use Rattle.ls_chain.specs.declared.fault.ChainFault.TheVariants.{Corrupt, Failed, Memory}
use Rattle.ls_drawing.specs.Drawing.{stop_of}
use Rattle.ls_script.specs.declared.reply.Refusal.{Refusal}
use Rattle.ls_script.specs.declared.reply.Reply.{Reply}
use Rattle.ls_script.specs.declared.reply.Reply.TheVariants as reply
use Rattle.ls_script.specs.declared.reply.Revealed.{Revealed}
use Rattle.ls_turn.specs.declared.session.Session.{Session}
use Rattle.ls_turn.specs.declared.session.Opened.{Opened}
use Rattle.ls_turn.specs.declared.session.Pending.{Pending}
use Rattle.ls_turn.specs.declared.stop.Stop.{Stop}
use Rattle.ls_turn.specs.Agreeing.{HaveMetrics, HaveSecrets, pending_token, session_of, users_in}
use Rattle.ls_turn.specs.Refusing.{IsOwn}
use Rattle.ls_turn.proofs.StillLemmas.{HasKept}
use Rattle.ls_vault.specs.declared.session.SessionState.{SessionState}
use Rattle.ls_vault.specs.declared.state.State.{State}
use Rattle.ls_vault.specs.declared.user.User.{User}
use Rattle.ls_vault.specs.declared.vault.Vault.{Vault}
use Rattle.ls_vault.specs.Revealed.{shown_metrics}
use Rattle.ls_vault.specs.Unlocking.{opened}
use Rattle.ls_vault.specs.Users.{user_of}
use Rattle.ls_unlocking.specs.declared.ending.Ending.{Ending}
use Rattle.ls_unlocking.specs.declared.ending.Ending.TheVariants as ending
use Rattle.ls_unlocking.specs.Entries.{with_entry}
use Rattle.ls_unlocking.specs.Finishing.{Finishes, OpensUser, corrupt_at}
use Rattle.ls_unlocking.specs.Trying.{EndsLate}
use Rattle.ls_unlocking.proofs.EntryLemmas.{entry_users, entry_cases}

-- ---- its entries

module _ (x y : Session) (one : Opened) (o : OpensUser x one y) where
  pub opened_kept : HasKept x y
  opened_kept = record {
    slots = ap (λ (z : Session). z.slots) o.same;
    boot = ap (λ (z : Session). z.boot) o.same;
    settings = ap (λ (z : Session). z.settings) o.same;
    named = ap (λ (z : Session). z.named.items) o.same;
    retired = ap (λ (z : Session). z.retired.items) o.same;
  }

  captured_users : users_in y.captured.items ≡ cond x.prepared (with_number (users_in x.captured.items) one.user) (users_in x.captured.items)
  captured_users = ap users_in o.captured ∙ by x.prepared
    where
      by : (b : Bool) → users_in (cond b (with_entry x.captured.items one) x.captured.items) ≡ cond b (with_number (users_in x.captured.items) one.user) (users_in x.captured.items)
      by true = entry_users one x.captured.items
      by false = refl

  pub pending_same : y.pending.items ≡ x.pending.items
  pending_same = ap (λ (z : Session). z.pending.items) o.same

  pub stopped_same : y.stopped ≡ x.stopped
  stopped_same = ap (λ (z : Session). z.stopped) o.same

  pub prepared_same : y.prepared ≡ x.prepared
  prepared_same = ap (λ (z : Session). z.prepared) o.same

  -- the entries, in the machine's session
  abbrev with_user : SessionState → SessionState
  with_user t = record t {
    opened = with_number t.opened one.user;
    captured = cond t.prepared (with_number t.captured one.user) t.captured;
  }

  entered : session_of y ≡ with_user (session_of x)
  entered =
      let boot = opened_kept.boot in
      let users = ap users_in o.opened ∙ entry_users one x.opened.items in
      let pending = ap (λ (l : List Pending). map pending_token l) pending_same in
      let prepared = prepared_same in
      let captured = captured_users in
      λ i. record { boot = boot i; opened = users i; pending = pending i; prepared = prepared i; captured = captured i }

  -- so the machine has it
  pub opened_session : (s : State) → session_of x ≡ s.session → (v : Vault) → session_of y ≡ (opened (record s { vault = v }) one.user).session
  opened_session s was v = entered ∙ ap with_user was

  -- what is known of the users
  module _ (v : List User) (u : User) (there : user_of v one.user ≡ Some u) where
    one_secret : one.secret ≡ u.secret → IsSomeAnd (user_of v one.user) (λ u. u.secret ≡ one.secret)
    one_secret same = subst (λ (t : Option User). IsSomeAnd t (λ u. u.secret ≡ one.secret)) (sym there) (sym same)

    one_metrics : one.metrics ≡ shown_metrics u.credential → IsSomeAnd (user_of v one.user) (λ u. one.metrics ≡ shown_metrics u.credential)
    one_metrics same = subst (λ (t : Option User). IsSomeAnd t (λ u. one.metrics ≡ shown_metrics u.credential)) (sym there) same

    pub with_secrets : (l : List Opened) → one.secret ≡ u.secret → HaveSecrets v l → HaveSecrets v (with_entry l one)
    with_secrets l same was e has = ⊎_elim (λ (h : Contains l e). was e h)
        (λ (is : one ≡ e). subst (λ (e : Opened). IsSomeAnd (user_of v e.user) (λ u. u.secret ≡ e.secret)) is (one_secret same)) (entry_cases one l e has)

    pub with_metrics : (l : List Opened) → one.metrics ≡ shown_metrics u.credential → HaveMetrics v l → HaveMetrics v (with_entry l one)
    with_metrics l same was e has = ⊎_elim (λ (h : Contains l e). was e h)
        (λ (is : one ≡ e). subst (λ (e : Opened). IsSomeAnd (user_of v e.user) (λ u. e.metrics ≡ shown_metrics u.credential)) is (one_metrics same)) (entry_cases one l e has)

    pub if_secrets : (b : Bool) (l : List Opened) → one.secret ≡ u.secret → HaveSecrets v l → HaveSecrets v (cond b (with_entry l one) l)
    if_secrets true l same was = with_secrets l same was
    if_secrets false l same was = was

-- ---- what is answered

-- no refusal comes by the record, the session and the words
pub finish_late : (user credential id : ℕ) (x y : Session) (end : Result Ending ChainFault) (result : Result Reply Stop) → IfOk end EndsLate → Finishes user credential id x end result y
    → (w : Refusal) → result ≡ Ok (reply.No w) → IsOwn w → ⊥
finish_late user credential id x y end result late f w is own = by end late f
  where
    reply_of : (r : Reply) → result ≡ Ok r → r ≡ reply.No w
    reply_of r e = let same : ◌≡◌ {A = Result Reply Stop} (Ok r) (Ok (reply.No w)) = sym e ∙ is in cc

    same_why : (v : Refusal) → reply.No v ≡ reply.No w → v ≡ w
    same_why v e = cc

    not_opened : (told_of : Revealed) → reply.Opened told_of ≡ reply.No w → ⊥
    not_opened told_of e = cc

    not_stopped : (s : Stop) → result ≡ Err s → ⊥
    not_stopped s e = let same : ◌≡◌ {A = Result Reply Stop} (Err s) (Ok (reply.No w)) = sym e ∙ is in cc

    corrupt_own : (v : Refusal) (spot : Spot) → v ≡ corrupt_at user credential id spot → IsOwn v → ⊥
    corrupt_own v spot e own = subst IsOwn e own

    by : (end : Result Ending ChainFault) → IfOk end EndsLate → Finishes user credential id x end result y → ⊥
    by (Ok (ending.Opened secret told_of)) late (inl f) = not_opened told_of (reply_of (reply.Opened told_of) f.0)
    by (Ok (ending.Opened secret told_of)) late (inr f) = not_stopped (stop_of board.Memory) f.answer
    by (Ok (ending.Refused why)) late f = late (subst IsOwn (sym (same_why why (reply_of (reply.No why) f.0))) own)
    by (Err (Corrupt spot)) late (inl f) =
        corrupt_own w spot (sym (same_why (corrupt_at user credential id spot) (reply_of (reply.No (corrupt_at user credential id spot)) f.0))) own
    by (Err (Corrupt spot)) late (inr f) = not_stopped (stop_of board.Memory) f.answer
    by (Err (Failed part)) late f = not_stopped (stop_of (board.Failed part)) f.answer
    by (Err Memory) late f = not_stopped (stop_of board.Memory) f.answer
