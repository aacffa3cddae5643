-- A token of a user is dropped.
use Rattle.std.proofs.Common.{◌≡◌, ◌≢◌, ◌⊎◌, inl, inr, ◌<◌, ◌^◌, not, ℕ, Bool, true, false, cond, List, [], ◌∷◌, map, Option, None, Some, refl, sym, ◌∙◌, ap, subst, arith}
use Rattle.std.specs.Prelude.{◌==◌, ◌&&◌, ◌||◌, is_some, Ok}
use Rattle.std.specs.List.{Contains}
use Rattle.std.specs.Option.{option_map_or}
use Rattle.std.proofs.lemmas.Bool.{eq-eqb, ne_eqb, not-true}
use Rattle.ls_board.specs.declared.action.Action.{Action}
use Rattle.ls_board.specs.declared.action.Action.TheVariants.{Sync}
use Rattle.ls_board.specs.declared.world.World.{World}
use Rattle.ls_board.specs.Acts.{Sight}
use Rattle.ls_edits.specs.Rows.{HasNoNewPart, with_tokens_of}
use Rattle.ls_edits.proofs.FilterLemmas.{filtered_in, in_filter}
use Rattle.ls_edits.proofs.KeepingLemmas.{tokens_held}
use Rattle.ls_edits.proofs.MayLemmas.{tokens_row}
use Rattle.ls_naming.specs.Current.{last_sequence}
use Rattle.ls_record.specs.declared.edit.Edit.TheVariants.{PutRow}
use Rattle.ls_record.specs.declared.row.UserRow.{UserRow}
use Rattle.ls_record.specs.Edits.{changed as edited, MayChange}
use Rattle.ls_record.specs.Rows.{Rec, IsRecord, IsRow, has, is_odd}
use Rattle.ls_record.proofs.FilterLemmas.{all_filter, filter_short}
use Rattle.ls_record.proofs.TestLemmas.{all_map, has_not, not_has}
use Rattle.ls_script.specs.declared.command.Command.{Command}
use Rattle.ls_script.specs.declared.command.Command.TheVariants as command
use Rattle.ls_script.specs.declared.reply.Refusal.{Refusal}
use Rattle.ls_script.specs.declared.reply.Refusal.TheVariants.{NoToken, NoUser}
use Rattle.ls_script.specs.declared.reply.Reply.TheVariants.{Fine, No}
use Rattle.ls_sealing.specs.Protectors.{Protector}
use Rattle.ls_standing.specs.Named.{credential_of, token_of as protector_of}
use Rattle.ls_standing.specs.NamedProtectors.{row_protectors}
use Rattle.ls_standing.proofs.ContainsLemmas.{at_first, behind_first, first_or_behind, in_map, of_map}
use Rattle.ls_standing.proofs.IdLemmas.{even_not_odd, is_row}
use Rattle.ls_vault.specs.declared.session.SessionState.{SessionState}
use Rattle.ls_vault.specs.declared.state.State.{State}
use Rattle.ls_vault.specs.declared.token.PendingToken.{PendingToken}
use Rattle.ls_vault.specs.declared.token.Token.{Token}
use Rattle.ls_vault.specs.declared.user.User.{User}
use Rattle.ls_vault.specs.Refusals.{token_drop_refusal as machine_refusal}
use Rattle.ls_vault.specs.Script.{Stage}
use Rattle.ls_vault.specs.States.{committed_if, with_pending, with_users}
use Rattle.ls_vault.specs.TokenChanges.{token_dropped, without_its}
use Rattle.ls_vault.specs.Tokens.{is_active, is_pending, token_of, without_pending, without_token}
use Rattle.ls_vault.specs.Users.{changed, user_of}
use Rattle.ls_turn.specs.declared.session.Pending.{Pending}
use Rattle.ls_turn.specs.declared.session.Session.{Session}
use Rattle.ls_turn.specs.Agreeing.{Agrees, pending_token}
use Rattle.ls_turn.specs.Refusing.{is_waiting, of_row, own_refusal, row_of, token_drop_refusal, unless_kept}
use Rattle.ls_turn.specs.Serving.{CanServe, IsTurn, Serves, Turned, turned, stage_in, Always}
use Rattle.ls_turn.specs.Waiting.{CanWait}
use Rattle.ls_turn.proofs.KnownLemmas.{active_is, filter_map_same, pending_is}
use Rattle.ls_turn.proofs.RowLemmas.{row_found, user_there}
use Rattle.ls_turn.proofs.StillLemmas.{HasKept, still}
use Rattle.ls_turn.proofs.WaitLemmas.{Waits, wait_fewer, wait_without}
use Rattle.ls_users.proofs.UserLemmas.{same_changed}
use Rattle.ls_removals.specs.declared.going.Going.{Going}
use Rattle.ls_removals.specs.declared.going.Which.TheVariants.{One}
use Rattle.ls_removals.specs.Going.{goes}
use Rattle.ls_removals.specs.Letting.{AllLeaveTo, HasForgotten, LeavesOut, LeavesTo, waiting_still}
use Rattle.ls_removals.proofs.LessLemmas.{less_leaves, may}
use Rattle.ls_removals.proofs.ReplacedLemmas.{replaced_leads}
use Rattle.ls_removals.proofs.TurnLemmas.{IsHeld, by_row, kept_fresh, refused_serves, turned_by, worn_alike}

no_both : (b c : Bool) → c ≡ false → (b && c) ≡ false
no_both true c e = e
no_both false c e = refl

-- where no token has the id, none is left out
none_without : (id : ℕ) (ts : List Token) → is_some (token_of ts id) ≡ false → without_token ts id ≡ ts
none_without id [] none = refl
none_without id (t ∷ ts) none = by (t.id == id) none (none_without id ts)
  where
    by : (b : Bool) → is_some (cond b (Some t) (token_of ts id)) ≡ false → (is_some (token_of ts id) ≡ false → without_token ts id ≡ ts)
        → cond (not b) (t ∷ without_token ts id) (without_token ts id) ≡ t ∷ ts
    by true none later = absurd (cc)
    by false none later = ap (λ (l : List Token). t ∷ l) (later none)

module _ (x : Session) (user id : ℕ) where
  abbrev c : Command
  c = command.TokenDrop user id

  abbrev turn : Stage → Turned
  turn = turned x.slots c

  abbrev own : Option Refusal
  own = own_refusal x c

  abbrev r : Rec
  r = x.settings.settled.rec

  -- that token
  abbrev it : Going
  it = record { user = user; which = One id }

  abbrev others : ℕ → Bool
  others t = not (t == id)

  abbrev pending_then : State → List PendingToken
  pending_then s = without_pending s.session.pending user id

  -- ---- the refusal

  -- by whether it waits, whether it is active, and what refuses that something is kept
  abbrev refused_by : Bool → Bool → Option Refusal → Option Refusal
  refused_by waits active worn = cond (not (waits || active)) (Some NoToken) (cond active worn None)

  module _ (w : World) (s : State) (a : Agrees w x s) where
    active_alike : (row : UserRow) (u : User) → user_of s.vault.users user ≡ Some u → IsHeld w x s a row u → is_active s user id ≡ has row.tokens id
    active_alike row u there held = ap (λ (o : Option User). is_some (token_of (option_map_or (λ u. u.tokens) o []) id)) there ∙ active_is row u held.says id

    waits_alike : (row : UserRow) → row_of r user ≡ Some row → is_pending s user id ≡ is_waiting x row.user id
    waits_alike row found = pending_is w x s a user id ∙ ap (λ (n : ℕ). is_waiting x n id) (sym (row_found user r.users row found).1)

    cause_alike : (row : UserRow) (u : User) → row_of r user ≡ Some row → user_of s.vault.users user ≡ Some u → IsHeld w x s a row u → machine_refusal s user id ≡ token_drop_refusal x id row
    cause_alike row u found there held = λ i. refused_by (waits_alike row found i) (active_alike row u there held i) (worn_alike w x s a i)

  turn_is : (w : World) (s : State) → Agrees w x s → turn (stage_in w s) ≡ turned_by (stage_in w s) (token_dropped s user id) own
  turn_is w s a = ap (turned_by (stage_in w s) (token_dropped s user id)) (by_row w x s a user (λ u. machine_refusal s user id) (token_drop_refusal x id) (cause_alike w s a))

  pub refused : (old : Sight) → CanServe old x → (why : Refusal) → own ≡ Some why → Serves old x turn Always (Ok (No why)) x old
  refused = refused_serves x c own (λ s. token_dropped s user id) turn_is

  pub nobody : row_of r user ≡ None → own ≡ Some NoUser
  nobody none = ap (λ (o : Option UserRow). of_row o (token_drop_refusal x id)) none

  module _ (row : UserRow) (found : row_of r user ≡ Some row) where
    pub own_is : own ≡ token_drop_refusal x id row
    own_is = ap (λ (o : Option UserRow). of_row o (token_drop_refusal x id)) found

    here : Contains r.users row
    here = (row_found user r.users row found).0

    its_user : row.user ≡ user
    its_user = (row_found user r.users row found).1

    -- what is pending then, as the machine has it
    module _ (y : Session) (forgotten : HasForgotten it x y) where
      pub pending_alike : (w : World) (s : State) → Agrees w x s → map pending_token y.pending.items ≡ pending_then s
      pending_alike w s a =
          ap (map pending_token) forgotten.pending
          ∙ (sym (filter_map_same pending_token (λ p. not (p.user == user && p.id == id)) x.pending.items)
          ∙ ap (λ (t : SessionState). without_pending t.pending user id) a.session)

    -- ---- it isn't active yet

    module _ (unrefused : token_drop_refusal x id row ≡ None) (passive : has row.tokens id ≡ false) where
      state_is : (w : World) (s : State) → Agrees w x s → token_dropped s user id ≡ with_pending s (pending_then s)
      state_is w s a =
          let its = user_there w x s a user row found in
          let inactive : is_active s user id ≡ false = active_alike w s a row its.0 its.1 its.2 ∙ passive in
          let none : is_some (token_of its.0.tokens id) ≡ false = active_is row its.0 its.2.says id ∙ passive in
          let users : changed s.vault.users user (without_its id) ≡ s.vault.users =
          same_changed s.vault.users user its.0 (without_its id) its.1 (ap (λ (l : List Token). record its.0 { tokens = l }) (none_without id its.0.tokens none)) in
          λ i. committed_if (inactive i) (with_pending (with_users s (users i)) (pending_then s))

      waiting_turn : (w : World) (s : State) → Agrees w x s → turn (stage_in w s) ≡ record { reply = Fine; stage = record (stage_in w s) { state = with_pending s (pending_then s) } }
      waiting_turn w s a =
          turn_is w s a
          ∙ (ap (turned_by (stage_in w s) (token_dropped s user id)) (own_is ∙ unrefused)
          ∙ ap (λ (t : State). record { reply = Fine; stage = record (stage_in w s) { state = t } }) (state_is w s a))

      module _ (y : Session) (forgotten : HasForgotten it x y) where
        kept : HasKept x y
        kept = record {
          slots = ap (λ (z : Session). z.slots) forgotten.is;
          boot = ap (λ (z : Session). z.boot) forgotten.is;
          settings = ap (λ (z : Session). z.settings) forgotten.is;
          named = ap (λ (z : Session). z.named.items) forgotten.is;
          retired = ap (λ (z : Session). z.retired.items) forgotten.is;
        }

        agrees_then : (w : World) (s : State) → Agrees w x s → Agrees w y (with_pending s (pending_then s))
        agrees_then w s a = subst (λ (z : Session). Agrees w z (with_pending s (pending_then s))) (sym forgotten.is) (record {
          keeps = a.keeps;
          stands = a.stands;
          ready = a.ready;
          books_are = a.books_are;
          session = ap (λ (t : SessionState). record t { pending = map pending_token y.pending.items }) a.session
              ∙ ap (λ (l : List PendingToken). record s.session { pending = l }) (pending_alike y forgotten w s a);
          opened = a.opened;
          metrics = a.metrics;
          captured = a.captured;
          named = a.named;
          slots = a.slots;
          retired = a.retired;
          going = a.going;
          prepared = a.prepared;
        })

        waits_then : CanWait r.users x.pending.items → Waits y
        waits_then can = subst Waits (sym forgotten.is)
            (subst (λ (l : List Pending). CanWait r.users l) (sym forgotten.pending) (wait_without r.users x.pending.items can (λ p. not (goes it p.user p.id))))

        pub waiting_serves : (old : Sight) → CanServe old x → Serves old x turn Always (Ok Fine) y old
        waiting_serves old can = still old x y turn Always kept Fine can (ap (λ (z : Session). z.stopped) forgotten.is) (waits_then can.waits) (omega arith)
            (λ told s a. subst (λ (t : Turned). IsTurn t Fine y old.world) (sym (waiting_turn old.world s a)) (record {
              reply_is = refl;
              agrees = agrees_then old.world s a;
              moments = refl;
              noise = refl;
            }))

    -- ---- it is active

    module _ (is : IsRecord r) (active : has row.tokens id ≡ true) where
      abbrev pub shorter : UserRow
      shorter = with_tokens_of others row

      abbrev next : Rec
      next = edited r (PutRow shorter)

      less : HasNoNewPart row shorter
      less = record { user = refl; kind = refl; protector = refl; secure = refl; escrow = λ e. e; tokens = λ t k. (filtered_in others row.tokens t k).0 }

      fits : IsRow shorter
      fits = tokens_row others row (is_row r is row here)

      pub drop_may : MayChange r (PutRow shorter)
      drop_may = may r is row shorter here less fits

      -- its id isn't that of the credential's protector
      apart : row.protector ≢ id
      apart same =
          let rules = is_row r is row here in
          let none = has_not row.tokens row.protector
          (all_map (λ t. is_token t) (λ t. t ≢ row.protector) (λ t k e. even_not_odd row.protector t rules.protector.0 k.0 (sym e)) row.tokens rules.tokens) in
          let bad : true ≡ false = sym active ∙ (ap (has row.tokens) (sym same) ∙ none) in
          absurd (cc)
        where
          is_token : ℕ → Type 0
          is_token t = (is_odd t ≡ true) × (t < 2 ^ 64)

      stays : (p : Protector) → Contains (row_protectors shorter) p → goes it p.user p.id ≡ false
      stays p its = by (first_or_behind (credential_of shorter) (map (protector_of shorter) shorter.tokens) p its)
        where
          by : (credential_of shorter ≡ p) ⊎ Contains (map (protector_of shorter) shorter.tokens) p → goes it p.user p.id ≡ false
          by (inl e) = subst (λ (q : Protector). goes it q.user q.id ≡ false) e (no_both (row.user == user) (row.protector == id) (ne_eqb row.protector id apart))
          by (inr k) =
              let t = of_map (protector_of shorter) shorter.tokens p k in
              subst (λ (q : Protector). goes it q.user q.id ≡ false) t.2
              (no_both (row.user == user) (t.0 == id) (not-true (t.0 == id) (filtered_in others row.tokens t.0 t.1).1))

      rests : (p : Protector) → Contains (row_protectors row) p → goes it p.user p.id ≡ false → Contains (row_protectors shorter) p
      rests p its none = by (first_or_behind (credential_of row) (map (protector_of row) row.tokens) p its)
        where
          by : (credential_of row ≡ p) ⊎ Contains (map (protector_of row) row.tokens) p → Contains (row_protectors shorter) p
          by (inl e) = subst (Contains (row_protectors shorter)) e (at_first (credential_of row) (map (protector_of shorter) shorter.tokens))
          by (inr k) =
              let t = of_map (protector_of row) row.tokens p k in
              let other : (t.0 == id) ≡ false =
              sym (ap (λ (b : Bool). b && (t.0 == id)) (eq-eqb row.user user its_user))
              ∙ (ap (λ (q : Protector). goes it q.user q.id) t.2 ∙ none) in
              behind_first (credential_of row) (map (protector_of shorter) shorter.tokens) p
              (subst (Contains (map (protector_of shorter) shorter.tokens)) t.2
              (in_map (protector_of shorter) shorter.tokens t.0 (in_filter others row.tokens t.0 t.1 (ap not other))))

      leaves : LeavesOut r next (goes it) (Sync ∷ [])
      leaves = less_leaves r is row shorter here less fits (Sync ∷ []) (λ part k. inl k) it (sym its_user) stays rests (λ slots. (tt, tt)) (tt, tt) (λ w. (tt, tt))

      pub drop_leaves : (n : Rec) (after : List Action) → n ≡ next → after ≡ Sync ∷ [] → LeavesOut r n (goes it) after
      drop_leaves n after same its =
          subst (λ (z : Rec). LeavesOut r z (goes it) after) (sym same)
          (subst (λ (l : List Action). LeavesOut r next (goes it) l) (sym its) leaves)

      pub drop_waits : CanWait r.users x.pending.items → (n : Rec) → n ≡ next → CanWait n.users (waiting_still it x.pending.items)
      drop_waits can n same = subst (λ (z : Rec). CanWait z.users (waiting_still it x.pending.items)) (sym same)
          (wait_fewer r (waiting_still it x.pending.items) (wait_without r.users x.pending.items can (λ p. not (goes it p.user p.id)))
          shorter is row here refl refl
          (λ t none. has_not shorter.tokens t (all_filter (λ i. i ≢ t) others row.tokens (not_has row.tokens t none)))
          (filter_short others row.tokens))

      -- something can be kept
      fresh : token_drop_refusal x id row ≡ None → x.settings.settled.sequence ≢ last_sequence
      fresh unrefused =
          kept_fresh x (sym (only_worn (is_waiting x row.user id)) ∙ (ap (λ (t : Bool). refused_by (is_waiting x row.user id) t (unless_kept x)) (sym active) ∙ unrefused))
        where
          only_worn : (b : Bool) → refused_by b true (unless_kept x) ≡ unless_kept x
          only_worn true = refl
          only_worn false = refl

      pub drop_leads : token_drop_refusal x id row ≡ None → (old : Sight) (y : Session) → HasForgotten it x y → (n : Rec) → n ≡ next → AllLeaveTo old x y n turn
      drop_leads unrefused old y forgotten n same told s a = subst (λ (z : Rec). LeavesTo old.world y z s (turn (stage_in old.world s))) (sym same)
          (replaced_leads old.world x s a user row shorter found less fits (without_its id) (λ u. record { number = refl; secret = refl; credential = refl })
          (λ u h. tokens_held others old.world r.armed row u h) y forgotten.is (pending_then s) (pending_alike y forgotten old.world s a) (fresh unrefused)
          (turn (stage_in old.world s)) its_turn)
        where
          its_turn : turn (stage_in old.world s) ≡ record {
            reply = Fine;
            stage = record (stage_in old.world s) { state = committed_if true (with_pending (with_users s (changed s.vault.users user (without_its id))) (pending_then s)) };
          }
          its_turn =
              let its = user_there old.world x s a user row found in
              let is_so : is_active s user id ≡ true = active_alike old.world s a row its.0 its.1 its.2 ∙ active in
              turn_is old.world s a
              ∙ (ap (turned_by (stage_in old.world s) (token_dropped s user id)) (own_is ∙ unrefused)
              ∙ ap (λ (b : Bool). record {
                reply = Fine;
                stage = record (stage_in old.world s) { state = committed_if b (with_pending (with_users s (changed s.vault.users user (without_its id))) (pending_then s)) };
              }) is_so)
