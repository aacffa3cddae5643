-- A token is added, as the machine does it.
use Rattle.std.proofs.Common.{◌≡◌, ◌<◌, ◌^◌, ◌+◌, ◌∷◌, ◌++◌, ℕ, Bool, true, false, IsTrue, List, [], map, length, drop, Option, None, Some, refl, sym, ◌∙◌, ap, subst, arith}
use Rattle.std.specs.Prelude.{Ok, Err}
use Rattle.std.specs.List.{Contains}
use Rattle.std.proofs.lemmas.List.{map-append}
use Rattle.ls_arming.specs.Numbers.{contains}
use Rattle.ls_board.specs.declared.action.BoardFault.TheVariants as fault
use Rattle.ls_board.specs.declared.world.World.{World}
use Rattle.ls_board.specs.Acts.{Sight}
use Rattle.ls_drawing.specs.Drawing.{Draws, stop_of}
use Rattle.ls_drawing.proofs.DrawLemmas.{turn_from, drawn_kept, drawn_are, drawn_len, draw_goes_on}
use Rattle.ls_record.specs.declared.row.UserRow.{UserRow}
use Rattle.ls_record.specs.Rows.{IsRecord, is_odd}
use Rattle.ls_script.specs.declared.command.Command.TheVariants as command
use Rattle.ls_script.specs.declared.reply.Refusal.{Refusal}
use Rattle.ls_script.specs.declared.reply.Reply.TheVariants.{TokenId, No}
use Rattle.ls_settings.specs.Loaded.{Loaded}
use Rattle.ls_tape.specs.Tape.{drawn}
use Rattle.ls_vault.specs.declared.session.SessionState.{SessionState}
use Rattle.ls_vault.specs.declared.state.Outcome.{Outcome}
use Rattle.ls_vault.specs.declared.state.State.{State}
use Rattle.ls_vault.specs.declared.token.PendingToken.{PendingToken}
use Rattle.ls_vault.specs.Drawn.{len_unless, number_len}
use Rattle.ls_vault.specs.Fresh.{fresh, drawn_number}
use Rattle.ls_vault.specs.Limits.{most_tokens}
use Rattle.ls_vault.specs.Script.{Stage}
use Rattle.ls_vault.specs.Step.{unless}
use Rattle.ls_vault.specs.TokenChanges.{token_added}
use Rattle.ls_vault.specs.Tokens.{token_ids}
use Rattle.ls_turn.specs.declared.session.Session.{Session}
use Rattle.ls_turn.specs.declared.session.Pending.{Pending}
use Rattle.ls_turn.specs.declared.stop.Cause.{Cause}
use Rattle.ls_turn.specs.declared.stop.Cause.TheVariants as cause
use Rattle.ls_turn.specs.declared.stop.Stop.{Stop}
use Rattle.ls_turn.specs.declared.stop.Stop.TheVariants as stop
use Rattle.ls_turn.specs.Agreeing.{Agrees, pending_token, session_of}
use Rattle.ls_turn.specs.Refusing.{of_user, token_add_refusal}
use Rattle.ls_turn.specs.Serving.{CanServe, Turned, IsTurn, Serves, turned, stage_in, Always}
use Rattle.ls_turn.specs.Waiting.{CanWait, those_of}
use Rattle.ls_turn.proofs.BehindLemmas.{KeepsSession}
use Rattle.ls_turn.proofs.RowLemmas.{one_row}
use Rattle.ls_turn.proofs.StillLemmas.{HasKept, answered, still, lacking}
use Rattle.ls_turn.proofs.StoredLemmas.{stored_can}
use Rattle.ls_turn.proofs.WaitLemmas.{Waits, wait_behind}
use Rattle.ls_tokens.specs.Adding.{taken_ids}
use Rattle.ls_tokens.proofs.LimitLemmas.{machine_refusal, no_active, none_waiting, refused_alike, room_for_one, taken_alike}

-- ---- the turn of the machine

module _ (user : ℕ) (token : List ℕ) where
  abbrev added_with : State → List ℕ → Outcome
  added_with s out = record {
    reply = TokenId (fresh (drawn_number out) (token_ids s));
    state = token_added s user token (fresh (drawn_number out) (token_ids s));
  }

  -- by what refuses it
  abbrev added_by : Stage → Option Refusal → Turned
  added_by at why = record {
    reply = (unless why at.state (added_with at.state (drawn at.noise (len_unless why number_len)))).reply;
    stage = record {
      state = (unless why at.state (added_with at.state (drawn at.noise (len_unless why number_len)))).state;
      moments = at.moments;
      noise = drop (length (drawn at.noise (len_unless why number_len))) at.noise;
    };
  }

  turned_added : (n : ℕ) (at : Stage) → turned n (command.TokenAdd user token) at ≡ added_by at (machine_refusal at.state user)
  turned_added n at = refl

module _ (x : Session) (user : ℕ) (token : List ℕ) where
  abbrev turn : Stage → Turned
  turn = turned x.slots (command.TokenAdd user token)

  abbrev own : Option Refusal
  own = of_user x user (token_add_refusal x)

  turn_is : (w : World) (s : State) (at : Stage) → at.state ≡ s → Agrees w x s → turn at ≡ added_by user token at own
  turn_is w s at same agrees =
      turned_added user token x.slots at
      ∙ ap (added_by user token at) (ap (λ (t : State). machine_refusal t user) same ∙ refused_alike w x s agrees user)

  -- ---- it is refused

  pub add_refused : (old : Sight) → CanServe old x → (why : Refusal) → own ≡ Some why → Serves old x turn Always (Ok (No why)) x old
  add_refused old can why is = answered old x turn Always (No why) can (omega arith)
      (λ s agrees. turn_is old.world s (stage_in old.world s) refl agrees ∙ ap (added_by user token (stage_in old.world s)) is)

  -- ---- the session stops

  module _ (y : Session) (k : HasKept x y) (stopped : y.stopped ≡ Some cause.Memory) (answer : Stop) (is : answer ≡ stop_of fault.Memory) where
    pub add_lacks : (old : Sight) → Serves old x turn Always (Err answer) y old
    add_lacks old = subst (λ (e : Stop). Serves old x turn Always (Err e) y old) (sym is) (lacking old x y turn Always k stopped)

    pub add_lacks_then : (old new : Sight) (out : List ℕ) → Draws 8 old (Ok out) new → Serves old x turn Always (Err answer) y new
    add_lacks_then old new out d = subst (λ (e : Stop). Serves old x turn Always (Err e) y new) (sym is)
        (draw_goes_on 8 old new out d x y turn Always (Err stop.Memory) new (lacking new x y (turn_from old.world turn) Always k stopped))

  -- ---- it is added

  module _ (y : Session) (id : ℕ) (is : record x { pending = y.pending } ≡ y) (put : y.pending.items ≡ x.pending.items ++ record { user = user; id = id; token = token } ∷ []) where
    abbrev one : Pending
    one = record { user = user; id = id; token = token }

    others_kept : HasKept x y
    others_kept = record {
      slots = ap (λ (z : Session). z.slots) (sym is);
      boot = ap (λ (z : Session). z.boot) (sym is);
      settings = ap (λ (z : Session). z.settings) (sym is);
      named = ap (λ (z : Session). z.named.items) (sym is);
      retired = ap (λ (z : Session). z.retired.items) (sym is);
    }

    its_session : session_of (record x { pending = y.pending }) ≡ record (session_of x) { pending = map pending_token x.pending.items ++ record { user = user; id = id; bytes = token } ∷ [] }
    its_session = ap (λ (l : List PendingToken). record (session_of x) { pending = l })
        (ap (λ (l : List Pending). map pending_token l) put ∙ map-append pending_token x.pending.items (one ∷ []))

    agrees_added : (w : World) (s : State) → Agrees w x s → Agrees w y (token_added s user token id)
    agrees_added w s a = subst (λ (z : Session). Agrees w z (token_added s user token id)) is (record {
      keeps = a.keeps;
      stands = a.stands;
      ready = a.ready;
      books_are = a.books_are;
      session = its_session ∙ ap (λ (t : SessionState). record t { pending = t.pending ++ record { user = user; id = id; bytes = token } ∷ [] }) a.session;
      opened = a.opened;
      metrics = a.metrics;
      captured = a.captured;
      named = a.named;
      slots = a.slots;
      retired = a.retired;
      going = a.going;
      prepared = a.prepared;
    })

    -- it waits behind the others
    module _ (waits : Waits x) (is_record : IsRecord x.settings.settled.rec) (none : own ≡ None) (odd : is_odd id ≡ true) (small : id < 2 ^ 64) (free : contains (taken_ids x) id ≡ false) where
      room : (row : UserRow) → Contains x.settings.settled.rec.users row → row.user ≡ user → length row.tokens + length (those_of row.user x.pending.items) < most_tokens
      room row here same =
          let its = room_for_one x user none in
          subst (λ (r : UserRow). length r.tokens + length (those_of r.user x.pending.items) < most_tokens)
          (sym (one_row x.settings.settled.rec is_record its.0 its.1 row here (same ∙ sym its.2))) its.4

      behind : CanWait x.settings.settled.rec.users (x.pending.items ++ one ∷ [])
      behind =
          let its = room_for_one x user none in
          wait_behind x.settings.settled.rec.users x.pending.items waits one (its.0, its.1, its.2, its.3) (odd, small) (no_active x id free) (none_waiting x id free) room

      waits_added : Waits y
      waits_added =
          subst (λ (l : List Pending). CanWait y.settings.settled.rec.users l) (sym put)
          (subst (λ (s : Loaded). CanWait s.settled.rec.users (x.pending.items ++ one ∷ [])) (sym others_kept.settings) behind)

      module _ (old new : Sight) (can : CanServe old x) (out : List ℕ) (d : Draws 8 old (Ok out) new) (id_is : id ≡ fresh (drawn_number out) (taken_ids x)) where
        kept : KeepsSession old new
        kept = drawn_kept 8 old new out d

        told_old : IsTrue new.told → IsTrue old.told
        told_old told = subst (λ (b : Bool). IsTrue b) kept.told told

        can_then : CanServe new x
        can_then = stored_can old new x kept.told kept.slots kept.storage can

        module _ (told : IsTrue new.told) (s : State) (agrees : Agrees new.world x s) where
          are : (out ≡ drawn old.world.noise 8) × (new.world ≡ record old.world { noise = drop 8 old.world.noise })
          are = drawn_are 8 old new out d (told_old told)

          id_fresh : id ≡ fresh (drawn_number (drawn old.world.noise 8)) (token_ids s)
          id_fresh =
              id_is
              ∙ (ap (λ (l : List ℕ). fresh (drawn_number l) (taken_ids x)) are.0
              ∙ ap (λ (l : List ℕ). fresh (drawn_number (drawn old.world.noise 8)) l) (sym (taken_alike new.world x s agrees)))

          eight : length (drawn old.world.noise 8) ≡ 8
          eight = ap (λ (l : List ℕ). length l) (sym are.0) ∙ drawn_len 8 old new out d

          the_turn : turn (stage_in old.world s) ≡ added_by user token (stage_in old.world s) None
          the_turn = turn_is new.world s (stage_in old.world s) refl agrees ∙ ap (added_by user token (stage_in old.world s)) none

          is_added : IsTurn (turn_from old.world turn (stage_in new.world s)) (TokenId id) y new.world
          is_added = subst (λ (t : Turned). IsTurn t (TokenId id) y new.world) (sym the_turn) (record {
            reply_is = ap (λ (n : ℕ). TokenId n) id_fresh;
            agrees = subst (λ (n : ℕ). Agrees new.world y (token_added s user token n)) id_fresh (agrees_added new.world s agrees);
            moments = ap (λ (w : World). w.moments) are.1;
            noise = ap (λ (w : World). w.noise) are.1 ∙ ap (λ (n : ℕ). drop n old.world.noise) (sym eight);
          })

        pub add_done : Serves old x turn Always (Ok (TokenId id)) y new
        add_done = draw_goes_on 8 old new out d x y turn Always (Ok (TokenId id)) new
            (still new x y (turn_from old.world turn) Always others_kept (TokenId id) can_then (ap (λ (z : Session). z.stopped) (sym is)) waits_added (omega arith) is_added)

-- a session that only stopped has what it had
pub stopped_kept : (x y : Session) (why : Option Cause) → y ≡ record x { stopped = why } → HasKept x y
stopped_kept x y why is = record {
  slots = ap (λ (z : Session). z.slots) is;
  boot = ap (λ (z : Session). z.boot) is;
  settings = ap (λ (z : Session). z.settings) is;
  named = ap (λ (z : Session). z.named.items) is;
  retired = ap (λ (z : Session). z.retired.items) is;
}

-- also where its list of pending tokens is another value
pub put_kept : (x mid y : Session) (why : Option Cause) → mid ≡ record x { pending = mid.pending } → y ≡ record mid { stopped = why } → HasKept x y
put_kept x mid y why put is = record {
  slots = ap (λ (z : Session). z.slots) is ∙ ap (λ (z : Session). z.slots) put;
  boot = ap (λ (z : Session). z.boot) is ∙ ap (λ (z : Session). z.boot) put;
  settings = ap (λ (z : Session). z.settings) is ∙ ap (λ (z : Session). z.settings) put;
  named = ap (λ (z : Session). z.named.items) is ∙ ap (λ (z : Session). z.named.items) put;
  retired = ap (λ (z : Session). z.retired.items) is ∙ ap (λ (z : Session). z.retired.items) put;
}
