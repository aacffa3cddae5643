-- The session refuses as the machine does, and what is answered is the machine's reply.
use Rattle.std.proofs.Common.{◌≡◌, ◌≢◌, ◌++◌, ℕ, Bool, true, false, cond, List, drop, length, IsTrue, Option, None, Some, refl, sym, ap, subst, ◌∙◌, arith}
use Rattle.std.specs.Prelude.{◌==◌, nat_le, replicate, is_some, Result, Ok, Err, IfOk, OnOk}
use Rattle.std.proofs.lemmas.Bool.{eq-eqb, leb-false}
use Rattle.std.proofs.lemmas.List.{length-take, length-append, length-replicate}
use Rattle.ls_board.specs.declared.action.BoardFault.{BoardFault}
use Rattle.ls_board.specs.declared.world.World.{World}
use Rattle.ls_board.specs.Acts.{Sight}
use Rattle.ls_naming.specs.Current.{last_sequence}
use Rattle.ls_placing.proofs.RoomLemmas.{count_is, full_is, worn_is}
use Rattle.ls_record.specs.declared.row.UserRow.{UserRow}
use Rattle.ls_record.specs.Rows.{IsRecord}
use Rattle.ls_script.specs.declared.command.Command.TheVariants as command
use Rattle.ls_script.specs.declared.reply.Refusal.{Refusal}
use Rattle.ls_script.specs.declared.reply.Refusal.TheVariants.{UserExists, UserLimit, NoSlot, Worn}
use Rattle.ls_script.specs.declared.reply.Reply.{Reply}
use Rattle.ls_script.specs.declared.reply.Reply.TheVariants.{Fine, No}
use Rattle.ls_tape.specs.Tape.{drawn as drawn_bytes}
use Rattle.ls_vault.specs.declared.state.State.{State}
use Rattle.ls_vault.specs.Limits.{most_users}
use Rattle.ls_vault.specs.Refusals.{add_refusal}
use Rattle.ls_vault.specs.Script.{Stage}
use Rattle.ls_vault.specs.UserChanges.{added}
use Rattle.ls_vault.specs.Users.{is_user}
use Rattle.ls_turn.specs.declared.session.Session.{Session}
use Rattle.ls_turn.specs.declared.stop.Stop.{Stop}
use Rattle.ls_turn.specs.Agreeing.{Agrees}
use Rattle.ls_turn.specs.Refusing.{Refuses, has_no_slot, own_refusal, row_of}
use Rattle.ls_turn.specs.Serving.{CanServe, Serves, Turned, turned, stage_in, Always}
use Rattle.ls_turn.proofs.RefuseLemmas.{unrefused}
use Rattle.ls_turn.proofs.RowLemmas.{user_there, nobody_there}
use Rattle.ls_turn.proofs.StillLemmas.{answered}
use Rattle.ls_vault.specs.Drawn.{effect_len}
use Rattle.ls_enrolling.specs.declared.planned.Planned.{Planned}
use Rattle.ls_enrolling.specs.Enrolling.{draw_len}
use Rattle.ls_enrolling.specs.Planning.{IsPlan, IsReadyFor, MayCome, added_turn}
use Rattle.ls_enrolling.proofs.TurnLemmas.{turn_of, turned_is}

-- ---- the refusal

abbrev refused_by : Bool → Bool → Bool → Bool → Option Refusal
refused_by there many full worn = cond there (Some UserExists) (cond many (Some UserLimit) (cond full (Some NoSlot) (cond worn (Some Worn) None)))

module _ (w : World) (x : Session) (s : State) (a : Agrees w x s) (user : ℕ) where
  there_is : is_user s.vault.users user ≡ is_some (row_of x.settings.settled.rec user)
  there_is = by (row_of x.settings.settled.rec user) refl
    where
      by : (row : Option UserRow) → row_of x.settings.settled.rec user ≡ row → is_user s.vault.users user ≡ is_some (row_of x.settings.settled.rec user)
      by None none = ap is_some (nobody_there w x s a user none) ∙ sym (ap is_some none)
      by (Some row) found = ap is_some (user_there w x s a user row found).1 ∙ sym (ap is_some found)

  pub refused_alike : (escrow : Bool) → add_refusal x.slots s user ≡ own_refusal x (command.Add user escrow)
  refused_alike escrow = λ i. refused_by (there_is i) (nat_le most_users (count_is w x s a i)) (full_is w x s a i) (worn_is w x s a i)

module _ (x : Session) (user : ℕ) (escrow : Bool) where
  abbrev turn : Stage → Turned
  turn = turned x.slots (command.Add user escrow)

  abbrev own : Option Refusal
  own = own_refusal x (command.Add user escrow)

  turn_is : (w : World) (s : State) (at : Stage) → at.state ≡ s → Agrees w x s → turn at ≡ turn_of x.slots at user escrow own
  turn_is w s at same agrees =
      turned_is x.slots at user escrow
      ∙ ap (turn_of x.slots at user escrow) (ap (λ (t : State). add_refusal x.slots t user) same ∙ refused_alike w x s agrees user escrow)

  -- it is refused
  pub add_refused : (old : Sight) → CanServe old x → (why : Refusal) → own ≡ Some why → Serves old x turn Always (Ok (No why)) x old
  add_refused old can why is = answered old x turn Always (No why) can (omega arith)
      (λ s agrees. turn_is old.world s (stage_in old.world s) refl agrees ∙ ap (turn_of x.slots (stage_in old.world s) user escrow) is)

  -- ---- it isn't refused

  module _ (goes : own ≡ None) where
    abbrev Causes : Bool → Bool → Bool → Bool → Type 0
    Causes there many full worn = (there ≡ false) × (many ≡ false) × (full ≡ false) × (worn ≡ false)

    none_of : (there many full worn : Bool) → refused_by there many full worn ≡ None → Causes there many full worn
    none_of true many full worn e = absurd (cc)
    none_of false true full worn e = absurd (cc)
    none_of false false true worn e = absurd (cc)
    none_of false false false true e = absurd (cc)
    none_of false false false false e = (refl, refl, refl, refl)

    causes : Causes (is_some (row_of x.settings.settled.rec user)) (nat_le most_users (length x.settings.settled.rec.users)) (has_no_slot x) (x.settings.settled.sequence == last_sequence)
    causes = none_of (is_some (row_of x.settings.settled.rec user)) (nat_le most_users (length x.settings.settled.rec.users)) (has_no_slot x) (x.settings.settled.sequence == last_sequence) goes

    no_row : (row : Option UserRow) → is_some row ≡ false → row ≡ None
    no_row None e = refl
    no_row (Some r) e = absurd (cc)

    pub may_come : IsRecord x.settings.settled.rec → MayCome x user
    may_come rules = record {
      rules = rules;
      none = no_row (row_of x.settings.settled.rec user) causes.0;
      few = leb-false 16 (length x.settings.settled.rec.users) causes.1;
    }

    not_worn : x.settings.settled.sequence ≢ last_sequence
    not_worn e = let bad : true ≡ false = sym (eq-eqb x.settings.settled.sequence last_sequence e) ∙ causes.3 in cc

    -- so many bytes are drawn
    long_is : (s : State) → effect_len x.slots s (command.Add user escrow) ≡ draw_len x.slots escrow
    long_is s = by escrow
      where
        by : (b : Bool) → effect_len x.slots s (command.Add user b) ≡ draw_len x.slots b
        by true = refl
        by false = refl

    drawn_long : (noise : List ℕ) (len : ℕ) → length (drawn_bytes noise len) ≡ len
    drawn_long noise len = omega (arith, length-take len (noise ++ replicate len 0), length-append noise (replicate len 0), length-replicate {A = ℕ} len 0)

    -- the machine's turn, from before the drawing
    pub turn_kept : (old new : World) (bytes : List ℕ) → bytes ≡ drawn_bytes old.noise (draw_len x.slots escrow) → new ≡ record old { noise = drop (draw_len x.slots escrow) old.noise }
        → (s : State) → Agrees new x s → turn (stage_in old s) ≡ added_turn new s user escrow bytes
    turn_kept old new bytes are left s agrees =
        turn_is new s (stage_in old s) refl agrees
        ∙ (ap (turn_of x.slots (stage_in old s) user escrow) goes
        ∙ (ap (λ (n : ℕ). record {
          reply = Fine;
          stage = record {
            state = added s user escrow (drawn_bytes old.noise n);
            moments = old.moments;
            noise = drop (length (drawn_bytes old.noise n)) old.noise;
          };
        }) (long_is s)
        ∙ (λ i. record {
          reply = Fine;
          stage = record {
            state = added s user escrow (sym are i);
            moments = ap (λ (v : World). v.moments) (sym left) i;
            noise = (ap (λ (n : ℕ). drop n old.noise) (drawn_long old.noise (draw_len x.slots escrow)) ∙ ap (λ (v : World). v.noise) (sym left)) i;
          };
        })))

    -- ---- the plan

    -- It is made by the bytes that were drawn; nothing is drawn after them.
    pub ready_for : (old mid new : Sight) → IsRecord x.settings.settled.rec → (bytes : List ℕ) → mid.told ≡ old.told
        → (IsTrue old.told → (bytes ≡ drawn_bytes old.world.noise (draw_len x.slots escrow)) × (mid.world ≡ record old.world { noise = drop (draw_len x.slots escrow) old.world.noise }))
        → (result : Result Planned BoardFault) → (IsTrue mid.told → OnOk result (new.world ≡ mid.world)) → IfOk result (IsPlan new x user escrow bytes) → IfOk result (IsReadyFor old new x user escrow)
    ready_for old mid new rules bytes told are (Ok k) same plan = record {
      planned = record { may = may_come rules; fresh = not_worn; drawn = bytes; plan = plan };
      bytes = λ known. (are known).0;
      noise = λ known. same (subst (λ (b : Bool). IsTrue b) (sym told) known) ∙ (are known).1;
    }
    ready_for old mid new rules bytes told are (Err fault) same none = tt

-- ---- what a reply refuses

not_fine : (w : Refusal) → No w ≡ Fine → ⊥
not_fine w e = cc

pub fine_refuses : (own : Option Refusal) (old : Sight) (x : Session) (result : Result Reply Stop) (y : Session) (new : Sight) → own ≡ None → IfOk result (λ r. r ≡ Fine) → Refuses own old x result y new
fine_refuses own old x result y new is fine = unrefused own old x result y new is (λ w same its. not_fine w (subst (λ (r : Result Reply Stop). IfOk r (λ r. r ≡ Fine)) same fine))

pub err_refuses : (own : Option Refusal) (old : Sight) (x : Session) (stop : Stop) (y : Session) (new : Sight) → own ≡ None → Refuses own old x (Err stop) y new
err_refuses own old x stop y new is = unrefused own old x (Err stop) y new is (λ w same its. no_reply w same)
  where
    no_reply : (w : Refusal) → ◌≡◌ {A = Result Reply Stop} (Err stop) (Ok (No w)) → ⊥
    no_reply w e = cc
