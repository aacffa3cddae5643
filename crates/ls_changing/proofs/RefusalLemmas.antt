-- Why a credential isn't replaced, by the session as by the machine; and the machine's turn where it is.
use Rattle.std.proofs.Common.{◌≡◌, ◌≢◌, ◌+◌, not, ℕ, suc, Bool, true, false, cond, List, [], ◌∷◌, ◌++◌, drop, replicate, length, Option, None, Some, refl, sym, ap, subst, ◌∙◌, arith}
use Rattle.std.specs.Prelude.{◌==◌, ◌&&◌, nat_lt, nat_le, sum_by, Result, Ok, Err, IfOk}
use Rattle.std.specs.List.{AllZip}
use Rattle.std.proofs.lemmas.Bool.{eq-eqb}
use Rattle.std.proofs.lemmas.List.Sums.{sum_by-append}
use Rattle.std.proofs.lemmas.List.{length-take, length-append, length-replicate}
use Rattle.ls_board.specs.declared.world.World.{World}
use Rattle.ls_board.specs.Acts.{Sight}
use Rattle.ls_credential.specs.declared.kind.Kind.{Kind}
use Rattle.ls_credential.specs.Rules.{KindAndText}
use Rattle.ls_naming.specs.Current.{last_sequence}
use Rattle.ls_record.specs.declared.row.UserRow.{UserRow}
use Rattle.ls_script.specs.declared.command.Command.TheVariants as command
use Rattle.ls_script.specs.declared.reply.Refusal.{Refusal}
use Rattle.ls_script.specs.declared.reply.Refusal.TheVariants.{NoUser, Locked, NoSlot, Worn}
use Rattle.ls_script.specs.declared.reply.Reply.{Reply}
use Rattle.ls_script.specs.declared.reply.Reply.TheVariants.{Fine, No}
use Rattle.ls_standing.specs.Named.{held_of_row}
use Rattle.ls_standing.specs.Standing.{HoldsUser}
use Rattle.ls_tape.specs.Tape.{drawn as drawn_bytes}
use Rattle.ls_vault.specs.declared.state.State.{State}
use Rattle.ls_vault.specs.declared.user.User.{User}
use Rattle.ls_vault.specs.declared.vault.Books.{Books}
use Rattle.ls_vault.specs.Credentials.{credential_changed}
use Rattle.ls_vault.specs.Drawn.{is_first_of, credential_len, number_len}
use Rattle.ls_vault.specs.Kinds.{is_empty}
use Rattle.ls_vault.specs.Limits.{used, is_full, is_worn, last_of_64}
use Rattle.ls_vault.specs.Refusals.{of_user, change_refusal}
use Rattle.ls_vault.specs.Script.{Stage}
use Rattle.ls_vault.specs.Users.{user_of}
use Rattle.ls_turn.specs.declared.session.Session.{Session}
use Rattle.ls_turn.specs.declared.session.Opened.{Opened}
use Rattle.ls_turn.specs.declared.stop.Stop.{Stop}
use Rattle.ls_turn.specs.Agreeing.{Agrees}
use Rattle.ls_turn.specs.Refusing.{Refuses, is_open, has_no_slot, of_row, own_refusal, row_of, used_by}
use Rattle.ls_turn.specs.Serving.{CanServe, Serves, Turned, turned, stage_in, Always}
use Rattle.ls_turn.proofs.KnownLemmas.{opened_is}
use Rattle.ls_turn.proofs.RowLemmas.{user_there, nobody_there}
use Rattle.ls_turn.proofs.StillLemmas.{answered}
use Rattle.ls_users.proofs.FoundLemmas.{entry_of, opened_not}
use Rattle.ls_changing.specs.Drawing.{own_len}
use Rattle.ls_board.specs.declared.action.BoardFault.{BoardFault}
use Rattle.ls_record.specs.Rows.{IsRecord}
use Rattle.ls_turn.proofs.RefuseLemmas.{unrefused}
use Rattle.ls_changing.specs.declared.planned.Planned.{Planned}
use Rattle.ls_changing.specs.Planning.{draw_len, changed_turn, IsDrawnFor, IsReadyFor}
use Rattle.ls_changing.proofs.ChoiceLemmas.{length_map_same}
use Rattle.ls_changing.proofs.TurnLemmas.{turn_of, turned_is}

-- ---- slots

used_zip : (R : UserRow → User → Type 0) → ((row : UserRow) (u : User) → R row u → length row.tokens ≡ length u.tokens) → (rows : List UserRow) (users : List User) → AllZip R rows users
    → (length users ≡ length rows) × (sum_by (λ u. length u.tokens) users ≡ sum_by (λ row. length row.tokens) rows)
used_zip R says [] [] all = (refl, refl)
used_zip R says [] (u ∷ users) all = absurd all
used_zip R says (x ∷ rows) [] all = absurd all
used_zip R says (x ∷ rows) (u ∷ users) all =
    let rest = used_zip R says rows users all.1 in
    let its = says x u all.0 in
    let left = sum_by-append (λ (u : User). length u.tokens) (u ∷ []) users in
    let right = sum_by-append (λ (row : UserRow). length row.tokens) (x ∷ []) rows in
    let same = rest.1 in
    (ap (λ (n : ℕ). suc n) rest.0, omega (arith, its, left, right, same))

-- ---- the refusal

abbrev own_by : Option UserRow → Bool → Bool → Bool → Option Refusal
own_by row o full last = of_row row (λ row. cond o (cond full (Some NoSlot) (cond last (Some Worn) None)) (Some Locked))

flipped : (o : Bool) (p q : Option Refusal) → cond (not o) p q ≡ cond o q p
flipped true p q = refl
flipped false p q = refl

module _ (w : World) (x : Session) (s : State) (a : Agrees w x s) (user : ℕ) where
  used_is : used s.vault.users ≡ used_by x.settings.settled.rec.users
  used_is =
      let z = used_zip (λ row u. HoldsUser row (held_of_row w x.settings.settled.rec.armed row) u)
      (λ row u h. ap (λ (l : List ℕ). length l) h.says.tokens ∙ length_map_same (λ t. t.id) u.tokens) x.settings.settled.rec.users s.vault.users a.stands.stands.holds.users in
      λ i. z.0 i + z.1 i

  full_is : is_full x.slots s ≡ has_no_slot x
  full_is = ap (λ (n : ℕ). nat_lt 0 x.slots && nat_le x.slots n) used_is

  worn_is : is_worn s ≡ (x.settings.settled.sequence == last_sequence)
  worn_is = ap (λ (b : Books). b.kept == last_of_64) a.books_are

  abbrev by_machine : Option User → Bool → Bool → Bool → Option Refusal
  by_machine u o full last = of_user u (λ u. cond (not o) (Some Locked) (cond full (Some NoSlot) (cond last (Some Worn) None)))

  pub refused_alike : (c : KindAndText) → of_user (user_of s.vault.users user) (λ u. change_refusal x.slots s user) ≡ own_refusal x (command.Change user c)
  refused_alike c =
      (λ i. by_machine (user_of s.vault.users user) (opened_is w x s a user i) (full_is i) (worn_is i))
      ∙ by (row_of x.settings.settled.rec user) refl
    where
      by : (row : Option UserRow) → row_of x.settings.settled.rec user ≡ row
          → by_machine (user_of s.vault.users user) (is_open x user) (has_no_slot x) (x.settings.settled.sequence == last_sequence) ≡ own_by row (is_open x user) (has_no_slot x) (x.settings.settled.sequence == last_sequence)
      by None none = ap (λ (u : Option User). by_machine u (is_open x user) (has_no_slot x) (x.settings.settled.sequence == last_sequence)) (nobody_there w x s a user none)
      by (Some row) found =
          let its = user_there w x s a user row found in
          ap (λ (u : Option User). by_machine u (is_open x user) (has_no_slot x) (x.settings.settled.sequence == last_sequence)) its.1
          ∙ flipped (is_open x user) (Some Locked) (cond (has_no_slot x) (Some NoSlot) (cond (x.settings.settled.sequence == last_sequence) (Some Worn) None))

module _ (x : Session) (user : ℕ) (c : KindAndText) where
  abbrev turn : Stage → Turned
  turn = turned x.slots (command.Change user c)

  abbrev own : Option Refusal
  own = own_refusal x (command.Change user c)

  turn_is : (w : World) (s : State) (at : Stage) → at.state ≡ s → Agrees w x s → turn at ≡ turn_of x.slots at user c own
  turn_is w s at same agrees =
      turned_is x.slots at user c
      ∙ ap (turn_of x.slots at user c) (ap (λ (t : State). of_user (user_of t.vault.users user) (λ u. change_refusal x.slots t user)) same ∙ refused_alike w x s agrees user c)

  -- it is refused
  pub change_refused : (old : Sight) → CanServe old x → (why : Refusal) → own ≡ Some why → Serves old x turn Always (Ok (No why)) x old
  change_refused old can why is = answered old x turn Always (No why) can (omega arith)
      (λ s agrees. turn_is old.world s (stage_in old.world s) refl agrees ∙ ap (turn_of x.slots (stage_in old.world s) user c) is)

  -- ---- it isn't refused

  module _ (goes : own ≡ None) where
    own_cases : own_by (row_of x.settings.settled.rec user) (is_open x user) (has_no_slot x) (x.settings.settled.sequence == last_sequence) ≡ None
    own_cases = goes

    pub row_some : row_of x.settings.settled.rec user ≢ None
    row_some none = let bad : ◌≡◌ {A = Option Refusal} (Some NoUser) None = sym (ap (λ (r : Option UserRow). own_by r (is_open x user) (has_no_slot x) (x.settings.settled.sequence == last_sequence)) none) ∙ goes in cc

    module _ (row : UserRow) (found : row_of x.settings.settled.rec user ≡ Some row) where
      chain : cond (is_open x user) (cond (has_no_slot x) (Some NoSlot) (cond (x.settings.settled.sequence == last_sequence) (Some Worn) None)) (Some Locked) ≡ None
      chain = sym (ap (λ (r : Option UserRow). own_by r (is_open x user) (has_no_slot x) (x.settings.settled.sequence == last_sequence)) found) ∙ goes

      all_of : (o full last : Bool) → cond o (cond full (Some NoSlot) (cond last (Some Worn) None)) (Some Locked) ≡ None → (o ≡ true) × (full ≡ false) × (last ≡ false)
      all_of true true last e = absurd (cc)
      all_of true false true e = absurd (cc)
      all_of true false false e = (refl, refl, refl)
      all_of false full last e = absurd (cc)

      each : (is_open x user ≡ true) × (has_no_slot x ≡ false) × ((x.settings.settled.sequence == last_sequence) ≡ false)
      each = all_of (is_open x user) (has_no_slot x) (x.settings.settled.sequence == last_sequence) chain

      pub entry_some : entry_of x.opened.items user ≢ None
      entry_some none = let bad : true ≡ false = sym each.0 ∙ opened_not user x.opened.items none in cc

      pub room_there : has_no_slot x ≡ false
      room_there = each.1

      pub not_worn : x.settings.settled.sequence ≢ last_sequence
      not_worn e = let bad : true ≡ false = sym (eq-eqb x.settings.settled.sequence last_sequence e) ∙ each.2 in cc

      -- so many bytes are drawn
      long_is : (w : World) (s : State) → Agrees w x s → cond (is_first_of c (user_of s.vault.users user)) (number_len + number_len) 0 + credential_len x.slots c.kind ≡ draw_len x.slots row c
      long_is w s agrees =
          let its = user_there w x s agrees user row found in
          ap (λ (u : Option User). cond (is_first_of c u) (number_len + number_len) 0 + credential_len x.slots c.kind) its.1
          ∙ ap (λ (k : Kind). own_len (is_empty k && not (is_empty c.kind)) + credential_len x.slots c.kind) (sym its.2.says.kind)

      drawn_long : (noise : List ℕ) (len : ℕ) → length (drawn_bytes noise len) ≡ len
      drawn_long noise len = omega (arith, length-take len (noise ++ replicate len 0), length-append noise (replicate len 0), length-replicate {A = ℕ} len 0)

      -- the machine's turn, from before the drawing
      pub turn_kept : (old new : World) (bytes : List ℕ) → bytes ≡ drawn_bytes old.noise (draw_len x.slots row c) → new ≡ record old { noise = drop (draw_len x.slots row c) old.noise }
          → (s : State) → Agrees new x s → turn (stage_in old s) ≡ changed_turn new s user c bytes
      turn_kept old new bytes are left s agrees =
          let long = long_is new s agrees in
          turn_is new s (stage_in old s) refl agrees
          ∙ (ap (turn_of x.slots (stage_in old s) user c) goes
          ∙ (ap (λ (n : ℕ). record {
            reply = Fine;
            stage = record {
              state = credential_changed s user c (drawn_bytes old.noise n);
              moments = old.moments;
              noise = drop (length (drawn_bytes old.noise n)) old.noise;
            };
          }) long
          ∙ (λ i. record {
            reply = Fine;
            stage = record {
              state = credential_changed s user c (sym are i);
              moments = ap (λ (v : World). v.moments) (sym left) i;
              noise = (ap (λ (n : ℕ). drop n old.noise) (drawn_long old.noise (draw_len x.slots row c)) ∙ ap (λ (v : World). v.noise) (sym left)) i;
            };
          })))

-- ---- what a reply refuses

not_fine : (w : Refusal) → No w ≡ Fine → ⊥
not_fine w e = cc

pub fine_refuses : (own : Option Refusal) (old : Sight) (x : Session) (result : Result Reply Stop) (y : Session) (new : Sight) → own ≡ None → IfOk result (λ r. r ≡ Fine) → Refuses own old x result y new
fine_refuses own old x result y new is fine = unrefused own old x result y new is (λ w same its. not_fine w (subst (λ (r : Result Reply Stop). IfOk r (λ r. r ≡ Fine)) same fine))

pub err_refuses : (own : Option Refusal) (old : Sight) (x : Session) (stop : Stop) (y : Session) (new : Sight) → own ≡ None → Refuses own old x (Err stop) y new
err_refuses own old x stop y new is = unrefused own old x (Err stop) y new is (λ w same its. no_reply w same)
  where
    no_reply : (w : Refusal) → ◌≡◌ {A = Result Reply Stop} (Err stop) (Ok (No w)) → ⊥
    no_reply w e = cc

-- ---- the plan of a user

pub ready_for : (old new : Sight) (x : Session) (user : ℕ) (c : KindAndText) → own_refusal x (command.Change user c) ≡ None → IsRecord x.settings.settled.rec
    → (row : UserRow) → row_of x.settings.settled.rec user ≡ Some row → (e : Opened) → entry_of x.opened.items user ≡ Some e
    → (result : Result Planned BoardFault) → IfOk result (IsDrawnFor old new x row c e.secret) → IfOk result (IsReadyFor old new x user c)
ready_for old new x user c goes rules row found e opened (Ok k) d = record {
  planned = record {
    rules = rules;
    row = row;
    found = found;
    entry = e;
    opened = opened;
    fresh = not_worn x user c goes row found;
    drawn = d.bytes;
    plan = d.plan;
  };
  bytes = d.drawn;
  noise = d.noise;
}
ready_for old new x user c goes rules row found e opened (Err fault) d = tt
