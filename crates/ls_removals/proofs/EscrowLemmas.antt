-- The tokens of a user end.
use Rattle.std.proofs.Common.{◌≡◌, ◌≢◌, ◌⊎◌, inl, inr, ◌<◌, ◌^◌, not, ℕ, Bool, true, false, cond, List, [], ◌∷◌, ◌++◌, map, Option, None, Some, refl, sym, ◌∙◌, ap, subst, arith}
use Rattle.std.specs.Prelude.{◌==◌, ◌&&◌, filter, Ok}
use Rattle.std.specs.List.{Contains}
use Rattle.std.proofs.lemmas.Bool.{eq-eqb, ne_eqb}
use Rattle.std.proofs.lemmas.List.Elements.{Contains-append_left, Contains-append_right, Contains-append_cases}
use Rattle.ls_arming.specs.declared.arming.Arming.{Arming}
use Rattle.ls_board.specs.declared.action.Action.{Action}
use Rattle.ls_board.specs.declared.action.Action.TheVariants.{Remove, Sync}
use Rattle.ls_board.specs.declared.world.World.{World}
use Rattle.ls_board.specs.Acts.{Sight}
use Rattle.ls_board.specs.Reach.{AllTouchOnly}
use Rattle.ls_dropping.proofs.DroppingLemmas.{file_user}
use Rattle.ls_edits.specs.Rows.{HasNoNewPart, without_escrow}
use Rattle.ls_edits.proofs.KeepingLemmas.{plain_held}
use Rattle.ls_edits.proofs.MayLemmas.{plain_row}
use Rattle.ls_edits.proofs.PutRowLemmas.{row_put}
use Rattle.ls_formats.specs.declared.part.FilePart.{FilePart}
use Rattle.ls_formats.specs.declared.part.FilePart.TheVariants.{Handle, E0, P1, Resume}
use Rattle.ls_formats.specs.PartNames.{PartOf, IsPartOf, is_of_user}
use Rattle.ls_naming.specs.Named.{NamesFile, credential_parts, has_secure, is_armed, only_if, parts_of, row_files, token_files, token_parts, user_parts}
use Rattle.ls_naming.specs.Current.{last_sequence}
use Rattle.ls_record.specs.declared.edit.Edit.TheVariants.{PutRow}
use Rattle.ls_record.specs.declared.row.UserRow.{UserRow}
use Rattle.ls_record.specs.Edits.{changed as edited, MayChange}
use Rattle.ls_record.specs.Rows.{Rec, IsRecord, IsRow, is_odd, is_protector_id}
use Rattle.ls_record.proofs.ChangeLemmas.{changed_keeps}
use Rattle.ls_retiring.specs.Retiring.{own_name}
use Rattle.ls_script.specs.declared.command.Command.{Command}
use Rattle.ls_script.specs.declared.command.Command.TheVariants as command
use Rattle.ls_script.specs.declared.reply.Refusal.{Refusal}
use Rattle.ls_script.specs.declared.reply.Refusal.TheVariants.{NoEscrow, NoUser}
use Rattle.ls_script.specs.declared.reply.Reply.TheVariants.{No}
use Rattle.ls_sealing.specs.Protectors.{Protector, has_weaver}
use Rattle.ls_standing.specs.Clearing.{AllTakeAway}
use Rattle.ls_standing.specs.Named.{credential_of, token_of as protector_of}
use Rattle.ls_standing.specs.NamedProtectors.{row_protectors}
use Rattle.ls_standing.specs.Quiet.{unnamed}
use Rattle.ls_standing.proofs.ContainsLemmas.{at_first, none_in, first_or_behind, in_map, of_map, of_flat}
use Rattle.ls_standing.proofs.IdLemmas.{even_not_odd, is_row}
use Rattle.ls_standing.proofs.PairLemmas.{each_in}
use Rattle.ls_standing.proofs.TouchLemmas.{file_unnamed}
use Rattle.ls_vault.specs.declared.session.SessionState.{SessionState}
use Rattle.ls_vault.specs.declared.state.State.{State}
use Rattle.ls_vault.specs.declared.user.User.{User}
use Rattle.ls_vault.specs.Refusals.{escrow_off_refusal, worn_refusal}
use Rattle.ls_vault.specs.Script.{Stage}
use Rattle.ls_vault.specs.TokenChanges.{escrow_ended, plain}
use Rattle.ls_vault.specs.Tokens.{pending_of_others}
use Rattle.ls_turn.specs.declared.session.Pending.{Pending}
use Rattle.ls_turn.specs.declared.session.Session.{Session}
use Rattle.ls_turn.specs.Agreeing.{Agrees, pending_token}
use Rattle.ls_turn.specs.Refusing.{of_row, own_refusal, row_of, unless_kept}
use Rattle.ls_turn.specs.Serving.{CanServe, Serves, Turned, turned, stage_in, Always}
use Rattle.ls_turn.specs.Waiting.{CanWait, those_of}
use Rattle.ls_turn.proofs.KnownLemmas.{filter_map_same}
use Rattle.ls_turn.proofs.RowLemmas.{one_row, row_found}
use Rattle.ls_turn.proofs.WaitLemmas.{none_of_others, wait_plain, wait_without}
use Rattle.ls_removals.specs.declared.going.Going.{Going}
use Rattle.ls_removals.specs.declared.going.Which.TheVariants.{AllBut}
use Rattle.ls_removals.specs.Going.{goes}
use Rattle.ls_removals.specs.Ending.{all_of}
use Rattle.ls_removals.specs.Letting.{AllLeaveTo, HasForgotten, LeavesOut, LeavesTo, waiting_still}
use Rattle.ls_removals.proofs.LessLemmas.{less_leaves, may}
use Rattle.ls_removals.proofs.ReplacedLemmas.{replaced_leads}
use Rattle.ls_removals.proofs.TurnLemmas.{IsHeld, by_row, kept_fresh, refused_serves, turned_by, worn_alike}

-- ---- all that wait

and_all : (b : Bool) → (b && true) ≡ b
and_all true = refl
and_all false = refl

-- those of the other users wait still
pub others_still : (user : ℕ) (pending : List Pending) → waiting_still (all_of user) pending ≡ filter (λ p. not (p.user == user)) pending
others_still user pending = λ i. filter (λ p. not (and_all (p.user == user) i)) pending

-- what is pending then, as the machine has it
pub others_alike : (w : World) (x : Session) (s : State) → Agrees w x s → (user : ℕ) (pending : List Pending) → pending ≡ waiting_still (all_of user) x.pending.items
    → map pending_token pending ≡ pending_of_others s.session.pending user
others_alike w x s a user pending is =
    ap (map pending_token) (is ∙ others_still user x.pending.items)
    ∙ (sym (filter_map_same pending_token (λ p. not (p.user == user)) x.pending.items)
    ∙ ap (λ (t : SessionState). pending_of_others t.pending user) a.session)

-- ---- files of a user itself

abbrev own_of : ℕ → FilePart → PartOf
own_of user part = record { user = user; id = 0; part = part }

-- a file with the id 0 that a row names is one of the user itself
part_of : (weaver : Bool) (armed : Option Arming) (row : UserRow) → IsRow row → (part : FilePart) → Contains (row_files weaver armed row) (own_of row.user part) → Contains (user_parts armed row) part
part_of weaver armed row rules part named = by (Contains-append_cases one (two ++ three) (own_of row.user part) named)
  where
    one : List PartOf
    one = parts_of row.user 0 (user_parts armed row)

    two : List PartOf
    two = parts_of row.user row.protector (credential_parts weaver row.kind)

    three : List PartOf
    three = token_files weaver row

    id_of : (id : ℕ) (parts : List FilePart) → Contains (parts_of row.user id parts) (own_of row.user part) → id ≡ 0
    id_of id parts k = ap (λ (n : PartOf). n.id) (of_map (λ (p : FilePart). record { user = row.user; id = id; part = p }) parts (own_of row.user part) k).2

    by : Contains one (own_of row.user part) ⊎ Contains (two ++ three) (own_of row.user part) → Contains (user_parts armed row) part
    by (inl k) =
        let f = of_map (λ (p : FilePart). record { user = row.user; id = 0; part = p }) (user_parts armed row) (own_of row.user part) k in
        subst (Contains (user_parts armed row)) (ap (λ (n : PartOf). n.part) f.2) f.1
    by (inr k) = late (Contains-append_cases two three (own_of row.user part) k)
      where
        late : Contains two (own_of row.user part) ⊎ Contains three (own_of row.user part) → Contains (user_parts armed row) part
        late (inl m) =
            let bad : false ≡ true = ap is_protector_id (sym (id_of row.protector (credential_parts weaver row.kind) m)) ∙ rules.protector.0 in
            absurd (cc)
        late (inr m) =
            let t = of_flat (λ (t : ℕ). parts_of row.user t (token_parts weaver)) row.tokens (own_of row.user part) m in
            let odd = each_in (λ t. (is_odd t ≡ true) × (t < 2 ^ 64)) row.tokens t.0 rules.tokens t.1 in
            let bad : false ≡ true = ap is_odd (sym (id_of t.0 (token_parts weaver) t.2)) ∙ odd.0 in
            absurd (cc)

-- ---- the command

module _ (x : Session) (user : ℕ) where
  abbrev c : Command
  c = command.EscrowOff user

  abbrev turn : Stage → Turned
  turn = turned x.slots c

  abbrev own : Option Refusal
  own = own_refusal x c

  abbrev r : Rec
  r = x.settings.settled.rec

  abbrev refusal_of : UserRow → Option Refusal
  refusal_of row = cond row.escrow (unless_kept x) (Some NoEscrow)

  flipped : (b : Bool) (p q : Option Refusal) → cond (not b) p q ≡ cond b q p
  flipped true p q = refl
  flipped false p q = refl

  cause_alike : (w : World) (s : State) (a : Agrees w x s) (row : UserRow) (u : User) → IsHeld w x s a row u → escrow_off_refusal s u ≡ refusal_of row
  cause_alike w s a row u held = flipped u.escrow (Some NoEscrow) (worn_refusal s) ∙ (λ i. cond (sym held.says.escrow i) (worn_alike w x s a i) (Some NoEscrow))

  turn_is : (w : World) (s : State) → Agrees w x s → turn (stage_in w s) ≡ turned_by (stage_in w s) (escrow_ended s user) own
  turn_is w s a = ap (turned_by (stage_in w s) (escrow_ended s user)) (by_row w x s a user (escrow_off_refusal s) refusal_of (λ row u found there held. cause_alike w s a row u held))

  pub refused : (old : Sight) → CanServe old x → (why : Refusal) → own ≡ Some why → Serves old x turn Always (Ok (No why)) x old
  refused = refused_serves x c own (λ s. escrow_ended s user) turn_is

  pub nobody : row_of r user ≡ None → own ≡ Some NoUser
  nobody none = ap (λ (o : Option UserRow). of_row o refusal_of) none

  module _ (row : UserRow) (found : row_of r user ≡ Some row) where
    pub own_is : own ≡ refusal_of row
    own_is = ap (λ (o : Option UserRow). of_row o refusal_of) found

    here : Contains r.users row
    here = (row_found user r.users row found).0

    its_user : row.user ≡ user
    its_user = (row_found user r.users row found).1

    -- all tokens, active or not
    abbrev waiting : Going
    waiting = all_of user

    abbrev tokens : Going
    tokens = record { user = user; which = AllBut row.protector }

    module _ (is : IsRecord r) where
      abbrev pub bare : UserRow
      bare = without_escrow row

      abbrev next : Rec
      next = edited r (PutRow bare)

      rules : IsRow row
      rules = is_row r is row here

      less : HasNoNewPart row bare
      less = record { user = refl; kind = refl; protector = refl; secure = refl; escrow = λ e. absurd (cc); tokens = λ t k. absurd (none_in t k) }

      fits : IsRow bare
      fits = plain_row row rules

      pub escrow_may : MayChange r (PutRow bare)
      escrow_may = may r is row bare here less fits

      next_is : IsRecord next
      next_is = changed_keeps r is (PutRow bare) escrow_may

      -- ---- protectors

      not_both : (b : Bool) (m n : ℕ) → m ≡ n → (b && not (m == n)) ≡ false
      not_both true m n e = ap not (eq-eqb m n e)
      not_both false m n e = refl

      stays : (p : Protector) → Contains (row_protectors bare) p → goes tokens p.user p.id ≡ false
      stays p its = by (first_or_behind (credential_of bare) [] p its)
        where
          by : (credential_of bare ≡ p) ⊎ Contains [] p → goes tokens p.user p.id ≡ false
          by (inl e) = subst (λ (q : Protector). goes tokens q.user q.id ≡ false) e (not_both (row.user == user) row.protector row.protector refl)
          by (inr k) = absurd (none_in p k)

      rests : (p : Protector) → Contains (row_protectors row) p → goes tokens p.user p.id ≡ false → Contains (row_protectors bare) p
      rests p its none = by (first_or_behind (credential_of row) (map (protector_of row) row.tokens) p its)
        where
          by : (credential_of row ≡ p) ⊎ Contains (map (protector_of row) row.tokens) p → Contains (row_protectors bare) p
          by (inl e) = subst (Contains (row_protectors bare)) e (at_first (credential_of row) [])
          by (inr k) =
              let t = of_map (protector_of row) row.tokens p k in
              let odd = each_in (λ t. (is_odd t ≡ true) × (t < 2 ^ 64)) row.tokens t.0 rules.tokens t.1 in
              let apart : (t.0 == row.protector) ≡ false = ne_eqb t.0 row.protector (λ e. even_not_odd row.protector t.0 rules.protector.0 odd.0 (sym e)) in
              let bad : true ≡ false =
              sym ((λ i. eq-eqb row.user user its_user i && not (apart i)))
              ∙ (ap (λ (q : Protector). goes tokens q.user q.id) t.2 ∙ none) in
              absurd (cc)

      -- ---- files

      abbrev pub removing : List Action
      removing = Remove (own_name row.user E0) ∷ Remove (own_name row.user P1) ∷ Sync ∷ []

      abbrev secure_part : List FilePart
      secure_part = only_if (has_secure row) (Handle ∷ [])

      abbrev armed_part : List FilePart
      armed_part = only_if (is_armed r.armed row.user) (Resume ∷ [])

      removed : (b : Bool) (part : FilePart) → Contains (only_if b (E0 ∷ P1 ∷ [])) part → Contains removing (Remove (own_name row.user part))
      removed true part k =
          Contains-append_left (map (λ (p : FilePart). Remove (own_name row.user p)) (E0 ∷ P1 ∷ [])) (Sync ∷ []) (Remove (own_name row.user part))
          (in_map (λ (p : FilePart). Remove (own_name row.user p)) (E0 ∷ P1 ∷ []) part k)
      removed false part k = absurd (none_in part k)

      parts : (part : FilePart) → Contains (user_parts r.armed row) part → Contains (user_parts r.armed bare) part ⊎ Contains removing (Remove (own_name row.user part))
      parts part k = by (Contains-append_cases secure_part (only_if row.escrow (E0 ∷ P1 ∷ []) ++ armed_part) part k)
        where
          late : Contains (only_if row.escrow (E0 ∷ P1 ∷ [])) part ⊎ Contains armed_part part → Contains (user_parts r.armed bare) part ⊎ Contains removing (Remove (own_name row.user part))
          late (inl m) = inr (removed row.escrow part m)
          late (inr m) = inl (Contains-append_right secure_part armed_part part m)

          by : Contains secure_part part ⊎ Contains (only_if row.escrow (E0 ∷ P1 ∷ []) ++ armed_part) part → Contains (user_parts r.armed bare) part ⊎ Contains removing (Remove (own_name row.user part))
          by (inl m) = inl (Contains-append_left secure_part armed_part part m)
          by (inr m) = late (Contains-append_cases (only_if row.escrow (E0 ∷ P1 ∷ [])) armed_part part m)

      -- neither file is named any more
      none_only : (b : Bool) (p q : FilePart) → (p ≡ q → ⊥) → ¬ (Contains (only_if b (p ∷ [])) q)
      none_only true p q apart k = by (first_or_behind p [] q k)
        where
          by : (p ≡ q) ⊎ Contains [] q → ⊥
          by (inl e) = apart e
          by (inr m) = none_in q m
      none_only false p q apart k = none_in q k

      not_bare : (part : FilePart) → (Handle ≡ part → ⊥) → (Resume ≡ part → ⊥) → ¬ (Contains (user_parts r.armed bare) part)
      not_bare part one two k = by (Contains-append_cases secure_part armed_part part k)
        where
          by : Contains secure_part part ⊎ Contains armed_part part → ⊥
          by (inl m) = none_only (has_secure row) Handle part one m
          by (inr m) = none_only (is_armed r.armed row.user) Resume part two m

      not_named : (w : World) (part : FilePart) → ¬ (Contains (user_parts r.armed bare) part) → ¬ (NamesFile (has_weaver w) next (own_of row.user part))
      not_named w part none named = by (of_flat (row_files (has_weaver w) r.armed) next.users (own_of row.user part) named)
        where
          by : (z : UserRow) × Contains next.users z × Contains (row_files (has_weaver w) r.armed z) (own_of row.user part) → ⊥
          by (z, there, k) =
              let same : z ≡ bare = one_row next next_is bare (row_put r bare) z there (sym (file_user w r is row here (has_weaver w) r.armed z (own_of row.user part) k)) in
              none (part_of (has_weaver w) r.armed bare fits part (subst (λ (y : UserRow). Contains (row_files (has_weaver w) r.armed y) (own_of row.user part)) same k))

      is_part : (part : FilePart) → true ≡ is_of_user part → IsPartOf (own_of row.user part)
      is_part part own = record { user = rules.user; id = omega arith; part = own }

      e0_gone : Handle ≡ E0 → ⊥
      e0_gone e = cc

      e0_left : Resume ≡ E0 → ⊥
      e0_left e = cc

      p1_gone : Handle ≡ P1 → ⊥
      p1_gone e = cc

      p1_left : Resume ≡ P1 → ⊥
      p1_left e = cc

      touch : (w : World) → AllTouchOnly (unnamed w next) removing
      touch w = (
        file_unnamed w next (own_of row.user E0) next_is (is_part E0 refl) (not_named w E0 (not_bare E0 e0_gone e0_left)),
        (file_unnamed w next (own_of row.user P1) next_is (is_part P1 refl) (not_named w P1 (not_bare P1 p1_gone p1_left)), (tt, tt)),
      )

      away : AllTakeAway removing
      away = ((own_of row.user E0, is_part E0 refl, refl), ((own_of row.user P1, is_part P1 refl, refl), (tt, tt)))

      leaves : LeavesOut r next (goes tokens) removing
      leaves = less_leaves r is row bare here less fits removing parts tokens (sym its_user) stays rests (λ slots. (tt, (tt, (tt, tt)))) away touch

      pub escrow_leaves : (n : Rec) (after : List Action) → n ≡ next → after ≡ removing → LeavesOut r n (goes tokens) after
      escrow_leaves n after same its =
          subst (λ (z : Rec). LeavesOut r z (goes tokens) after) (sym same)
          (subst (λ (l : List Action). LeavesOut r next (goes tokens) l) (sym its) leaves)

      -- ---- what waits

      none_wait : those_of row.user (waiting_still waiting x.pending.items) ≡ []
      none_wait =
          (λ i. those_of (its_user i) (others_still user x.pending.items i))
          ∙ none_of_others user x.pending.items

      pub escrow_waits : CanWait r.users x.pending.items → (n : Rec) → n ≡ next → CanWait n.users (waiting_still waiting x.pending.items)
      escrow_waits can n same = subst (λ (z : Rec). CanWait z.users (waiting_still waiting x.pending.items)) (sym same)
          (wait_plain r (waiting_still waiting x.pending.items) (wait_without r.users x.pending.items can (λ p. not (goes waiting p.user p.id))) bare none_wait refl)

      -- ---- where it leads

      fresh : refusal_of row ≡ None → x.settings.settled.sequence ≢ last_sequence
      fresh unrefused = kept_fresh x (by row.escrow unrefused)
        where
          by : (b : Bool) → cond b (unless_kept x) (Some NoEscrow) ≡ None → unless_kept x ≡ None
          by true e = e
          by false e = absurd (cc)

      pub escrow_leads : refusal_of row ≡ None → (old : Sight) (y : Session) → HasForgotten waiting x y → (n : Rec) → n ≡ next → AllLeaveTo old x y n turn
      escrow_leads unrefused old y forgotten n same told s a = subst (λ (z : Rec). LeavesTo old.world y z s (turn (stage_in old.world s))) (sym same)
          (replaced_leads old.world x s a user row bare found less fits plain (λ u. record { number = refl; secret = refl; credential = refl })
          (λ u h. plain_held old.world r.armed row u h) y forgotten.is (pending_of_others s.session.pending user)
          (others_alike old.world x s a user y.pending.items forgotten.pending) (fresh unrefused)
          (turn (stage_in old.world s)) (turn_is old.world s a ∙ ap (turned_by (stage_in old.world s) (escrow_ended s user)) (own_is ∙ unrefused)))
