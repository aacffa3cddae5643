-- A change that may be made leads from a record to a record.
use Rattle.std.proofs.Common.{◌≡◌, ◌≢◌, ◌⊎◌, ◌≤◌, ◌<◌, ◌^◌, ℕ, ◌+◌, ◌||◌, not, Bool, true, false, List, [], ◌∷◌, ◌++◌, length, Option, Some, None, refl, sym, ap, subst, ◌∙◌, arith, inl, inr}
use Rattle.std.specs.Prelude.{IfSome}
use Rattle.std.specs.List.{AllByRecursion, filter, list_any}
use Rattle.std.proofs.Math.Dec.{ltb, eqb}
use Rattle.std.proofs.lemmas.Bool.{or_cases, not-true, lt-ltb, le-ltb, ltb-true, eqb-true, eqb-false, eq-eqb, ne_eqb, not_from_false, cases_order, cases_eq}
use Rattle.std.proofs.lemmas.List.{length-append}
use Rattle.ls_record.specs.declared.row.UserRow.{UserRow}
use Rattle.ls_arming.specs.declared.arming.Arming.{Arming}
use Rattle.ls_record.specs.declared.edit.Edit.{Edit}
use Rattle.ls_record.specs.declared.edit.Edit.TheVariants.{PutRow, DropRow, SetArmed, ClearArmed}
use Rattle.ls_record.specs.Rows.{Rec, rec, Pairs, IsRow, has, AreApart, IsBefore, IsArming, IsRecord, has_row}
use Rattle.ls_record.specs.Edits.{below, above, changed, MayChange}
use Rattle.ls_arming.specs.Disarming.{arming_of, disarmed}
use Rattle.ls_record.proofs.TestLemmas.{all_map, all_both, all_swap, not_has, has_not}
use Rattle.ls_record.proofs.FilterLemmas.{all_filter, passing, pairs_filter, filter_none, filter_short, filter_shorter, all_between, pairs_insert, any_insert, any_here, any_kept}

-- the rows of other users
abbrev pub others : List UserRow → ℕ → List UserRow
others rows user = filter (λ r. not (eqb r.user user)) rows

-- no row above a user is below it
none_below : (rows : List UserRow) (user : ℕ) → AllByRecursion (λ y. user < y.user) rows → below rows user ≡ []
none_below rows user h =
    filter_none (λ r. ltb r.user user) rows (all_map (λ y. user < y.user) (λ y. ltb y.user user ≡ false) (λ y lt. le-ltb y.user user (omega arith)) rows h)

-- the rows below a user and those above it are those of the others
pub split_rows : (rows : List UserRow) (user : ℕ) → Pairs IsBefore rows → below rows user ++ above rows user ≡ others rows user
split_rows [] user h = refl
split_rows (r ∷ rows) user h = by (cases_order r.user user) (split_rows rows user h.1)
  where
    by : (r.user ≡ user) ⊎ ((r.user < user) ⊎ (user < r.user)) → below rows user ++ above rows user ≡ others rows user
        → below (r ∷ rows) user ++ above (r ∷ rows) user ≡ others (r ∷ rows) user
    by (inl e) rest =
        let not_below : ltb r.user user ≡ false = le-ltb r.user user (omega arith) in
        let not_above : ltb user r.user ≡ false = le-ltb user r.user (omega arith) in
        rw (not_below, not_above, eq-eqb r.user user e) rest
    by (inr (inl lt)) rest =
        let is_below : ltb r.user user ≡ true = lt-ltb r.user user lt in
        let not_above : ltb user r.user ≡ false = le-ltb user r.user (omega arith) in
        let other : eqb r.user user ≡ false = ne_eqb r.user user (λ e. omega arith) in
        rw (is_below, not_above, other) (ap (λ (l : List UserRow). r ∷ l) rest)
    by (inr (inr gt)) rest =
        let not_below : ltb r.user user ≡ false = le-ltb r.user user (omega arith) in
        let is_above : ltb user r.user ≡ true = lt-ltb user r.user gt in
        let other : eqb r.user user ≡ false = ne_eqb r.user user (λ e. omega arith) in
        let none : below rows user ≡ [] = none_below rows user (all_map (IsBefore r) (λ y. user < y.user) (λ y b. let lt = b.user in omega arith) rows h.0) in
        let tail : above rows user ≡ others rows user = ap (λ (l : List UserRow). l ++ above rows user) (sym none) ∙ rest in
        rw (not_below, is_above, other, none) (ap (λ (l : List UserRow). r ∷ l) tail)

twice : (b : Bool) → not (not b) ≡ b
twice true = refl
twice false = refl

any_twice : (p : UserRow → Bool) (rows : List UserRow) → list_any (λ y. not (not (p y))) rows ≡ list_any p rows
any_twice p [] = refl
any_twice p (y ∷ rows) = λ i. twice (p y) i || any_twice p rows i

-- ---- a row that is put

apart_turned : (y r : UserRow) → AreApart y r → AreApart r y
apart_turned y r h = record {
  protector = λ e. h.protector (sym e);
  secure = λ e. e ∙ h.secure (sym e);
  tokens =
      all_map (λ i. AllByRecursion (λ t. i ≢ t) r.tokens) (λ i. has r.tokens i ≡ false)
      (λ i k. has_not r.tokens i (all_map (λ t. i ≢ t) (λ t. t ≢ i) (λ t n e. n (sym e)) r.tokens k)) y.tokens
      (all_swap (λ t i. i ≢ t) r.tokens y.tokens (all_map (λ t. has y.tokens t ≡ false) (λ t. AllByRecursion (λ i. i ≢ t) y.tokens) (λ t e. not_has y.tokens t e) r.tokens h.tokens));
}

module _ (r : Rec) (keeps : IsRecord r) where
  pub kept_user : (user u : ℕ) → user ≢ u → has_row r.users u ≡ true → has_row (below r.users user ++ above r.users user) u ≡ true
  kept_user user u other there =
      ap (λ (rows : List UserRow). has_row rows u) (split_rows r.users user keeps.pairs)
      ∙ any_kept (λ y. eqb y.user u) (λ y. not (eqb y.user user)) (λ y e. not_from_false (eqb y.user user) (ne_eqb y.user user (λ same. other (sym same ∙ eqb-true y.user u e)))) r.users there

  shorter : (user : ℕ) → has_row r.users user ≡ true → length (below r.users user ++ above r.users user) + 1 ≤ length r.users
  shorter user there =
      let gone : list_any (λ y. not (not (eqb y.user user))) r.users ≡ true = any_twice (λ y. eqb y.user user) r.users ∙ there in
      subst (λ (rows : List UserRow). length rows + 1 ≤ length r.users) (sym (split_rows r.users user keeps.pairs)) (filter_shorter (λ y. not (eqb y.user user)) r.users gone)

  no_longer : (user : ℕ) → length (below r.users user ++ above r.users user) ≤ length r.users
  no_longer user = subst (λ (rows : List UserRow). length rows ≤ length r.users) (sym (split_rows r.users user keeps.pairs)) (filter_short (λ y. not (eqb y.user user)) r.users)

  module _ (row : UserRow) (may : MayChange r (PutRow row)) where
    few_put : length (below r.users row.user ++ row ∷ above r.users row.user) ≤ 16
    few_put =
        let sum : length (below r.users row.user ++ row ∷ above r.users row.user) ≡ length (below r.users row.user ++ above r.users row.user) + 1 =
        omega (arith, length-append (below r.users row.user) (row ∷ above r.users row.user), length-append (below r.users row.user) (above r.users row.user)) in
        elim (or_cases (has_row r.users row.user) (ltb (length r.users) 16) may.1) [
          | inl there ↦ omega (arith, sum, shorter row.user there, keeps.few)
          | inr room ↦ omega (arith, sum, no_longer row.user, ltb-true (length r.users) 16 room)
        ]

    before : AllByRecursion (λ y. IsBefore y row) (below r.users row.user)
    before =
        all_both (λ y. ltb y.user row.user ≡ true) (λ y. y.user ≢ row.user → AreApart y row) (λ y. IsBefore y row)
        (λ y e f. let lt = ltb-true y.user row.user e in record { user = lt; apart = f (λ same. omega arith) })
        (below r.users row.user) (passing (λ y. ltb y.user row.user) r.users) (all_filter (λ y. y.user ≢ row.user → AreApart y row) (λ y. ltb y.user row.user) r.users may.2)

    behind : AllByRecursion (IsBefore row) (above r.users row.user)
    behind =
        all_both (λ y. ltb row.user y.user ≡ true) (λ y. y.user ≢ row.user → AreApart y row) (IsBefore row)
        (λ y e f. let lt = ltb-true row.user y.user e in record { user = lt; apart = apart_turned y row (f (λ same. omega arith)) })
        (above r.users row.user) (passing (λ y. ltb row.user y.user) r.users) (all_filter (λ y. y.user ≢ row.user → AreApart y row) (λ y. ltb row.user y.user) r.users may.2)

    pub there_put : (u : ℕ) → has_row r.users u ≡ true → has_row (below r.users row.user ++ row ∷ above r.users row.user) u ≡ true
    there_put u there =
        elim (cases_eq row.user u) [
          | inl e ↦ any_here (λ y. eqb y.user u) (below r.users row.user) row (above r.users row.user) (eq-eqb row.user u e)
          | inr other ↦ any_insert (λ y. eqb y.user u) (below r.users row.user) row (above r.users row.user) (kept_user row.user u other there)
        ]

    armed_put : (o : Option Arming) → IfSome o (IsArming r.users) → IfSome o (IsArming (below r.users row.user ++ row ∷ above r.users row.user))
    armed_put None h = tt
    armed_put (Some a) h = record {
      boot = h.boot;
      some = h.some;
      few = h.few;
      ascending = h.ascending;
      there = all_map (λ u. has_row r.users u ≡ true) (λ u. has_row (below r.users row.user ++ row ∷ above r.users row.user) u ≡ true) there_put a.users h.there;
    }

    put_keeps : IsRecord (changed r (PutRow row))
    put_keeps = record {
      few = few_put;
      rows = all_between IsRow (below r.users row.user) row (above r.users row.user)
          (all_filter IsRow (λ y. ltb y.user row.user) r.users keeps.rows) may.0 (all_filter IsRow (λ y. ltb row.user y.user) r.users keeps.rows);
      pairs = pairs_insert IsBefore (below r.users row.user) row (above r.users row.user)
          (subst (Pairs IsBefore) (sym (split_rows r.users row.user keeps.pairs)) (pairs_filter IsBefore (λ y. not (eqb y.user row.user)) r.users keeps.pairs)) before behind;
      armed = armed_put r.armed keeps.armed;
    }

  -- ---- a row that is dropped

  module _ (user : ℕ) where
    rest : List UserRow
    rest = below r.users user ++ above r.users user

    left_users : (boot : ℕ) (users left : List ℕ) → boot < 2 ^ 32 → length left ≤ 16 → Pairs (λ u v. u < v) left → AllByRecursion (λ u. has_row (below r.users user ++ above r.users user) u ≡ true) left
        → IfSome (arming_of boot left) (IsArming (below r.users user ++ above r.users user))
    left_users boot users [] b few ascending there = tt
    left_users boot users (u ∷ left) b few ascending there = record { boot = b; some = omega arith; few = few; ascending = ascending; there = there }

    armed_dropped : (o : Option Arming) → IfSome o (IsArming r.users) → IfSome (disarmed o user) (IsArming (below r.users user ++ above r.users user))
    armed_dropped None h = tt
    armed_dropped (Some a) h =
        let p = λ (u : ℕ). not (eqb u user) in
        let short = filter_short p a.users in
        left_users a.boot a.users (filter p a.users) h.boot (omega (arith, short, h.few)) (pairs_filter (λ u v. u < v) p a.users h.ascending)
        (all_both (λ u. p u ≡ true) (λ u. has_row r.users u ≡ true) (λ u. has_row (below r.users user ++ above r.users user) u ≡ true)
        (λ u e there. kept_user user u (λ same. eqb-false u user (not-true (eqb u user) e) (sym same)) there) (filter p a.users) (passing p a.users)
        (all_filter (λ u. has_row r.users u ≡ true) p a.users h.there))

    drop_keeps : IsRecord (changed r (DropRow user))
    drop_keeps = record {
      few = omega (arith, no_longer user, keeps.few);
      rows = subst (AllByRecursion IsRow) (sym (split_rows r.users user keeps.pairs)) (all_filter IsRow (λ y. not (eqb y.user user)) r.users keeps.rows);
      pairs = subst (Pairs IsBefore) (sym (split_rows r.users user keeps.pairs)) (pairs_filter IsBefore (λ y. not (eqb y.user user)) r.users keeps.pairs);
      armed = armed_dropped r.armed keeps.armed;
    }

  pub changed_keeps : (e : Edit) → MayChange r e → IsRecord (changed r e)
  changed_keeps (PutRow row) may = put_keeps row may
  changed_keeps (DropRow user) may = drop_keeps user
  changed_keeps (SetArmed a) may = record { few = keeps.few; rows = keeps.rows; pairs = keeps.pairs; armed = may }
  changed_keeps ClearArmed may = record { few = keeps.few; rows = keeps.rows; pairs = keeps.pairs; armed = tt }

  -- ---- the parts of what was made

  pub put_made : (e : Edit) (row : UserRow) → e ≡ PutRow row → MayChange r e → (rows users : List UserRow) (armed : Option Arming) → rows ≡ r.users
      → users ≡ below rows row.user ++ row ∷ above rows row.user → armed ≡ r.armed → IsRecord (rec users armed)
  put_made e row is may rows users armed rows_are users_are armed_is =
      let made : rec users armed ≡ changed r (PutRow row) =
      λ i. rec ((users_are ∙ ap (λ (l : List UserRow). below l row.user ++ row ∷ above l row.user) rows_are) i) (armed_is i) in
      subst IsRecord (sym made) (put_keeps row (subst (MayChange r) is may))

  pub drop_made : (user : ℕ) (rows users : List UserRow) (armed : Option Arming) → rows ≡ r.users → users ≡ below rows user ++ above rows user → armed ≡ disarmed r.armed user
      → IsRecord (rec users armed)
  drop_made user rows users armed rows_are users_are armed_is =
      let made : rec users armed ≡ changed r (DropRow user) = λ i. rec ((users_are ∙ ap (λ (l : List UserRow). below l user ++ above l user) rows_are) i) (armed_is i) in
      subst IsRecord (sym made) (drop_keeps user)
