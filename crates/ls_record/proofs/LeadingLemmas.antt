-- At most one change leads from a record to another.
use Rattle.std.proofs.Common.{◌≡◌, ◌≢◌, ◌⊎◌, ◌<◌, ℕ, ◌&&◌, not, Bool, true, false, cond, List, [], ◌∷◌, ◌++◌, unwrap_or, Option, Some, None, Result, Ok, Err, refl, sym, ap, subst, ◌∙◌, arith, inl, inr}
use Rattle.std.specs.Prelude.{find, MatchBool, MatchResult, IfOk, IfSome}
use Rattle.std.specs.Bool.{beq}
use Rattle.std.specs.List.{AllByRecursion, filter}
use Rattle.std.specs.Cmp.Lexicographic.{pointwise, bytes_decides}
use Rattle.std.proofs.Math.Dec.{ltb, eqb}
use Rattle.std.proofs.lemmas.Bool.{and_parts, and_from, or_cases, or_left, or_right, not-true, not-false, lt-ltb, le-ltb, eqb-true, eq-eqb, cases_eq, cases_Bool}
use Rattle.ls_credential.specs.declared.kind.Kind.{Kind}
use Rattle.ls_credential.specs.declared.kind.Kind.TheVariants.{Empty, Pattern, Pin, Password}
use Rattle.ls_credential.specs.Codes.{code_of, kind_of}
use Rattle.ls_record.specs.declared.fault.RecordFault.{RecordFault}
use Rattle.ls_record.specs.declared.fault.RecordFault.TheVariants.{Short, Order, Limit, Extra, Memory}
use Rattle.ls_record.specs.declared.row.UserRow.{UserRow}
use Rattle.ls_record.specs.declared.edit.Edit.{Edit}
use Rattle.ls_record.specs.declared.edit.Edit.TheVariants.{PutRow, DropRow, SetArmed, ClearArmed}
use Rattle.ls_record.specs.Rows.{Rec, Pairs, IsBefore, IsRecord, has_row}
use Rattle.ls_record.specs.Spelling.{record_bytes, IsTextOf}
use Rattle.ls_record.specs.Reading.{record_of}
use Rattle.ls_record.specs.EditReading.{whole_edit}
use Rattle.ls_record.specs.Gives.{Tells}
use Rattle.ls_record.specs.Edits.{below, above, changed, MayChange, FitsFormat, edit_bytes, IsEditText, LeadsTo}
use Rattle.ls_record.specs.Leading.{same_flags, same_ids, same_row, is_among, a_missing, a_new, arming_edit, put_or, drop_or, candidate}
use Rattle.ls_record.proofs.TestLemmas.{no_pass, all_map}
use Rattle.ls_record.proofs.FilterLemmas.{passing, filter_none}
use Rattle.ls_record.proofs.ReaderLemmas.{IsBytes}
use Rattle.ls_record.proofs.RecordReaders.{record_again}
use Rattle.ls_record.proofs.EditReaders.{edit_takes, edit_again}
use Rattle.ls_record.proofs.ChangeLemmas.{others, split_rows, kept_user, there_put}

-- ---- equal rows

same_bool : (a b : Bool) → beq a b ≡ true → a ≡ b
same_bool true true h = refl
same_bool true false h = sym h
same_bool false true h = h
same_bool false false h = refl

own_bool : (a : Bool) → beq a a ≡ true
own_bool true = refl
own_bool false = refl

kind_again : (k : Kind) → unwrap_or (kind_of (code_of k)) Empty ≡ k
kind_again Empty = refl
kind_again Pattern = refl
kind_again Pin = refl
kind_again Password = refl

same_kind : (k l : Kind) → code_of k ≡ code_of l → k ≡ l
same_kind k l e = sym (kind_again k) ∙ ap (λ (n : ℕ). unwrap_or (kind_of n) Empty) e ∙ kind_again l

row_same : (x y : UserRow) → same_row x y ≡ true → x ≡ y
row_same x y h =
    let both = and_parts (same_flags x y) (same_ids x y) h in
    let f = and_parts ((beq x.escrow y.escrow && eqb (code_of x.kind) (code_of y.kind)) && beq x.auto y.auto) (eqb x.pin y.pin) both.0 in
    let g = and_parts (beq x.escrow y.escrow && eqb (code_of x.kind) (code_of y.kind)) (beq x.auto y.auto) f.0 in
    let k = and_parts (beq x.escrow y.escrow) (eqb (code_of x.kind) (code_of y.kind)) g.0 in
    let i = and_parts (eqb x.user y.user && eqb x.protector y.protector) (eqb x.secure y.secure && pointwise eqb x.tokens y.tokens) both.1 in
    let u = and_parts (eqb x.user y.user) (eqb x.protector y.protector) i.0 in
    let s = and_parts (eqb x.secure y.secure) (pointwise eqb x.tokens y.tokens) i.1 in
    let user = eqb-true x.user y.user u.0 in
    let escrow = same_bool x.escrow y.escrow k.0 in
    let kind = same_kind x.kind y.kind (eqb-true (code_of x.kind) (code_of y.kind) k.1) in
    let auto = same_bool x.auto y.auto g.1 in
    let pin = eqb-true x.pin y.pin f.1 in
    let protector = eqb-true x.protector y.protector u.1 in
    let secure = eqb-true x.secure y.secure s.0 in
    let tokens = (bytes_decides x.tokens y.tokens).0 s.1 in
    λ i. record { user = user i; escrow = escrow i; kind = kind i; auto = auto i; pin = pin i; protector = protector i; secure = secure i; tokens = tokens i }

own_row : (x : UserRow) → same_row x x ≡ true
own_row x =
    and_from (same_flags x x) (same_ids x x)
    (and_from ((beq x.escrow x.escrow && eqb (code_of x.kind) (code_of x.kind)) && beq x.auto x.auto) (eqb x.pin x.pin)
    (and_from (beq x.escrow x.escrow && eqb (code_of x.kind) (code_of x.kind)) (beq x.auto x.auto)
    (and_from (beq x.escrow x.escrow) (eqb (code_of x.kind) (code_of x.kind)) (own_bool x.escrow) (eq-eqb (code_of x.kind) (code_of x.kind) refl)) (own_bool x.auto))
    (eq-eqb x.pin x.pin refl))
    (and_from (eqb x.user x.user && eqb x.protector x.protector) (eqb x.secure x.secure && pointwise eqb x.tokens x.tokens)
    (and_from (eqb x.user x.user) (eqb x.protector x.protector) (eq-eqb x.user x.user refl) (eq-eqb x.protector x.protector refl))
    (and_from (eqb x.secure x.secure) (pointwise eqb x.tokens x.tokens) (eq-eqb x.secure x.secure refl) ((bytes_decides x.tokens x.tokens).1 refl)))

-- ---- a row among others

abbrev IsIn : UserRow → List UserRow → Type 0
IsIn row [] = ⊥
IsIn row (r ∷ rows) = (r ≡ row) ⊎ IsIn row rows

in_from_test : (rows : List UserRow) (row : UserRow) → is_among rows row ≡ true → IsIn row rows
in_from_test [] row h = let bad : false ≡ true = h in cc
in_from_test (r ∷ rows) row h =
    elim (or_cases (same_row r row) (is_among rows row) h) [
      | inl e ↦ inl (row_same r row e)
      | inr more ↦ inr (in_from_test rows row more)
    ]

test_from_in : (rows : List UserRow) (row : UserRow) → IsIn row rows → is_among rows row ≡ true
test_from_in [] row h = elim h [ ]
test_from_in (r ∷ rows) row (inl e) = or_left (same_row r row) (is_among rows row) (ap (λ (x : UserRow). same_row x row) e ∙ own_row row)
test_from_in (r ∷ rows) row (inr more) = or_right (same_row r row) (is_among rows row) (test_from_in rows row more)

all_in : (P : UserRow → Type 0) (rows : List UserRow) (row : UserRow) → AllByRecursion P rows → IsIn row rows → P row
all_in P [] row h there = elim there [ ]
all_in P (r ∷ rows) row h (inl e) = subst P e h.0
all_in P (r ∷ rows) row h (inr more) = all_in P rows row h.1 more

in_filter : (p : UserRow → Bool) (rows : List UserRow) (row : UserRow) → IsIn row (filter p rows) → IsIn row rows
in_filter p [] row h = elim h [ ]
in_filter p (r ∷ rows) row h = by (p r) (λ more. in_filter p rows row more) h
  where
    by : (b : Bool) → (IsIn row (filter p rows) → IsIn row rows) → IsIn row (cond b (r ∷ filter p rows) (filter p rows)) → IsIn row (r ∷ rows)
    by true rest (inl e) = inl e
    by true rest (inr more) = inr (rest more)
    by false rest more = inr (rest more)

-- a row of two parts with one between them
in_parts : (front : List UserRow) (r : UserRow) (back : List UserRow) (row : UserRow) → IsIn row (front ++ r ∷ back) → IsIn row front ⊎ ((r ≡ row) ⊎ IsIn row back)
in_parts [] r back row h = inr h
in_parts (x ∷ front) r back row (inl e) = inl (inl e)
in_parts (x ∷ front) r back row (inr more) =
    elim (in_parts front r back row more) [
      | inl here ↦ inl (inr here)
      | inr there ↦ inr there
    ]

in_between : (front : List UserRow) (r : UserRow) (back : List UserRow) → IsIn r (front ++ r ∷ back)
in_between [] r back = inl refl
in_between (x ∷ front) r back = inr (in_between front r back)

in_has_row : (rows : List UserRow) (row : UserRow) → IsIn row rows → has_row rows row.user ≡ true
in_has_row [] row h = elim h [ ]
in_has_row (r ∷ rows) row (inl e) = or_left (eqb r.user row.user) (has_row rows row.user) (eq-eqb r.user row.user (ap (λ (x : UserRow). x.user) e))
in_has_row (r ∷ rows) row (inr more) = or_right (eqb r.user row.user) (has_row rows row.user) (in_has_row rows row more)

-- each user of the rows has one of the next
each_kept : (rows next : List UserRow) → AllByRecursion (λ x. has_row next x.user ≡ true) rows → (user : ℕ) → has_row rows user ≡ true → has_row next user ≡ true
each_kept [] next all user h = absurd (let bad : false ≡ true = h in cc)
each_kept (r ∷ rows) next all user h =
    elim (or_cases (eqb r.user user) (has_row rows user) h) [
      | inl e ↦ subst (λ (u : ℕ). has_row next u ≡ true) (eqb-true r.user user e) all.0
      | inr more ↦ each_kept rows next all.1 user more
    ]

-- ---- what is found

record IsFound (test : UserRow → Bool) (rows : List UserRow) (row : UserRow) : Type 0 where
  passes : test row ≡ true
  there : IsIn row rows

abbrev some_row : UserRow → Option UserRow
some_row row = Some row

abbrev no_row : Option UserRow
no_row = None

found_is : (test : UserRow → Bool) (rows : List UserRow) (row : UserRow) → find test rows ≡ Some row → IsFound test rows row
found_is test [] row h = absurd (let bad : no_row ≡ some_row row = h in cc)
found_is test (r ∷ rows) row h = by (cases_Bool (test r)) (λ more. found_is test rows row more)
  where
    by : (test r ≡ true) ⊎ (test r ≡ false) → (find test rows ≡ some_row row → IsFound test rows row) → IsFound test (r ∷ rows) row
    by (inl e) behind =
        let here : some_row r ≡ some_row row = rw e at h in
        let same : r ≡ row = cc in
        record { passes = subst (λ (x : UserRow). test x ≡ true) same e; there = inl same }
    by (inr e) behind =
        let more : find test rows ≡ some_row row = rw e at h in
        let rest = behind more in
        record { passes = rest.passes; there = inr rest.there }

none_is : (test : UserRow → Bool) (rows : List UserRow) → find test rows ≡ no_row → AllByRecursion (λ r. test r ≡ false) rows
none_is test [] h = tt
none_is test (r ∷ rows) h = by (cases_Bool (test r)) (λ more. none_is test rows more)
  where
    by : (test r ≡ true) ⊎ (test r ≡ false) → (find test rows ≡ no_row → AllByRecursion (λ x. test x ≡ false) rows) → AllByRecursion (λ x. test x ≡ false) (r ∷ rows)
    by (inl e) behind = absurd (let bad : some_row r ≡ no_row = rw e at h in cc)
    by (inr e) behind = let more : find test rows ≡ no_row = rw e at h in (e, behind more)

-- ---- a row that was there

keep_all : (p : UserRow → Bool) (rows : List UserRow) → AllByRecursion (λ r. p r ≡ true) rows → filter p rows ≡ rows
keep_all p [] h = refl
keep_all p (r ∷ rows) h = rw h.0 (ap (λ (l : List UserRow). r ∷ l) (keep_all p rows h.1))

put_same : (rows : List UserRow) (row : UserRow) → Pairs IsBefore rows → IsIn row rows → below rows row.user ++ row ∷ above rows row.user ≡ rows
put_same [] row pairs there = elim there [ ]
put_same (r ∷ rows) row pairs (inl e) = subst (λ (x : UserRow). below (r ∷ rows) x.user ++ x ∷ above (r ∷ rows) x.user ≡ r ∷ rows) e here
  where
    here : below (r ∷ rows) r.user ++ r ∷ above (r ∷ rows) r.user ≡ r ∷ rows
    here =
        let own : ltb r.user r.user ≡ false = le-ltb r.user r.user (omega arith) in
        let none : below rows r.user ≡ [] = filter_none (λ x. ltb x.user r.user) rows (all_map (IsBefore r) (λ x. ltb x.user r.user ≡ false) (λ x b. let lt = b.user in le-ltb x.user r.user (omega arith)) rows pairs.0) in
        let all : above rows r.user ≡ rows = keep_all (λ x. ltb r.user x.user) rows (all_map (IsBefore r) (λ x. ltb r.user x.user ≡ true) (λ x b. lt-ltb r.user x.user b.user) rows pairs.0) in
        rw (own, none) (ap (λ (l : List UserRow). r ∷ l) all)
put_same (r ∷ rows) row pairs (inr more) =
    let lt : r.user < row.user = (all_in (IsBefore r) rows row pairs.0 more).user in
    let is_below : ltb r.user row.user ≡ true = lt-ltb r.user row.user lt in
    let not_above : ltb row.user r.user ≡ false = le-ltb row.user r.user (omega arith) in
    rw (is_below, not_above) (ap (λ (l : List UserRow). r ∷ l) (put_same rows row pairs.1 more))

-- ---- the one change

module _ (r next : Rec) (keeps : IsRecord r) where
  users_are : (x : Rec) → x ≡ next → x.users ≡ next.users
  users_are x e = ap (λ (y : Rec). y.users) e

  -- a user that is dropped has no row
  dropped : (user : ℕ) → has_row (below r.users user ++ above r.users user) user ≡ false
  dropped user =
      ap (λ (rows : List UserRow). has_row rows user) (split_rows r.users user keeps.pairs)
      ∙ no_pass (λ x. eqb x.user user) (others r.users user)
      (all_map (λ x. not (eqb x.user user) ≡ true) (λ x. eqb x.user user ≡ false) (λ x e. not-true (eqb x.user user) e) (others r.users user) (passing (λ x. not (eqb x.user user)) r.users))

  drop_only : (user : ℕ) → has_row r.users user ≡ true → has_row next.users user ≡ false → (f : Edit) → LeadsTo r f next → f ≡ DropRow user
  drop_only user there gone (PutRow row) h =
      absurd (let bad : true ≡ false = sym (there_put r keeps row h.may user there) ∙ ap (λ (rows : List UserRow). has_row rows user) (users_are (changed r (PutRow row)) h.to) ∙ gone in cc)
  drop_only user there gone (DropRow v) h = by (cases_eq v user)
    where
      by : (v ≡ user) ⊎ (v ≢ user) → DropRow v ≡ DropRow user
      by (inl e) = ap (λ (u : ℕ). DropRow u) e
      by (inr other) =
          absurd (let bad : true ≡ false = sym (kept_user r keeps v user other there) ∙ ap (λ (rows : List UserRow). has_row rows user) (users_are (changed r (DropRow v)) h.to) ∙ gone in cc)
  drop_only user there gone (SetArmed a) h =
      absurd (let bad : true ≡ false = sym there ∙ ap (λ (rows : List UserRow). has_row rows user) (users_are (changed r (SetArmed a)) h.to) ∙ gone in cc)
  drop_only user there gone ClearArmed h =
      absurd (let bad : true ≡ false = sym there ∙ ap (λ (rows : List UserRow). has_row rows user) (users_are (changed r ClearArmed) h.to) ∙ gone in cc)

  module _ (kept : AllByRecursion (λ x. has_row next.users x.user ≡ true) r.users) where
    no_drop : (user : ℕ) → LeadsTo r (DropRow user) next → ⊥
    no_drop user h =
        let there : has_row next.users user ≡ true = each_kept r.users next.users kept user h.may in
        let bad : true ≡ false = sym there ∙ ap (λ (rows : List UserRow). has_row rows user) (sym (users_are (changed r (DropRow user)) h.to)) ∙ dropped user in
        cc

    -- a row that is put and wasn't there is the one that was put
    put_is : (row y : UserRow) → (IsIn y r.users → ⊥) → IsIn y (below r.users row.user ++ row ∷ above r.users row.user) → PutRow row ≡ PutRow y
    put_is row y new there =
        elim (in_parts (below r.users row.user) row (above r.users row.user) y there) [
          | inl low ↦ absurd (new (in_filter (λ x. ltb x.user row.user) r.users y low))
          | inr (inl e) ↦ ap (λ (x : UserRow). PutRow x) e
          | inr (inr high) ↦ absurd (new (in_filter (λ x. ltb row.user x.user) r.users y high))
        ]

    put_only : (y : UserRow) → IsIn y next.users → (IsIn y r.users → ⊥) → (f : Edit) → LeadsTo r f next → f ≡ PutRow y
    put_only y there new (PutRow row) h = put_is row y new (subst (IsIn y) (sym (users_are (changed r (PutRow row)) h.to)) there)
    put_only y there new (DropRow v) h = absurd (no_drop v h)
    put_only y there new (SetArmed a) h = absurd (new (subst (IsIn y) (sym (users_are (changed r (SetArmed a)) h.to)) there))
    put_only y there new ClearArmed h = absurd (new (subst (IsIn y) (sym (users_are (changed r ClearArmed) h.to)) there))

    arming_only : AllByRecursion (λ y. is_among r.users y ≡ true) next.users → (f : Edit) → LeadsTo r f next → f ≡ arming_edit next.armed
    arming_only old (PutRow row) h =
        let put : IsIn row next.users = subst (IsIn row) (users_are (changed r (PutRow row)) h.to) (in_between (below r.users row.user) row (above r.users row.user)) in
        let was : IsIn row r.users = in_from_test r.users row (all_in (λ y. is_among r.users y ≡ true) next.users row old put) in
        let same : changed r (PutRow row) ≡ r = λ i. record { users = put_same r.users row keeps.pairs was i; armed = r.armed } in
        absurd (h.other (sym h.to ∙ same))
    arming_only old (DropRow v) h = absurd (no_drop v h)
    arming_only old (SetArmed a) h = ap arming_edit (ap (λ (x : Rec). x.armed) h.to)
    arming_only old ClearArmed h = ap arming_edit (ap (λ (x : Rec). x.armed) h.to)

  -- the change that leads there is the one that is looked for
  pub candidate_only : (f : Edit) → LeadsTo r f next → f ≡ candidate r next
  candidate_only f h = by (a_missing r.users next.users) refl
    where
      missing : UserRow → Bool
      missing x = not (has_row next.users x.user)

      new : UserRow → Bool
      new x = not (is_among r.users x)

      put_by : AllByRecursion (λ x. has_row next.users x.user ≡ true) r.users → (o : Option UserRow) → a_new r.users next.users ≡ o → f ≡ put_or o (arming_edit next.armed)
      put_by kept None e =
          arming_only kept (all_map (λ y. not (is_among r.users y) ≡ false) (λ y. is_among r.users y ≡ true) (λ y k. not-false (is_among r.users y) k) next.users
          (none_is (λ y. not (is_among r.users y)) next.users e)) f h
      put_by kept (Some y) e =
          let found = found_is (λ x. not (is_among r.users x)) next.users y e in
          put_only kept y found.there (λ was. let bad : true ≡ false = sym (test_from_in r.users y was) ∙ not-true (is_among r.users y) found.passes in cc) f h

      by : (o : Option UserRow) → a_missing r.users next.users ≡ o → f ≡ drop_or o (put_or (a_new r.users next.users) (arming_edit next.armed))
      by None e =
          put_by (all_map (λ x. not (has_row next.users x.user) ≡ false) (λ x. has_row next.users x.user ≡ true) (λ x k. not-false (has_row next.users x.user) k) r.users
          (none_is (λ x. not (has_row next.users x.user)) r.users e)) (a_new r.users next.users) refl
      by (Some x) e =
          let found = found_is (λ y. not (has_row next.users y.user)) r.users x e in
          drop_only x.user (in_has_row r.users x found.there) (not-true (has_row next.users x.user) found.passes) f h

-- ---- equal records

abbrev ok : Rec → Result Rec RecordFault
ok r = Ok r

spelled : (r : Rec) → IsRecord r → IsTextOf (record_bytes 2 r) r
spelled r keeps = (keeps, (2, inr refl, refl))

pub same_records : (r s : Rec) → IsRecord r → IsRecord s → (b : Bool) → b ≡ pointwise eqb (record_bytes 2 r) (record_bytes 2 s) → MatchBool b (r ≡ s) (r ≢ s)
same_records r s one two true e =
    let texts = (bytes_decides (record_bytes 2 r) (record_bytes 2 s)).0 (sym e) in
    let read : ok r ≡ ok s = sym (record_again (record_bytes 2 r) r (spelled r one)) ∙ ap record_of texts ∙ record_again (record_bytes 2 s) s (spelled s two) in
    cc
same_records r s one two false e = λ same.
    let bad : false ≡ true = e ∙ (bytes_decides (record_bytes 2 r) (record_bytes 2 s)).1 (ap (record_bytes 2) same) in
    cc

-- ---- a change that is read back

abbrev change : Edit → Result Edit RecordFault
change e = Ok e

module _ (r : Rec) (keeps : IsRecord r) (e : Edit) where
  text_of : MayChange r e → IsEditText 2 r (edit_bytes 2 e) e
  text_of may = record { may = may; fits = fits e; is = refl }
    where
      fits : (f : Edit) → FitsFormat 2 f
      fits (PutRow row) = λ bad. absurd (omega (arith, bad))
      fits (DropRow user) = tt
      fits (SetArmed a) = tt
      fits ClearArmed = tt

  -- what was read may be made
  pub read_may : (bytes : List ℕ) → IsBytes bytes → (read : Edit) → whole_edit 2 r.users bytes ≡ Ok read → MayChange r read
  read_may bytes fits read h = (edit_takes 2 r keeps.rows bytes read fits h).may

  -- a change that may be made is read back
  pub read_back : (bytes : List ℕ) → bytes ≡ edit_bytes 2 e → (read : Edit) → whole_edit 2 r.users bytes ≡ Ok read → MayChange r e → read ≡ e
  read_back bytes is read h may =
      let same : change read ≡ change e = sym h ∙ ap (whole_edit 2 r.users) is ∙ edit_again 2 r keeps.rows (edit_bytes 2 e) e (text_of may) in
      cc

  -- and no other fault than Memory is told of it
  pub no_fault : (bytes : List ℕ) → bytes ≡ edit_bytes 2 e → (f : RecordFault) → f ≢ Memory → Tells (whole_edit 2 r.users bytes) f → MayChange r e → ⊥
  no_fault bytes is f other told may = by f other told (ap (whole_edit 2 r.users) is ∙ edit_again 2 r keeps.rows (edit_bytes 2 e) e (text_of may))
    where
      by : (f : RecordFault) → f ≢ Memory → Tells (whole_edit 2 r.users bytes) f → whole_edit 2 r.users bytes ≡ Ok e → ⊥
      by (Short at) other told read = let bad : ◌≡◌ {A = Result Edit RecordFault} (Err (Short at)) (Ok e) = sym told ∙ read in cc
      by (Order at) other told read = let bad : ◌≡◌ {A = Result Edit RecordFault} (Err (Order at)) (Ok e) = sym told ∙ read in cc
      by (Limit at) other told read = let bad : ◌≡◌ {A = Result Edit RecordFault} (Err (Limit at)) (Ok e) = sym told ∙ read in cc
      by (Extra at) other told read = let bad : ◌≡◌ {A = Result Edit RecordFault} (Err (Extra at)) (Ok e) = sym told ∙ read in cc
      by Memory other told read = other refl

  -- so a change that may be made is found, unless memory runs out
  pub only_found : {M : Type 0} (bytes : List ℕ) → bytes ≡ edit_bytes 2 e → (f : RecordFault) → Tells (whole_edit 2 r.users bytes) f → (result : Result (Option Edit) M)
      → MatchResult result (λ o. (o ≡ None) × (f ≢ Memory)) (λ m. f ≡ Memory) → MayChange r e → IfOk result (λ o. o ≡ Some e)
  only_found bytes is f told (Ok o) h may = absurd (no_fault bytes is f h.1 told may)
  only_found bytes is f told (Err m) h may = tt

-- ---- what is answered

pub found_leads : (r next : Rec) → r ≢ next → (o : Option Edit) → IfSome o (λ e. MayChange r e × (changed r e ≡ next)) → IfSome o (λ e. LeadsTo r e next)
found_leads r next differ None h = tt
found_leads r next differ (Some e) h = record { may = h.0; to = h.1; other = λ same. differ (sym same) }

-- what leads there is the only one that could
pub only_leads : {M : Type 0} (r next : Rec) → IsRecord r → (edit : Edit) → edit ≡ candidate r next → (result : Result (Option Edit) M)
    → (MayChange r edit → changed r edit ≡ next → IfOk result (λ o. o ≡ Some edit)) → (e : Edit) → LeadsTo r e next → IfOk result (λ o. o ≡ Some e)
only_leads r next keeps edit edit_is result only e h =
    let same : edit ≡ e = edit_is ∙ sym (candidate_only r next keeps e h) in
    subst (λ (x : Edit). IfOk result (λ o. o ≡ Some x)) same (only (subst (MayChange r) (sym same) h.may) (ap (changed r) same ∙ h.to))
