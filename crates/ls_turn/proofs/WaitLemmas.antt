-- What keeps it that each pending token may become an active one.
use Rattle.std.proofs.Common.{◌≡◌, ◌≢◌, ◌⊎◌, ⊎_elim, ◌≤◌, ◌<◌, ◌^◌, ◌+◌, not, ℕ, Bool, true, false, cond, List, [], ◌∷◌, ◌++◌, length, refl, sym, ◌∙◌, ap, subst, arith}
use Rattle.std.specs.Prelude.{◌==◌, filter}
use Rattle.std.specs.List.{Contains}
use Rattle.std.proofs.lemmas.Bool.{cases_eq, eqb-true, eq-eqb, ne_eqb}
use Rattle.std.proofs.lemmas.List.{length-append}
use Rattle.std.proofs.lemmas.List.Elements.{filter-append, Contains-append_cases}
use Rattle.ls_edits.proofs.FilterLemmas.{filtered_in, in_filter}
use Rattle.ls_edits.proofs.PutRowLemmas.{row_put, of_put, others_put}
use Rattle.ls_record.specs.declared.edit.Edit.TheVariants.{PutRow, DropRow}
use Rattle.ls_record.specs.declared.row.UserRow.{UserRow}
use Rattle.ls_record.specs.Edits.{changed}
use Rattle.ls_record.specs.Rows.{Rec, IsRecord, IsRow, Pairs, has, is_odd}
use Rattle.ls_record.proofs.ChangeLemmas.{split_rows}
use Rattle.ls_record.proofs.FilterLemmas.{filter_none, filter_short, pairs_filter}
use Rattle.ls_settings.specs.Loaded.{Loaded}
use Rattle.ls_standing.proofs.ContainsLemmas.{at_first, first_or_behind, none_in}
use Rattle.ls_standing.proofs.PairLemmas.{all_from, each_in, pairs_append}
use Rattle.ls_vault.specs.Limits.{most_tokens}
use Rattle.ls_turn.specs.declared.session.Pending.{Pending}
use Rattle.ls_turn.specs.declared.session.Session.{Session}
use Rattle.ls_turn.specs.Waiting.{CanWait, those_of}
use Rattle.ls_turn.proofs.RowLemmas.{few_in, one_row}

-- ---- of a session

abbrev pub Waits : Session → Type 0
Waits x = CanWait x.settings.settled.rec.users x.pending.items

-- one that has the same record and the same pending tokens
pub waits_kept : (x y : Session) → y.settings ≡ x.settings → y.pending.items ≡ x.pending.items → Waits x → Waits y
waits_kept x y settings pending was =
    subst (λ (l : List Pending). CanWait y.settings.settled.rec.users l) (sym pending)
    (subst (λ (s : Loaded). CanWait s.settled.rec.users x.pending.items) (sym settings) was)

-- where nothing is pending
pub none_wait : (r : Rec) → IsRecord r → (pending : List Pending) → pending ≡ [] → CanWait r.users pending
none_wait r is pending none = subst (CanWait r.users) (sym none) (record {
  owner = λ p here. absurd (none_in p here);
  ids = λ p here. absurd (none_in p here);
  once = tt;
  free = λ p here. absurd (none_in p here);
  few = λ row here. let most = few_in row (each_in IsRow r.users row is.rows here) in omega (arith, most);
})

-- ---- those of one user

-- a test after another one, and the other way round
filter_turned : {X : Type 0} (p q : X → Bool) (xs : List X) → filter p (filter q xs) ≡ filter q (filter p xs)
filter_turned p q [] = refl
filter_turned {X = X} p q (x ∷ xs) = by (p x) (q x) refl refl (filter_turned p q xs)
  where
    by : (a b : Bool) → p x ≡ a → q x ≡ b → filter p (filter q xs) ≡ filter q (filter p xs)
        → filter p (cond b (x ∷ filter q xs) (filter q xs)) ≡ filter q (cond a (x ∷ filter p xs) (filter p xs))
    by true true e f rest = rw (e, f) (ap (λ (l : List X). x ∷ l) rest)
    by true false e f rest = rw f rest
    by false true e f rest = rw e rest
    by false false e f rest = rest

module _ (users : List UserRow) (pending : List Pending) (can : CanWait users pending) (user : ℕ) where
  its : (p : Pending) → Contains (those_of user pending) p → Contains pending p × (p.user ≡ user)
  its p here = let f = filtered_in (λ (q : Pending). q.user == user) pending p here in (f.0, eqb-true p.user user f.1)

  -- there are no more than there may be
  pub few_pending : length (those_of user pending) ≤ most_tokens
  few_pending = by (those_of user pending) refl
    where
      by : (l : List Pending) → those_of user pending ≡ l → length (those_of user pending) ≤ most_tokens
      by [] is = subst (λ (l : List Pending). length l ≤ most_tokens) (sym is) (omega arith)
      by (p ∷ l) is =
          let at = its p (subst (λ (k : List Pending). Contains k p) (sym is) (at_first p l)) in
          let own = can.owner p at.0 in
          let few = can.few own.0 own.1 in
          subst (λ (n : ℕ). length (those_of n pending) ≤ most_tokens) (own.2 ∙ at.1) (omega (arith, few))

  -- none is of a user that has no row
  pub none_without_row : ((row : UserRow) → Contains users row → row.user ≢ user) → those_of user pending ≡ []
  none_without_row other = filter_none (λ (p : Pending). p.user == user) pending
      (all_from (λ (p : Pending). (p.user == user) ≡ false) pending
      (λ p here. let own = can.owner p here in ne_eqb p.user user (λ same. other own.0 own.1 (own.2 ∙ same))))

-- none is left where those of the user are left out
pub none_of_others : (user : ℕ) (pending : List Pending) → those_of user (filter (λ p. not (p.user == user)) pending) ≡ []
none_of_others user [] = refl
none_of_others user (p ∷ pending) = by (p.user == user) refl (none_of_others user pending)
  where
    by : (b : Bool) → (p.user == user) ≡ b → those_of user (filter (λ q. not (q.user == user)) pending) ≡ []
        → those_of user (cond (not b) (p ∷ filter (λ q. not (q.user == user)) pending) (filter (λ q. not (q.user == user)) pending)) ≡ []
    by true e rest = rest
    by false e rest = rw e rest

-- where none is of the user, each is of another
pub each_is_anothers : (user : ℕ) (pending : List Pending) → those_of user pending ≡ [] → (p : Pending) → Contains pending p → p.user ≢ user
each_is_anothers user pending none p here same =
    none_in p (subst (λ (l : List Pending). Contains l p) none (in_filter (λ (q : Pending). q.user == user) pending p here (ap (λ (n : ℕ). n == user) same ∙ eq-eqb user user refl)))

-- ---- fewer of them

module _ (users : List UserRow) (pending : List Pending) (can : CanWait users pending) where
  -- some of these, each once
  pub wait_some : (kept : List Pending) → ((p : Pending) → Contains kept p → Contains pending p) → Pairs (λ p q. p.id ≢ q.id) kept
      → ((user : ℕ) → length (those_of user kept) ≤ length (those_of user pending)) → CanWait users kept
  wait_some kept within once fewer = record {
    owner = λ p here. can.owner p (within p here);
    ids = λ p here. can.ids p (within p here);
    once = once;
    free = λ p here. can.free p (within p here);
    few = λ row here. let most = can.few row here in let less = fewer row.user in omega (arith, most, less);
  }

  -- those that pass a test
  pub wait_without : (test : Pending → Bool) → CanWait users (filter test pending)
  wait_without test = wait_some (filter test pending) (λ p here. (filtered_in test pending p here).0)
      (pairs_filter (λ p q. p.id ≢ q.id) test pending can.once)
      (λ user.
      subst (λ (l : List Pending). length l ≤ length (those_of user pending)) (filter_turned test (λ p. p.user == user) pending)
      (filter_short test (those_of user pending)))

  -- ---- one more

  -- behind them waits one of a user who may have one more, under an id of a token that no other has
  pub wait_behind : (one : Pending)
      → ((row : UserRow) × Contains users row × (row.user ≡ one.user) × (row.escrow ≡ true))
      → (is_odd one.id ≡ true) × (one.id < 2 ^ 64)
      → ((row : UserRow) → Contains users row → has row.tokens one.id ≡ false)
      → ((p : Pending) → Contains pending p → p.id ≢ one.id)
      → ((row : UserRow) → Contains users row → row.user ≡ one.user → length row.tokens + length (those_of row.user pending) < most_tokens)
      → CanWait users (pending ++ one ∷ [])
  wait_behind one owner ids free other room = record {
    owner = λ p here. by_one (λ q. (row : UserRow) × Contains users row × (row.user ≡ q.user) × (row.escrow ≡ true)) can.owner owner p here;
    ids = λ p here. by_one (λ q. (is_odd q.id ≡ true) × (q.id < 2 ^ 64)) can.ids ids p here;
    once = pairs_append (λ p q. p.id ≢ q.id) pending (one ∷ []) can.once (tt, tt)
        (λ p q here last. ⊎_elim (λ (e : one ≡ q). subst (λ (z : Pending). p.id ≢ z.id) e (other p here)) (λ no. absurd (none_in q no)) (first_or_behind one [] q last));
    free = λ p here. by_one (λ q. (row : UserRow) → Contains users row → has row.tokens q.id ≡ false) can.free free p here;
    few = λ row here.
        subst (λ (l : List Pending). length row.tokens + length l ≤ most_tokens) (sym (filter-append (λ p. p.user == row.user) pending (one ∷ [])))
        (subst (λ (n : ℕ). length row.tokens + n ≤ most_tokens) (sym (length-append (those_of row.user pending) (those_of row.user (one ∷ []))))
        (few_by row here (one.user == row.user) refl));
  }
    where
      by_one : (P : Pending → Type 0) → ((p : Pending) → Contains pending p → P p) → P one → (p : Pending) → Contains (pending ++ one ∷ []) p → P p
      by_one P each last p here =
          ⊎_elim (each p) (λ l. ⊎_elim (λ (e : one ≡ p). subst P e last) (λ no. absurd (none_in p no)) (first_or_behind one [] p l)) (Contains-append_cases pending (one ∷ []) p here)

      few_by : (row : UserRow) → Contains users row → (b : Bool) → (one.user == row.user) ≡ b → length row.tokens + (length (those_of row.user pending) + length (cond b (one ∷ []) [])) ≤ most_tokens
      few_by row here true same = let below = room row here (sym (eqb-true one.user row.user same)) in omega (arith, below)
      few_by row here false apart = let most = can.few row here in omega (arith, most)

-- ---- other rows

module _ (r : Rec) (pending : List Pending) (can : CanWait r.users pending) where
  module _ (row : UserRow) where
    abbrev CanWaitThen : Type 0
    CanWaitThen = CanWait (changed r (PutRow row)).users pending

    -- A row is put: its user may have those that wait of it, none of them is active in it, and there is
    -- room for them.
    pub wait_put : ((p : Pending) → Contains pending p → p.user ≡ row.user → row.escrow ≡ true)
        → ((p : Pending) → Contains pending p → has row.tokens p.id ≡ false)
        → length row.tokens + length (those_of row.user pending) ≤ most_tokens → CanWaitThen
    wait_put escrow free few = record {
      owner = λ p here. owner_by p here (can.owner p here);
      ids = can.ids;
      once = can.once;
      free = λ p here other there. each_row (λ x. has x.tokens p.id ≡ false) (can.free p here) (free p here) other there;
      few = each_row (λ x. length x.tokens + length (those_of x.user pending) ≤ most_tokens) can.few few;
    }
      where
        each_row : (P : UserRow → Type 0) → ((x : UserRow) → Contains r.users x → P x) → P row → (x : UserRow) → Contains (changed r (PutRow row)).users x → P x
        each_row P old new x there = ⊎_elim (λ k. old x k.0) (λ (e : x ≡ row). subst P (sym e) new) (of_put r row x there)

        owner_by : (p : Pending) → Contains pending p → (x : UserRow) × Contains r.users x × (x.user ≡ p.user) × (x.escrow ≡ true)
            → (x : UserRow) × Contains (changed r (PutRow row)).users x × (x.user ≡ p.user) × (x.escrow ≡ true)
        owner_by p here (x, there, is, may) = ⊎_elim
            (λ (e : x.user ≡ row.user). (row, row_put r row, sym e ∙ is, escrow p here (sym is ∙ e)))
            (λ apart. (x, others_put r row x there apart, is, may))
            (cases_eq x.user row.user)

    -- a row of a user of whom none waits, without tokens
    pub wait_plain : those_of row.user pending ≡ [] → row.tokens ≡ [] → CanWaitThen
    wait_plain none bare = wait_put
        (λ p here same. absurd (each_is_anothers row.user pending none p here same))
        (λ p here. ap (λ (l : List ℕ). has l p.id) bare)
        (subst (λ (l : List Pending). length row.tokens + length l ≤ most_tokens) (sym none)
        (subst (λ (l : List ℕ). length l + 0 ≤ most_tokens) (sym bare) (omega arith)))

    -- a row of a user that had none, without tokens
    pub wait_new : ((x : UserRow) → Contains r.users x → x.user ≢ row.user) → row.tokens ≡ [] → CanWaitThen
    wait_new other bare = wait_plain (none_without_row r.users pending can row.user other) bare

    module _ (is : IsRecord r) (was : UserRow) (here : Contains r.users was) (user : row.user ≡ was.user) (escrow : row.escrow ≡ was.escrow) where
      its_escrow : (p : Pending) → Contains pending p → p.user ≡ row.user → row.escrow ≡ true
      its_escrow p there same =
          let own = can.owner p there in
          escrow ∙ (ap (λ (x : UserRow). x.escrow) (sym (one_row r is was here own.0 own.1 (own.2 ∙ (same ∙ user)))) ∙ own.3)

      -- the user's row with no other tokens and no more of them
      pub wait_fewer : ((id : ℕ) → has was.tokens id ≡ false → has row.tokens id ≡ false) → length row.tokens ≤ length was.tokens → CanWaitThen
      wait_fewer none less = wait_put its_escrow (λ p there. none p.id (can.free p there was here))
          (subst (λ (n : ℕ). length row.tokens + length (those_of n pending) ≤ most_tokens) (sym user)
          (let most = can.few was here in omega (arith, most, less)))

      -- the user's row with the same tokens
      pub wait_alike : row.tokens ≡ was.tokens → CanWaitThen
      wait_alike tokens = wait_fewer (λ id e. ap (λ (l : List ℕ). has l id) tokens ∙ e)
          (subst (λ (l : List ℕ). length l ≤ length was.tokens) (sym tokens) (omega arith))

  -- the record without the row of a user of whom none waits
  pub wait_dropped : IsRecord r → (user : ℕ) → those_of user pending ≡ [] → CanWait (changed r (DropRow user)).users pending
  wait_dropped is user none = record {
    owner = λ p here. let own = can.owner p here in
        (own.0, left own.0 own.1 (λ same. each_is_anothers user pending none p here (sym own.2 ∙ same)), own.2, own.3);
    ids = can.ids;
    once = can.once;
    free = λ p here row there. can.free p here row (was row there);
    few = λ row there. can.few row (was row there);
  }
    where
      left : (row : UserRow) → Contains r.users row → row.user ≢ user → Contains (changed r (DropRow user)).users row
      left row here apart = subst (λ (l : List UserRow). Contains l row) (sym (split_rows r.users user is.pairs))
          (in_filter (λ (y : UserRow). not (y.user == user)) r.users row here (ap not (ne_eqb row.user user apart)))

      was : (row : UserRow) → Contains (changed r (DropRow user)).users row → Contains r.users row
      was row there = (filtered_in (λ (y : UserRow). not (y.user == user)) r.users row (subst (λ (l : List UserRow). Contains l row) (split_rows r.users user is.pairs) there)).0
