-- Where a row goes in a table that is kept in the order of its keys.
use Rattle.std.proofs.Common.{length-set, ◌≡◌, ◌≤◌, ◌<◌, ◌+◌, ◌-◌, ◌^◌, length, ℕ, suc, Bool, true, false, not, cond, Option, None, Some, List, [], ◌∷◌, refl, sym, ◌∙◌, ap, subst, arith}
use Rattle.std.specs.Prelude.{◌&&◌, slice_set, slice_get, IsSome, Result, Ok, Err, OnOk, OnErr, IsTrue, T}
use Rattle.std.specs.Ordering.{is_eq, is_gt, is_lt, eq_by_cmp}
use Rattle.std.specs.Cmp.{IsTotalOrder}
use Rattle.std.proofs.lemmas.Map.Lookups.{CmpEqualImpliesEq}
use Rattle.std.specs.List.{insert, filter}
use Rattle.std.specs.declared.cmp.Ordering.{Ordering}
use Rattle.std.specs.declared.cmp.Ordering.TheVariants.{Less, Equal, Greater}
use Rattle.std.specs.FinMap.Entries.{find, put, by_order, below_all, is_sorted, is_sorted-put, is_sorted-where_key}
use Rattle.std.proofs.lemmas.List.Sums.{prefix_len-le-length}
use Rattle.ls_board.specs.Order.{put_by, place_by, meets, without, IsSorted, IsTable}

next : (i : ℕ) → 1 + i ≡ suc i
next i = omega arith

module _ {R : Type 0} (rank : R → Ordering) (row : R) where
  -- a row of the same rank is replaced
  put_replaces : (rows : List R) → meets rank (slice_get rows (place_by rank rows)) ≡ true
      → slice_set rows (place_by rank rows) row ≡ put_by rank row rows
  put_replaces [] same = absurd (cc)
  put_replaces (e ∷ es) same =
      elim (rank e) as (λ o. rank e ≡ o → meets rank (slice_get (e ∷ es) (cond (is_gt o) (1 + place_by rank es) 0)) ≡ true
      → slice_set (e ∷ es) (cond (is_gt o) (1 + place_by rank es) 0) row ≡ by_order o (row ∷ e ∷ es) (row ∷ es) (e ∷ put_by rank row es)) [
        | Less ↦ λ is same. let none : is_eq (rank e) ≡ false = ap is_eq is in absurd (cc)
        | Equal ↦ λ is same. refl
        | Greater ↦ λ is same. ap (λ (i : ℕ). slice_set (e ∷ es) i row) (next (place_by rank es))
            ∙ ap (λ (rows : List R). e ∷ rows) (put_replaces es (ap (λ (i : ℕ). meets rank (slice_get (e ∷ es) i)) (sym (next (place_by rank es))) ∙ same))
      ] refl same

  -- else the row goes in at its place
  put_inserts : (rows : List R) → meets rank (slice_get rows (place_by rank rows)) ≡ false
      → insert rows (place_by rank rows) row ≡ put_by rank row rows
  put_inserts [] other = refl
  put_inserts (e ∷ es) other =
      elim (rank e) as (λ o. rank e ≡ o → meets rank (slice_get (e ∷ es) (cond (is_gt o) (1 + place_by rank es) 0)) ≡ false
      → insert (e ∷ es) (cond (is_gt o) (1 + place_by rank es) 0) row ≡ by_order o (row ∷ e ∷ es) (row ∷ es) (e ∷ put_by rank row es)) [
        | Less ↦ λ is other. refl
        | Equal ↦ λ is other. let some : is_eq (rank e) ≡ true = ap is_eq is in absurd (cc)
        | Greater ↦ λ is other. ap (λ (i : ℕ). insert (e ∷ es) i row) (next (place_by rank es))
            ∙ ap (λ (rows : List R). e ∷ rows) (put_inserts es (ap (λ (i : ℕ). meets rank (slice_get (e ∷ es) i)) (sym (next (place_by rank es))) ∙ other))
      ] refl other

-- a table has at most one row more then
pub put_by_longer : {R : Type 0} (rank : R → Ordering) (row : R) (rows : List R) → length (put_by rank row rows) ≤ length rows + 1
put_by_longer rank row [] = omega arith
put_by_longer rank row (r ∷ rows) =
    elim (rank r) as (λ o. length (by_order o (row ∷ r ∷ rows) (row ∷ rows) (r ∷ put_by rank row rows)) ≤ length (r ∷ rows) + 1) [
      | Less ↦ omega arith
      | Equal ↦ omega arith
      | Greater ↦ omega (arith, put_by_longer rank row rows)
    ]

-- a row at its place
module _ {R : Type 0} (rank : R → Ordering) (row : R) (rows : List R) (at : ℕ) (is : at ≡ place_by rank rows) where
  pub replaced : meets rank (slice_get rows at) ≡ true → slice_set rows at row ≡ put_by rank row rows
  replaced same = ap (λ (i : ℕ). slice_set rows i row) is ∙ put_replaces rank row rows (ap (λ (i : ℕ). meets rank (slice_get rows i)) (sym is) ∙ same)

  pub inserted : meets rank (slice_get rows at) ≡ false → insert rows at row ≡ put_by rank row rows
  inserted other = ap (λ (i : ℕ). insert rows i row) is ∙ put_inserts rank row rows (ap (λ (i : ℕ). meets rank (slice_get rows i)) (sym is) ∙ other)

  pub in_range : at ≤ length rows
  in_range = omega (arith, is, prefix_len-le-length (λ (r : R). is_gt (rank r)) rows)

-- ---- rows that are seen as pairs of a key and a value

module _ {K X : Type 0} (order : K → K → Ordering) (exact : CmpEqualImpliesEq order) (k : K) (v : X) where
  pub put_by_key : (rows : List (K × X)) → put_by (λ r. order k r.0) (k, v) rows ≡ put order k v rows
  put_by_key [] = refl
  put_by_key (e ∷ es) =
      elim (order k e.0) as (λ o. order k e.0 ≡ o
      → by_order o ((k, v) ∷ e ∷ es) ((k, v) ∷ es) (e ∷ put_by (λ r. order k r.0) (k, v) es) ≡ by_order o ((k, v) ∷ e ∷ es) ((e.0, v) ∷ es) (e ∷ put order k v es)) [
        | Less ↦ λ is. refl
        | Equal ↦ λ is. ap (λ (m : K). (m, v) ∷ es) (exact k e.0 is)
        | Greater ↦ λ is. ap (λ (rows : List (K × X)). e ∷ rows) (put_by_key es)
      ] refl

-- ---- what a table's type keeps: its order, and fewer than 2 ^ 32 rows

pub true_test : (b : Bool) → IsTrue b → T b
true_test true is = tt
true_test false is = absurd (cc)

pub test_true : (b : Bool) → T b → IsTrue b
test_true true is = refl
test_true false is = absurd is

left_of : (a b : Bool) → T (a && b) → T a
left_of true b p = tt
left_of false b p = absurd p

right_of : (a b : Bool) → T (a && b) → T b
right_of true b p = p
right_of false b p = absurd p

is_less : (o : Ordering) → T (is_lt o) → o ≡ Less
is_less Less p = refl
is_less Equal p = absurd p
is_less Greater p = absurd p

no_longer : {X : Type 0} (p : X → Bool) (xs : List X) → length (filter p xs) ≤ length xs
no_longer p [] = omega arith
no_longer p (x ∷ xs) = elim (p x) as (λ b. length (cond b (x ∷ filter p xs) (filter p xs)) ≤ length (x ∷ xs)) [ true ↦ omega (arith, no_longer p xs) | false ↦ omega (arith, no_longer p xs) ]

none_found : {X : Type 0} (o : Option X) → o ≡ None → IsSome o → ⊥
none_found o none found = absurd (cc)

module _ {K X : Type 0} (order : K → K → Ordering) (total : IsTotalOrder order) where
  pub put_sorted : (rows : List (K × X)) (k : K) (v : X) → IsSorted order rows → IsSorted order (put order k v rows)
  put_sorted rows k v sorted = test_true (is_sorted order (put order k v rows)) (is_sorted-put order total k v rows (true_test (is_sorted order rows) sorted))

  pub without_sorted : (rows : List (K × X)) (k : K) → IsSorted order rows → IsSorted order (without order k rows)
  without_sorted rows k sorted = test_true _ (is_sorted-where_key order (λ m. not (eq_by_cmp order k m)) rows (true_test (is_sorted order rows) sorted))

  pub without_table : (rows new : List (K × X)) (k : K) → IsTable order rows → new ≡ without order k rows → IsTable order new
  without_table rows new k table is = record {
    sorted = subst (λ (l : List (K × X)). IsSorted order l) (sym is) (without_sorted rows k table.sorted);
    few = omega (arith, ap length is, no_longer (λ (r : K × X). not (eq_by_cmp order k r.0)) rows, table.few);
  }

  module _ (exact : CmpEqualImpliesEq order) where
    -- and so it stays, whether the row went in or not
    pub put_keeps : {E : Type 0} (old new : List (K × X)) (k : K) (v : X) (result : Result Unit E) → IsTable order old → length old < 2 ^ 32 - 1
        → OnOk result (new ≡ put_by (λ r. order k r.0) (k, v) old) → OnErr result (new ≡ old) → IsTable order new
    put_keeps old new k v (Ok done) table room ok err = record {
      sorted = subst (λ (rows : List (K × X)). IsSorted order rows) (sym (ok ∙ put_by_key order exact k v old)) (put_sorted old k v table.sorted);
      few = omega (arith, ap length ok, put_by_longer (λ (r : K × X). order k r.0) (k, v) old);
    }
    put_keeps old new k v (Err e) table room ok err = subst (λ (rows : List (K × X)). IsTable order rows) (sym err) table

    -- what a table holds then, as a table of keys
    pub put_as_keyed : {E : Type 0} (old table new : List (K × X)) (k m : K) (v x : X) (result : Result Unit E) → k ≡ m → v ≡ x → old ≡ table
        → OnOk result (new ≡ put_by (λ r. order k r.0) (k, v) old) → OnOk result (new ≡ put order m x table)
    put_as_keyed old table new k m v x (Ok done) keyed valued viewed ok = ok ∙ put_by_key order exact k v old ∙ (λ i. put order (keyed i) (valued i) (viewed i))
    put_as_keyed old table new k m v x (Err e) keyed valued viewed ok = tt

    -- a row that takes the place of one of its key
    module _ (k : K) (v : X) (rows : List (K × X)) (at : ℕ) (is : at ≡ place_by (λ r. order k r.0) rows) (same : meets (λ r. order k r.0) (slice_get rows at) ≡ true) where
      pub set_is_put : slice_set rows at (k, v) ≡ put order k v rows
      set_is_put = replaced (λ r. order k r.0) (k, v) rows at is same ∙ put_by_key order exact k v rows

      pub set_keeps : IsTable order rows → IsTable order (slice_set rows at (k, v))
      set_keeps table = record {
        sorted = subst (λ (l : List (K × X)). IsSorted order l) (sym set_is_put) (put_sorted rows k v table.sorted);
        few = omega (arith, length-set rows at (k, v), table.few);
      }

  -- ---- a key that has a row

  below_none : (k : K) (e : K × X) (es : List (K × X)) → order k e.0 ≡ Less → T (below_all order e.0 es) → find order k es ≡ None
  below_none k e [] less below = refl
  below_none k e (f ∷ es) less below =
      ap (λ (o : Ordering). cond (is_eq o) (Some f.1) (find order k es)) (total.trans k e.0 f.0 less (is_less _ (left_of _ _ below))) ∙ below_none k e es less (right_of _ _ below)

  -- in a sorted table it stands at its place
  pub found_meets : (k : K) (rows : List (K × X)) → IsSorted order rows → IsSome (find order k rows)
      → meets (λ r. order k r.0) (slice_get rows (place_by (λ r. order k r.0) rows)) ≡ true
  found_meets k [] sorted found = absurd (cc)
  found_meets k (e ∷ es) sorted found =
      elim (order k e.0) as (λ o. order k e.0 ≡ o → IsSome (cond (is_eq o) (Some e.1) (find order k es))
      → meets (λ r. order k r.0) (slice_get (e ∷ es) (cond (is_gt o) (1 + place_by (λ r. order k r.0) es) 0)) ≡ true) [
        | Less ↦ λ is found. let none : find order k es ≡ None = below_none k e es is (left_of _ _ (true_test _ sorted)) in absurd (none_found _ none found)
        | Equal ↦ λ is found. ap is_eq is
        | Greater ↦ λ is found. ap (λ (i : ℕ). meets (λ r. order k r.0) (slice_get (e ∷ es) i)) (next (place_by (λ r. order k r.0) es))
            ∙ found_meets k es (test_true _ (right_of _ _ (true_test _ sorted))) found
      ] refl found
