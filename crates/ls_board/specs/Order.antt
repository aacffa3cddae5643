-- The order of names, and tables whose rows stand in the order of their keys.
use Rattle.std.specs.Prelude.{◌<◌, ◌^◌, length, map, not, IsTrue, ℕ, List, [], ◌∷◌, Bool, false, Option, None, Some}
use Rattle.std.specs.Ordering.{nat_cmp, is_gt, is_eq, eq_by_cmp}
use Rattle.std.specs.declared.cmp.Ordering.{Ordering}
use Rattle.std.specs.List.{prefix_len}
use Rattle.std.specs.FinMap.Entries.{by_order, is_sorted, where_key}
use Rattle.std.specs.Cmp.Lexicographic.{slice_cmp}

-- names in the order of their bytes
abbrev pub byte_cmp : List ℕ → List ℕ → Ordering
byte_cmp = slice_cmp nat_cmp

module _ {R : Type 0} (rank : R → Ordering) where
  -- the row in its place among the rows, by how it ranks against each; it replaces one of its rank
  abbrev pub put_by : R → List R → List R
  put_by row [] = row ∷ []
  put_by row (r ∷ rs) = by_order (rank r) (row ∷ r ∷ rs) (row ∷ rs) (r ∷ put_by row rs)

  -- how many of the first rows it stands behind
  abbrev pub place_by : List R → ℕ
  place_by rows = prefix_len (λ r. is_gt (rank r)) rows

  -- whether there is such a row, of its rank
  abbrev pub meets : Option R → Bool
  meets None = false
  meets (Some r) = is_eq (rank r)

module _ {K X : Type 0} (order : K → K → Ordering) where
  -- the rows without that of this key
  abbrev pub without : K → List (K × X) → List (K × X)
  without key rows = where_key order (λ other. not (eq_by_cmp order key other)) rows

  -- the keys of the rows strictly rise
  abbrev pub IsSorted : List (K × X) → Type 0
  IsSorted rows = IsTrue (is_sorted order rows)

-- a table whose keys strictly rise, with few enough rows to be counted by 32 bits
pub record IsTable {K X : Type 0} (order : K → K → Ordering) (rows : List (K × X)) : Type 0 where
  pub sorted : IsTrue (is_sorted order rows)
  pub few : length rows < 2 ^ 32

-- keys that strictly rise
abbrev pub IsAscending : {K : Type 0} → (K → K → Ordering) → List K → Type 0
IsAscending order keys = IsTrue (is_sorted order (map (λ key. (key, key)) keys))
