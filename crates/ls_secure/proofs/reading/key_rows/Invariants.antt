use Rattle.std.proofs.Common.{◌≡◌, ◌++◌, List, ℕ, length, take, drop}
use Rattle.std.specs.List.{AllByRecursion, flat_map}
use Rattle.std.specs.Ordering.{nat_cmp}
use Rattle.ls_board.specs.Order.{IsSorted}
use Rattle.ls_secure.specs.Secure.{IsKeyRow, key_bytes}
use Rattle.ls_secure.proofs.reading.key_rows.Given as goal

-- the keys that were read are the first of all that the bytes are
abbrev pub invariant-loop : goal.invariant-loop
invariant-loop l = (ys : List (ℕ × List ℕ)) (rest : List ℕ) → length ys ≡ l.count → AllByRecursion IsKeyRow ys → IsSorted nat_cmp ys → l.fn.reader.left ≡ flat_map key_bytes ys ++ rest → (l.rows.rows ≡ take l.counter ys) × (l.reader.left ≡ flat_map key_bytes (drop l.counter ys) ++ rest)
