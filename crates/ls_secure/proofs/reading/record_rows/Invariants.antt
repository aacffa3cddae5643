use Rattle.std.proofs.Common.{◌≡◌, ◌++◌, List, ℕ, length, take, drop}
use Rattle.std.specs.List.{AllByRecursion, flat_map}
use Rattle.std.specs.Ordering.{nat_cmp}
use Rattle.ls_board.specs.Order.{IsSorted}
use Rattle.ls_board.specs.declared.devices.Counter.{Counter}
use Rattle.ls_secure.specs.Secure.{IsRecordRow, record_bytes}
use Rattle.ls_secure.proofs.reading.record_rows.Given as goal

-- the records that were read are the first of all that the bytes are
abbrev pub invariant-loop : goal.invariant-loop
invariant-loop l = (ys : List (ℕ × Counter)) (rest : List ℕ) → length ys ≡ l.count → AllByRecursion IsRecordRow ys → IsSorted nat_cmp ys → l.fn.reader.left ≡ flat_map record_bytes ys ++ rest → (l.rows.rows ≡ take l.counter ys) × (l.reader.left ≡ flat_map record_bytes (drop l.counter ys) ++ rest)
