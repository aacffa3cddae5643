-- Bytes that may all stand in a name.
use Rattle.std.specs.Prelude.{◌≤◌, ℕ, List, length}
use Rattle.std.specs.List.{prefix_len}
use Rattle.std.proofs.Common.{arith}
use Rattle.std.proofs.lemmas.List.Sums.{prefix_len_passes}
use Rattle.ls_bytes.specs.Names.{is_name_byte, IsName}

-- a front that is the whole list
pub is_name : (text : List ℕ) → 1 ≤ length text → length text ≤ 64
    → length text ≤ prefix_len is_name_byte text → IsName text
is_name text some most whole = record {
  some = some;
  most = most;
  each = λ k d lt. prefix_len_passes is_name_byte text k d (omega arith);
}
