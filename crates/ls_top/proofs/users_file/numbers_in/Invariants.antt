use Rattle.std.proofs.Common.{◌≡◌, ◌*◌, ◌<◌, ℕ, length, get_or, drop}
use Rattle.byteorder.specs.Endian.{big_number}
use Rattle.ls_top.proofs.users_file.numbers_in.Given as goal

abbrev pub invariant-loop-at : goal.invariant-loop-at
invariant-loop-at l = record {
  long : length l.numbers.items ≡ l.at;
  read : (k : ℕ) → k < l.at → get_or l.numbers.items k 0 ≡ big_number 4 (drop (4 * k) l.fields);
}
