-- Numbers and the fields that they are written as: each gives the other back.
use Rattle.std.proofs.Common.{◌≡◌, ◌<◌, ◌^◌, ◌++◌, ℕ, List, length, get_or, arith}
use Rattle.std.proofs.lemmas.Nat.{be_bytes_4, be_bytes_8}
use Rattle.byteorder.specs.Endian.{big_number}
use Rattle.byteorder.specs.Numbers.{big_number-reads_back}
use Rattle.ls_bytes.specs.Fields.{be32, be64}

-- the field of the number that four bytes are
pub be32-big_number : (xs : List ℕ) → length xs ≡ 4 → ((i : ℕ) → get_or xs i 0 < 256)
    → be32 (big_number 4 xs) ≡ xs
be32-big_number xs len small = be_bytes_4 xs (big_number 4 xs) len small (omega arith)

-- the field of the number that eight bytes are
pub be64-big_number : (xs : List ℕ) → length xs ≡ 8 → ((i : ℕ) → get_or xs i 0 < 256)
    → be64 (big_number 8 xs) ≡ xs
be64-big_number xs len small = be_bytes_8 xs (big_number 8 xs) len small (omega arith)

-- the number of a field that four bytes begin with
pub big_number-be32 : (v : ℕ) (rest : List ℕ) → v < 2 ^ 32 → big_number 4 (be32 v ++ rest) ≡ v
big_number-be32 v rest small = big_number-reads_back 4 v rest small

-- the number of a field that eight bytes begin with
pub big_number-be64 : (v : ℕ) (rest : List ℕ) → v < 2 ^ 64 → big_number 8 (be64 v ++ rest) ≡ v
big_number-be64 v rest small = big_number-reads_back 8 v rest small
