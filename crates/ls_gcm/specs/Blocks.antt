-- The field of 2 ^ 128 elements of GCM (SP 800-38D, 6.3). A block of sixteen bytes is a number
-- below 2 ^ 128, read from its bytes with the highest first. So its bit 127 - i is the coefficient
-- of x ^ i.
use Rattle.std.specs.Prelude.{ℕ, zero, suc, ◌*◌, ◌/◌, ◌%◌, ◌^◌, ◌==◌, List, bit_xor, if◌then◌else◌}
use Rattle.std.specs.Int.{w128, bit_at, from_be_bytes}

-- the number of a block
abbrev pub number : List ℕ → ℕ
number block = from_be_bytes w128 block

-- x ^ 128, modulo x ^ 128 + x ^ 7 + x ^ 2 + x + 1
abbrev pub reduction : ℕ
reduction = 0xe1 * 2 ^ 120

-- a block times x
unfoldable pub times_x : ℕ → ℕ
times_x v = if v % 2 == 0 then v / 2 else bit_xor (v / 2) reduction

-- a block times x ^ 4
abbrev pub times_x4 : ℕ → ℕ
times_x4 v = times_x (times_x (times_x (times_x v)))

-- v times the polynomial of a number of n bits: bit n - 1 is the coefficient of 1
unfoldable pub product_of : ℕ → ℕ → ℕ → ℕ
product_of zero x v = 0
product_of (suc n) x v = bit_xor (if bit_at x n == 1 then v else 0) (product_of n x (times_x v))

-- the product of two blocks, bit by bit
abbrev pub product : ℕ → ℕ → ℕ
product x y = product_of 128 x y
