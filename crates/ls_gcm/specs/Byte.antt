-- The field of 256 elements and the S-box (FIPS 197). A byte is a number below 256, and its bit i
-- is the coefficient of x ^ i.
use Rattle.std.specs.Prelude.{ℕ, zero, suc, ◌*◌, ◌/◌, ◌%◌, ◌==◌, nat_lt, bit_xor, if◌then◌else◌}
use Rattle.std.specs.Int.{w8, rotate_left}

-- a byte times x, modulo x ^ 8 + x ^ 4 + x ^ 3 + x + 1 (4.2)
abbrev pub times_x : ℕ → ℕ
times_x a = if nat_lt a 128 then 2 * a else bit_xor (2 * a) 0x11b

-- a times the polynomial of the lowest n bits of b
unfoldable pub product_of : ℕ → ℕ → ℕ → ℕ
product_of zero a b = 0
product_of (suc n) a b = bit_xor (if b % 2 == 1 then a else 0) (product_of n (times_x a) (b / 2))

-- the product of two bytes (4.2)
abbrev pub product : ℕ → ℕ → ℕ
product a b = product_of 8 a b

-- the greatest number below n whose product with a is 1, or 0 where there is none
unfoldable pub inverse_below : ℕ → ℕ → ℕ
inverse_below zero a = 0
inverse_below (suc n) a = if product a n == 1 then n else inverse_below n a

-- the inverse of a byte, and 0 for 0 (4.4)
abbrev pub inverse : ℕ → ℕ
inverse a = inverse_below 256 a

-- the affine map: b xor b turned left by 1, 2, 3 and 4, xor 63 (5.1.1)
abbrev pub affine : ℕ → ℕ
affine b =
    bit_xor
    (bit_xor
    (bit_xor (bit_xor (bit_xor b (rotate_left w8 b 1)) (rotate_left w8 b 2)) (rotate_left w8 b 3))
    (rotate_left w8 b 4))
    0x63

-- the S-box (5.1.1)
unfoldable pub sbox : ℕ → ℕ
sbox a = affine (inverse a)
