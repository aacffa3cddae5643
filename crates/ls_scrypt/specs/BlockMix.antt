-- scryptBlockMix (RFC 7914, 4) of a list of 2 r blocks of 64 bytes, one behind the other.
use Rattle.std.specs.Prelude.{ℕ, zero, suc, ◌+◌, ◌-◌, ◌*◌, List, [], ◌++◌, take, drop}
use Rattle.ls_bytes.specs.Joined.{xor}
use Rattle.ls_scrypt.specs.Salsa.{salsa20_8}

-- part i of a list that is cut into parts of k bytes
abbrev pub part : ℕ → List ℕ → ℕ → List ℕ
part k x i = take k (drop (k * i) x)

-- B[i]
abbrev pub block : List ℕ → ℕ → List ℕ
block b i = part 64 b i

-- X before B[i] is taken: at first the last block, and then Salsa20/8 of X xor the block before
unfoldable pub x_before : ℕ → List ℕ → ℕ → List ℕ
x_before r b zero = block b (2 * r - 1)
x_before r b (suc i) = salsa20_8 (xor (x_before r b i) (block b i))

-- Y[i], which is X when B[i] was taken
abbrev pub y_at : ℕ → List ℕ → ℕ → List ℕ
y_at r b i = x_before r b (i + 1)

-- Y[0] ‖ Y[2] ‖ .., n of them
unfoldable pub evens : ℕ → List ℕ → ℕ → List ℕ
evens r b zero = []
evens r b (suc n) = evens r b n ++ y_at r b (2 * n)

-- Y[1] ‖ Y[3] ‖ .., n of them
unfoldable pub odds : ℕ → List ℕ → ℕ → List ℕ
odds r b zero = []
odds r b (suc n) = odds r b n ++ y_at r b (2 * n + 1)

-- the Y with even numbers, and then those with odd numbers
unfoldable pub block_mix : ℕ → List ℕ → List ℕ
block_mix r b = evens r b r ++ odds r b r
