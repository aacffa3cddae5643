-- Numbers as fields of bytes, the highest byte first.
use Rattle.std.specs.Prelude.{ℕ, List}
use Rattle.byteorder.specs.Endian.{big_bytes}

-- a number of 32 bits, in four bytes
abbrev pub be32 : ℕ → List ℕ
be32 v = big_bytes 4 v

-- a number of 64 bits, in eight bytes
abbrev pub be64 : ℕ → List ℕ
be64 v = big_bytes 8 v
