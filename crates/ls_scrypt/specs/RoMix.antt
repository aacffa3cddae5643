-- scryptROMix (RFC 7914, 5) of 128 r bytes.
use Rattle.std.specs.Prelude.{ℕ, zero, suc, ◌-◌, ◌*◌, ◌%◌, List, take, drop}
use Rattle.std.specs.Int.{w64, from_le_bytes}
use Rattle.ls_bytes.specs.Joined.{xor}
use Rattle.ls_scrypt.specs.BlockMix.{block_mix}

-- V[i]: X after i times scryptBlockMix (step 2)
unfoldable pub v_at : ℕ → List ℕ → ℕ → List ℕ
v_at r x zero = x
v_at r x (suc i) = block_mix r (v_at r x i)

-- Integerify: the last block as a number, low byte first. Since N is a power of 2 below 2 ^ 64, its
-- first 8 bytes tell it modulo N.
abbrev pub integerify : ℕ → List ℕ → ℕ
integerify r x = from_le_bytes w64 (take 8 (drop (128 * r - 64) x))

-- X after t turns of step 3: each xors it with V[j], where j is Integerify (X) mod N, and mixes it
unfoldable pub mixed : ℕ → ℕ → List ℕ → ℕ → List ℕ
mixed r n x zero = v_at r x n
mixed r n x (suc t) =
    let y = mixed r n x t in
    block_mix r (xor y (v_at r x (integerify r y % n)))

-- X after N turns
unfoldable pub ro_mix : ℕ → ℕ → List ℕ → List ℕ
ro_mix r n x = mixed r n x n
