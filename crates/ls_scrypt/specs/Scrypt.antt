-- scrypt (RFC 7914, 6) with a key of 32 bytes.
use Rattle.std.specs.Prelude.{ℕ, zero, suc, ◌*◌, List, [], ◌++◌}
use Rattle.ls_hash.specs.Pbkdf2.{pbkdf2_one}
use Rattle.ls_scrypt.specs.BlockMix.{part}
use Rattle.ls_scrypt.specs.RoMix.{ro_mix}

-- the first p parts of 128 r bytes, each replaced by its scryptROMix (step 2)
unfoldable pub mixed_parts : ℕ → ℕ → List ℕ → ℕ → List ℕ
mixed_parts r n b zero = []
mixed_parts r n b (suc p) = mixed_parts r n b p ++ ro_mix r n (part (128 * r) b p)

-- the key that a password and a salt give at N = n, r and p
unfoldable pub scrypt : List ℕ → List ℕ → ℕ → ℕ → ℕ → List ℕ
scrypt password salt n r p =
    pbkdf2_one password (mixed_parts r n (pbkdf2_one password salt (128 * r * p)) p) 32
