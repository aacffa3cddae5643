-- PBKDF2 (RFC 8018, 5.2) with HMAC-SHA256 and an iteration count of 1. hLen is 32.
use Rattle.std.specs.Prelude.{◌+◌, ◌/◌, ◌++◌, ℕ, zero, suc, List, [], take}
use Rattle.ls_bytes.specs.Fields.{be32}
use Rattle.ls_hash.specs.Hmac.{hmac_sha256}

-- T_i, which with one iteration is U_1 = PRF (P, S ‖ INT (i))
unfoldable pub pbkdf2_block : List ℕ → List ℕ → ℕ → List ℕ
pbkdf2_block password salt i = hmac_sha256 password (salt ++ be32 i)

-- T_1 ‖ .. ‖ T_l
unfoldable pub pbkdf2_blocks : List ℕ → List ℕ → ℕ → List ℕ
pbkdf2_blocks password salt zero = []
pbkdf2_blocks password salt (suc l) =
    pbkdf2_blocks password salt l ++ pbkdf2_block password salt (l + 1)

-- the derived key: the first dkLen bytes of l = CEIL (dkLen / hLen) blocks
unfoldable pub pbkdf2_one : List ℕ → List ℕ → ℕ → List ℕ
pbkdf2_one password salt dk_len = take dk_len (pbkdf2_blocks password salt ((dk_len + 31) / 32))
