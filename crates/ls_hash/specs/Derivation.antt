-- Key derivation in counter mode (SP 800-108, 4.1) with HMAC-SHA256, in one block.
use Rattle.std.specs.Prelude.{◌++◌, ◌*◌, ◌∷◌, ℕ, List, length}
use Rattle.ls_bytes.specs.Fields.{be32}
use Rattle.ls_hash.specs.Hmac.{hmac_sha256}

-- [1] ‖ Label ‖ 00 ‖ Context ‖ [L] (4.1, step 4a), counter and L in 32 bits. L is 256. The standard's
-- Context is the given one with its length in bits behind it.
abbrev pub kdf_input : List ℕ → List ℕ → List ℕ
kdf_input label context =
    be32 1 ++ label ++ 0 ∷ context ++ be32 (8 * length context) ++ be32 256

-- the derived key, of 256 bits
unfoldable pub kdf_counter : List ℕ → List ℕ → List ℕ → List ℕ
kdf_counter key label context = hmac_sha256 key (kdf_input label context)
