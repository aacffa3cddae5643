-- HMAC with SHA-256 (FIPS 198-1), on lists of bytes. B, the block of SHA-256, has 64 bytes.
use Rattle.std.specs.Prelude.{◌++◌, ℕ, List, length, map, bit_xor, nat_lt, if◌then◌else◌}
use Rattle.sha2.specs.Sha256.{sha256}
use Rattle.ls_hash.specs.Padding.{padded}

-- K0: the key, or the hash of one longer than B, with zeros behind it up to B (4, steps 1 to 3)
unfoldable pub block_key : List ℕ → List ℕ
block_key key = padded 64 (if nat_lt 64 (length key) then sha256 key else key)

-- each byte xor the byte of a pad
abbrev pub xor_each : ℕ → List ℕ → List ℕ
xor_each pad bytes = map (λ b. bit_xor b pad) bytes

-- H((K0 xor opad) ‖ H((K0 xor ipad) ‖ text)), where ipad is 36 and opad 5c repeated (4, steps 4 to 9)
unfoldable pub hmac_sha256 : List ℕ → List ℕ → List ℕ
hmac_sha256 key text =
    sha256 (xor_each 0x5c (block_key key) ++ sha256 (xor_each 0x36 (block_key key) ++ text))
