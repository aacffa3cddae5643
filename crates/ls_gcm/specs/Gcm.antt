-- GCM (SP 800-38D) over AES-256, with an iv of 12 bytes, no additional data and a tag of 16 bytes.
use Rattle.std.specs.Prelude.{◌≢◌, ℕ, zero, suc, ◌+◌, ◌-◌, ◌*◌, ◌/◌, ◌%◌, ◌^◌, ◌≤◌, ◌&&◌, nat_le, bytes_eq, List, [], ◌++◌, length, take, drop, replicate, bit_xor, Option, Some, None, if◌then◌else◌}
use Rattle.std.specs.Int.{w32, w64, w128, to_be_bytes}
use Rattle.ls_bytes.specs.Joined.{xor}
use Rattle.ls_gcm.specs.Aes.{aes256}
use Rattle.ls_gcm.specs.Blocks.{number, product}

-- how many blocks of 16 bytes n bytes take
abbrev pub block_count : ℕ → ℕ
block_count n = (n + 15) / 16

-- block i of a text, which may be cut
abbrev pub block : List ℕ → ℕ → List ℕ
block text i = take 16 (drop (16 * i) text)

-- the n-th block after the first counter block, which is the iv and the number 1 in 32 bits: the
-- number raised by n, modulo 2 ^ 32 (6.2, 7.1)
abbrev pub counter : List ℕ → ℕ → List ℕ
counter iv n = iv ++ to_be_bytes w32 ((n + 1) % 2 ^ 32)

-- AES of the n counter blocks after the first one, joined (6.5)
unfoldable pub stream : List ℕ → List ℕ → ℕ → List ℕ
stream key iv zero = []
stream key iv (suc n) = stream key iv n ++ aes256 key (counter iv (n + 1))

-- a text xor the stream, which is cut to its length (6.5)
unfoldable pub crypted : List ℕ → List ℕ → List ℕ → List ℕ
crypted key iv text = xor text (stream key iv (block_count (length text)))

-- GHASH of the first n blocks of a text, with the hash subkey h (6.4)
unfoldable pub ghash : ℕ → List ℕ → ℕ → ℕ
ghash h text zero = 0
ghash h text (suc n) = product (bit_xor (ghash h text n) (number (block text n))) h

-- a ciphertext with zeros up to a whole number of blocks
abbrev pub filled : List ℕ → List ℕ
filled c = c ++ replicate (16 * block_count (length c) - length c) 0

-- the lengths in bits of no additional data and of n bytes of ciphertext, in 64 bits each
abbrev pub bit_lengths : ℕ → List ℕ
bit_lengths n = to_be_bytes w64 0 ++ to_be_bytes w64 (8 * n % 2 ^ 64)

-- what is hashed for the tag: the ciphertext with zeros, and the lengths (7.1)
abbrev pub hashed_text : List ℕ → List ℕ
hashed_text c = filled c ++ bit_lengths (length c)

-- GHASH of that text; the hash subkey is AES of the zero block
abbrev pub hash : List ℕ → List ℕ → ℕ
hash key c =
    ghash (number (aes256 key (replicate 16 0))) (hashed_text c) (block_count (length c) + 1)

-- the tag of a ciphertext (7.1)
unfoldable pub gcm_tag : List ℕ → List ℕ → List ℕ → List ℕ
gcm_tag key iv c = xor (to_be_bytes w128 (hash key c)) (aes256 key (counter iv 0))

-- a sealed text: the iv, the ciphertext and the tag (7.1)
unfoldable pub gcm_seal : List ℕ → List ℕ → List ℕ → List ℕ
gcm_seal key iv plain = iv ++ crypted key iv plain ++ gcm_tag key iv (crypted key iv plain)

-- the iv of a sealed text of at least 28 bytes
abbrev pub iv_of : List ℕ → List ℕ
iv_of s = take 12 s

-- its ciphertext
abbrev pub body_of : List ℕ → List ℕ
body_of s = take (length s - 28) (drop 12 s)

-- its tag
abbrev pub tag_of : List ℕ → List ℕ
tag_of s = drop (length s - 16) s

-- a sealed text is long enough, and its tag isn't that of its ciphertext
abbrev pub HasWrongTag : List ℕ → List ℕ → Type 0
HasWrongTag key s = (28 ≤ length s) × (gcm_tag key (iv_of s) (body_of s) ≢ tag_of s)

-- what a sealed text opens to: its plain text where it is long enough and has the tag of its
-- ciphertext, and else nothing (7.2)
unfoldable pub gcm_open : List ℕ → List ℕ → Option (List ℕ)
gcm_open key s =
    if nat_le 28 (length s) && bytes_eq (gcm_tag key (iv_of s) (body_of s)) (tag_of s)
    then Some (crypted key (iv_of s) (body_of s))
    else None
