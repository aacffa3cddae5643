-- What a hasher of a message under a key has taken in.
use Rattle.std.specs.Prelude.{◌++◌, List, ℕ}
use Rattle.sha2.specs.Hashers.{Holds256}
use Rattle.ls_hash.specs.Hmac.{block_key, xor_each}
use Rattle.ls_hash.specs.declared.mac.Mac.{Mac}

-- the key, and then the message m
abbrev pub Macs : Mac → List ℕ → List ℕ → Type 0
Macs mac key m =
    Holds256 mac.inner (xor_each 0x36 (block_key key) ++ m)
    × Holds256 mac.outer (xor_each 0x5c (block_key key))
