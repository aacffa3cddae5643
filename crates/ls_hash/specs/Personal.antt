-- SHA-512 (FIPS 180-4) of a message behind a block that says what the hash is for.
use Rattle.std.specs.Prelude.{◌++◌, ℕ, List}
use Rattle.sha2.specs.Sha512.{sha512}
use Rattle.ls_hash.specs.Padding.{padded}

-- the block is the personalisation with zeros behind it; a block of SHA-512 has 128 bytes
unfoldable pub personalised_hash : List ℕ → List ℕ → List ℕ
personalised_hash personal message = sha512 (padded 128 personal ++ message)
