-- The file in which the users are kept.
use Rattle.std.specs.Prelude.{◌≡◌, ◌+◌, ◌*◌, ◌-◌, ◌++◌, ◌∷◌, ℕ, List, length, replicate, codes}
use Rattle.std.specs.List.{flat_map}
use Rattle.ls_bytes.specs.Fields.{be32, be64}
use Rattle.ls_top.specs.Vault.{IsVault}

-- its name
abbrev pub settings_0 : List ℕ
settings_0 = codes "settings.0"

-- zeros behind it, up to 4,096 bytes
abbrev pub padded : List ℕ → List ℕ
padded bytes = bytes ++ replicate (4096 - length bytes) 0

-- a body: its format, the number of users, and each user
abbrev pub body_of : List ℕ → List ℕ
body_of users = 0 ∷ length users ∷ flat_map be32 users

-- a5, the number of users in 64 bits, the length of the body in 32 bits, the body, and zeros
abbrev pub file_of : List ℕ → List ℕ
file_of users = padded (0xa5 ∷ be64 (length users) ++ be32 (2 + 4 * length users) ++ body_of users)

-- these bytes are no file of any vault
abbrev pub IsForeign : List ℕ → Type 0
IsForeign bytes = (users : List ℕ) → IsVault users → ¬ (bytes ≡ file_of users)
