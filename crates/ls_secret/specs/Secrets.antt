-- Secrets: a version and a synthetic password.
use Rattle.std.specs.Prelude.{◌==◌, ◌&&◌, ◌||◌, ◌++◌, ℕ, Bool, nat_le, not, IsTrue, List, length, codes, Option, Some, None, if◌then◌else◌}
use Rattle.std.specs.List.{list_all}
use Rattle.hex.specs.Hex.{encode_upper}
use Rattle.ls_hash.specs.Personal.{personalised_hash}
use Rattle.ls_secret.specs.declared.fault.SecretFault.{SecretFault}
use Rattle.ls_secret.specs.declared.fault.SecretFault.TheVariants.{Version, Shape}

-- what a contract sees of a secret: its version, and its synthetic password
pub record SecretValue : Type 0 where
  pub version : ℕ
  pub sp : List ℕ

-- an upper-case hex digit, 0 to 9 or A to F
abbrev pub is_upper_digit : ℕ → Bool
is_upper_digit b = (nat_le 0x30 b && nat_le b 0x39) || (nat_le 0x41 b && nat_le b 0x46)

-- a text of 128 upper-case hex digits
abbrev pub is_sp_text : List ℕ → Bool
is_sp_text text = (length text == 128) && list_all is_upper_digit text

-- a version that is read
abbrev pub is_version : ℕ → Bool
is_version version = (version == 2) || (version == 3)

-- why a version and a text are no secret: the version, or else the text
abbrev pub secret_fault : ℕ → List ℕ → Option SecretFault
secret_fault version sp =
    if not (is_version version) then Some Version
    else if not (is_sp_text sp) then Some Shape
    else None

-- the rules of a secret
pub record IsSecret (secret : SecretValue) : Type 0 where
  pub version : IsTrue (is_version secret.version)
  pub sp : IsTrue (is_sp_text secret.sp)

-- the synthetic password of two halves of 32 bytes: the upper-case hex text of their hash
abbrev pub synthetic_password : List ℕ → List ℕ → List ℕ
synthetic_password p0 p1 = encode_upper (personalised_hash (codes "sp-split") (p0 ++ p1))

-- the secret that is made of two halves; new secrets are of version 3
abbrev pub new_secret : List ℕ → List ℕ → SecretValue
new_secret p0 p1 = record { version = 3; sp = synthetic_password p0 p1 }
