-- The first half of what a synthetic password is made of, sealed under it.
use Rattle.std.specs.Prelude.{ℕ, List, codes, Option}
use Rattle.ls_blob.specs.Personal.{personal_key, sealed_under, opened_under}
use Rattle.ls_secret.specs.Secrets.{SecretValue}

-- the personalisation of the seal
abbrev pub e0_personal : List ℕ
e0_personal = codes "e0-encryption"

-- the AES key of the seal
abbrev pub e0_key : SecretValue → List ℕ
e0_key secret = personal_key secret.sp e0_personal

-- the sealed half
abbrev pub e0_of : SecretValue → List ℕ → List ℕ → List ℕ
e0_of secret p0 iv = sealed_under secret.sp e0_personal iv p0

-- what a sealed half opens to, where it opens
abbrev pub opened_e0 : SecretValue → List ℕ → Option (List ℕ)
opened_e0 secret e0 = opened_under secret.sp e0_personal e0
