-- The texts by which the keys of one secret differ.
use Rattle.std.specs.Prelude.{ℕ, List, codes}
use Rattle.ls_secret.specs.declared.personal.Personal.{Personal}
use Rattle.ls_secret.specs.declared.personal.Personal.TheVariants.{KeystorePassword, SpGkAuthentication, FbeKey, AuthsecretHal, PwHash, PasswordMetrics}

-- the text of a personalisation
abbrev pub personal_text : Personal → List ℕ
personal_text KeystorePassword = codes "keystore-password"
personal_text SpGkAuthentication = codes "sp-gk-authentication"
personal_text FbeKey = codes "fbe-key"
personal_text AuthsecretHal = codes "authsecret-hal"
personal_text PwHash = codes "pw-hash"
personal_text PasswordMetrics = codes "password-metrics"

-- the context of every derived key of version 3
abbrev pub context : List ℕ
context = codes "android-synthetic-password-personalization-context"
