-- The keys that are derived from a secret.
use Rattle.std.specs.Prelude.{◌==◌, if◌then◌else◌}
use Rattle.ls_hash.specs.Derivation.{kdf_counter}
use Rattle.ls_hash.specs.Personal.{personalised_hash}
use Rattle.ls_secret.specs.declared.derived.Derived.{Derived}
use Rattle.ls_secret.specs.declared.personal.Personal.{Personal}
use Rattle.ls_secret.specs.declared.personal.Personal.TheVariants.{KeystorePassword, SpGkAuthentication, FbeKey, AuthsecretHal}
use Rattle.ls_secret.specs.declared.subkey.Subkey.{Subkey}
use Rattle.ls_secret.specs.declared.subkey.Subkey.TheVariants.{Short, Long}
use Rattle.ls_secret.specs.Personals.{personal_text, context}
use Rattle.ls_secret.specs.Secrets.{SecretValue}

-- a key: in version 2 the personalised hash of the synthetic password, and in version 3 a key
-- derivation in counter mode
abbrev pub subkey_of : SecretValue → Personal → Subkey
subkey_of secret personal =
    if secret.version == 2 then Long (personalised_hash (personal_text personal) secret.sp)
    else Short (kdf_counter secret.sp (personal_text personal) context)

-- the four keys of an opened user
abbrev pub derived_of : SecretValue → Derived
derived_of secret = record {
  keystore = subkey_of secret KeystorePassword;
  fbe = subkey_of secret FbeKey;
  auth = subkey_of secret AuthsecretHal;
  gk = subkey_of secret SpGkAuthentication;
}
