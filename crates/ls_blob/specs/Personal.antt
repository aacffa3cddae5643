-- Texts sealed under a key and a personalisation.
use Rattle.std.specs.Prelude.{ℕ, List, take, Option}
use Rattle.ls_hash.specs.Personal.{personalised_hash}
use Rattle.ls_gcm.specs.Gcm.{gcm_seal, gcm_open}

-- the AES key: the first 32 bytes of the personalised hash of the key
abbrev pub personal_key : List ℕ → List ℕ → List ℕ
personal_key key personal = take 32 (personalised_hash personal key)

-- a sealed text
abbrev pub sealed_under : List ℕ → List ℕ → List ℕ → List ℕ → List ℕ
sealed_under key personal iv plain = gcm_seal (personal_key key personal) iv plain

-- what a sealed text opens to, where it opens
abbrev pub opened_under : List ℕ → List ℕ → List ℕ → Option (List ℕ)
opened_under key personal sealed = gcm_open (personal_key key personal) sealed
