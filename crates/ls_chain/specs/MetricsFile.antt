-- What a secret leads to: the metrics of its text.
use Rattle.std.specs.Prelude.{ℕ, List, [], Option, None, Some, Result, Ok, Err}
use Rattle.ls_blob.specs.Personal.{opened_under}
use Rattle.ls_secret.specs.Secrets.{SecretValue}
use Rattle.ls_secret.specs.Derivation.{subkey_of}
use Rattle.ls_secret.specs.Subkeys.{subkey_bytes}
use Rattle.ls_secret.specs.declared.personal.Personal.TheVariants.{PasswordMetrics}
use Rattle.ls_formats.specs.declared.part.FilePart.TheVariants.{Metrics}
use Rattle.ls_formats.specs.Format.{first_fault}
use Rattle.ls_formats.specs.Files.{metrics_format}
use Rattle.ls_chain.specs.declared.fault.Spot.{Spot}
use Rattle.ls_chain.specs.Links.{spot, next_of, sound_file, Links}

-- what the file opens to under the secret
abbrev pub metrics_text : SecretValue → List ℕ → Option (List ℕ)
metrics_text s file = opened_under (subkey_bytes (subkey_of s PasswordMetrics)) [] file

-- the ten bytes, where they have their format
abbrev pub counts_unless : List ℕ → Option ℕ → Result (List ℕ) Spot
counts_unless text None = Ok text
counts_unless text (Some at) = Err (spot Metrics 0)

abbrev pub counts_in : Option (List ℕ) → Result (List ℕ) Spot
counts_in None = Err (spot Metrics 0)
counts_in (Some text) = counts_unless text (first_fault metrics_format text)

abbrev pub metrics_chain : Links → SecretValue → Result (List ℕ) Spot
metrics_chain l s =
    next_of (sound_file Metrics (l.files Metrics)) (λ file. counts_in (metrics_text s file))
