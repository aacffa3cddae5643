-- The chain that leads from a stretched text, which the device accepted, to a secret.
use Rattle.std.specs.Prelude.{◌++◌, ℕ, List, drop, slice_index, Option, None, Some, Result, Ok, Err}
use Rattle.ls_secret.specs.Secrets.{SecretValue, secret_fault}
use Rattle.ls_secret.specs.declared.fault.SecretFault.{SecretFault}
use Rattle.ls_formats.specs.declared.part.FilePart.TheVariants.{SpBlob, Secdis}
use Rattle.ls_sealing.specs.Chain.{value_share, discardable_share, opened_layers}
use Rattle.ls_chain.specs.declared.fault.Spot.{Spot}
use Rattle.ls_chain.specs.Links.{spot, next_of, sound_file, Links}

-- the share of the slot's value, or without Weaver that of the discardable bytes
abbrev pub share_with : Option (List ℕ) → Option (List ℕ) → Result (List ℕ) Spot
share_with file (Some value) = Ok (value_share value)
share_with file None = next_of (sound_file Secdis file) (λ bytes. Ok (discardable_share bytes))

abbrev pub share_of : Links → Option (List ℕ) → Result (List ℕ) Spot
share_of l value = share_with (l.files Secdis) value

-- the secret of this version with this text, or that the blob is at fault
abbrev pub secret_by : ℕ → List ℕ → Option SecretFault → Result SecretValue Spot
secret_by version text None = Ok (record { version = version; sp = text })
secret_by version text (Some fault) = Err (spot SpBlob 2)

abbrev pub secret_in : ℕ → Option (List ℕ) → Result SecretValue Spot
secret_in version None = Err (spot SpBlob 2)
secret_in version (Some text) = secret_by version text (secret_fault version text)

-- what a blob opens to, by the key in the key store and this secret of the protector
abbrev pub opened_secret : Option (List ℕ) → List ℕ → List ℕ → Result SecretValue Spot
opened_secret key secret blob =
    secret_in (slice_index blob 0) (opened_layers key secret (drop 2 blob))

-- The secret to which a stretched text leads that the device accepted, or the first file at fault.
abbrev pub credential_chain : Links → List ℕ → Option (List ℕ) → Result SecretValue Spot
credential_chain l stretched value =
    next_of (share_of l value) (λ share.
    next_of (sound_file SpBlob (l.files SpBlob)) (λ blob.
    opened_secret l.key (stretched ++ share) blob))
