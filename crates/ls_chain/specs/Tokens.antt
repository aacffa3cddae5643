-- The chain that leads from the bytes of a token to a secret, in any world.
use Rattle.std.specs.Prelude.{◌==◌, ◌++◌, bytes_eq, ℕ, Bool, false, List, length, drop, slice_index, if◌then◌else◌, Option, None, Some, Result, Ok, Err}
use Rattle.ls_blob.specs.Personal.{opened_under}
use Rattle.ls_secret.specs.Secrets.{SecretValue, synthetic_password}
use Rattle.ls_secret.specs.Escrow.{opened_e0}
use Rattle.ls_formats.specs.declared.part.FilePart.TheVariants.{SpBlob, Secdis, Weaver, E0, P1}
use Rattle.ls_sealing.specs.Chain.{discardable_share, layer_personal, opened_outer, opened_discardable}
use Rattle.ls_sealing.specs.Seals.{discardable_size}
use Rattle.ls_chain.specs.declared.fault.Spot.{Spot}
use Rattle.ls_chain.specs.declared.token.TokenEnd.{TokenEnd}
use Rattle.ls_chain.specs.declared.token.TokenEnd.TheVariants.{Opened, WrongToken}
use Rattle.ls_chain.specs.declared.token.TokenFiles.{TokenFiles}
use Rattle.ls_chain.specs.Links.{spot, next_of, sound_file, Links}
use Rattle.ls_chain.specs.Credentials.{secret_in}

-- ---- before the slot is asked

-- with Weaver the file that names the slot
abbrev pub slot_file_of : Links → Bool → TokenFiles → Result TokenFiles Spot
slot_file_of l weaver files =
    if weaver then next_of (sound_file Weaver (l.files Weaver)) (λ bytes. Ok files) else Ok files

-- the blob, the discardable bytes, and with Weaver the file of the slot
abbrev pub token_files : Links → Bool → Result TokenFiles Spot
token_files l weaver =
    next_of (sound_file SpBlob (l.files SpBlob)) (λ blob.
    next_of (sound_file Secdis (l.files Secdis)) (λ secdis.
    slot_file_of l weaver (record { blob = blob; secdis = secdis })))

-- ---- behind it

-- the discardable bytes that a sealed file opens to
abbrev pub of_size : Option (List ℕ) → Result (List ℕ) Spot
of_size None = Err (spot Secdis 0)
of_size (Some bytes) = if length bytes == discardable_size then Ok bytes else Err (spot Secdis 0)

-- with Weaver the file opens under the value of the slot
abbrev pub discardable_in : List ℕ → Option (List ℕ) → Result (List ℕ) Spot
discardable_in file None = Ok file
discardable_in file (Some value) = of_size (opened_discardable value file)

-- what the inner layer opens to, if it does, where the outer one opens
abbrev pub half_by : List ℕ → Option (List ℕ) → Result (Option (List ℕ)) Spot
half_by secret None = Err (spot SpBlob 2)
half_by secret (Some inner) = Ok (opened_under secret layer_personal inner)

abbrev pub half_in : Option (List ℕ) → List ℕ → List ℕ → Result (Option (List ℕ)) Spot
half_in key secret blob = half_by secret (opened_outer key (drop 2 blob))

-- the secret, where the sealed half opens under it to the half of the blob
abbrev pub is_half : Option (List ℕ) → List ℕ → Bool
is_half None p0 = false
is_half (Some text) p0 = bytes_eq text p0

abbrev pub checked_half : List ℕ → List ℕ → SecretValue → Result SecretValue Spot
checked_half e0 p0 s = if is_half (opened_e0 s e0) p0 then Ok s else Err (spot E0 0)

-- both halves make the secret
abbrev pub completed_in : Links → ℕ → List ℕ → Result SecretValue Spot
completed_in l version p0 =
    next_of (sound_file P1 (l.files P1)) (λ p1.
    next_of (sound_file E0 (l.files E0)) (λ e0.
    next_of (secret_in version (Some (synthetic_password p0 p1))) (checked_half e0 p0)))

-- the token is wrong where the inner layer doesn't open
abbrev pub text_of_half : Links → ℕ → Option (List ℕ) → Result TokenEnd Spot
text_of_half l version None = Ok WrongToken
text_of_half l version (Some p0) = next_of (completed_in l version p0) (λ s. Ok (Opened s))

-- What the bytes of a token lead to, behind the slot's value.
abbrev pub token_chain : Links → List ℕ → TokenFiles → Option (List ℕ) → Result TokenEnd Spot
token_chain l token files value =
    next_of (discardable_in files.secdis value) (λ bytes.
    next_of (half_in l.key (token ++ discardable_share bytes) files.blob) (λ half.
    text_of_half l (slice_index files.blob 0) half))
