-- The checks of a chain as a table: a row for each, in their order.
use Rattle.std.specs.Prelude.{◌++◌, ℕ, Bool, List, [], ◌∷◌, slice_index, unwrap_or, is_some, is_none, if◌then◌else◌, Option, None, Some, Result, Ok, Err}
use Rattle.std.specs.Option.{option_map}
use Rattle.ls_secret.specs.Secrets.{SecretValue, secret_fault}
use Rattle.ls_formats.specs.declared.part.FilePart.{FilePart}
use Rattle.ls_formats.specs.declared.part.FilePart.TheVariants.{SpBlob, Secdis}
use Rattle.ls_sealing.specs.Chain.{value_share, discardable_share, opened_outer, opened_layers}
use Rattle.ls_sealing.specs.Seals.{content_of}
use Rattle.ls_sealing.specs.PartFormats.{format_fault}
use Rattle.ls_chain.specs.declared.fault.Spot.{Spot}
use Rattle.ls_chain.specs.Links.{spot, Links}

-- the check fails at this place of the file, unless it is right
abbrev pub row_unless : Bool → FilePart → ℕ → Option Spot
row_unless right part at = if right then None else Some (spot part at)

-- the file has to be there, and in the format of its part
abbrev pub file_row : FilePart → Option (List ℕ) → Option Spot
file_row part None = Some (spot part 0)
file_row part (Some bytes) = option_map (spot part) (format_fault part bytes)

-- the first that fails
abbrev pub first_row : List (Option Spot) → Option Spot
first_row [] = None
first_row (None ∷ rows) = first_row rows
first_row (Some failed ∷ rows) = Some failed

-- this, where none fails
abbrev pub by_row : {A : Type 0} → Option Spot → A → Result A Spot
by_row None a = Ok a
by_row (Some failed) a = Err failed

-- ---- a credential

-- the secret of the protector
abbrev pub secret_with : Option (List ℕ) → List ℕ → Option (List ℕ) → List ℕ
secret_with file stretched (Some value) = stretched ++ value_share value
secret_with file stretched None = stretched ++ discardable_share (unwrap_or file [])

-- without Weaver there are discardable bytes
abbrev pub share_row : Option (List ℕ) → Option (List ℕ) → Option Spot
share_row file (Some value) = None
share_row file None = file_row Secdis file

-- the blob, its key and outer tag, its inner tag, its text
abbrev pub blob_rows : Option (List ℕ) → List ℕ → Option (List ℕ) → List (Option Spot)
blob_rows key secret file =
    file_row SpBlob file
    ∷ row_unless (is_some (opened_outer key (content_of file))) SpBlob 2
    ∷ row_unless (is_some (opened_layers key secret (content_of file))) SpBlob 2
    ∷ row_unless (is_none (secret_fault (slice_index (unwrap_or file []) 0)
    (unwrap_or (opened_layers key secret (content_of file)) []))) SpBlob 2 ∷ []

-- what the blob then holds
abbrev pub blob_secret : Option (List ℕ) → List ℕ → Option (List ℕ) → SecretValue
blob_secret key secret file = record {
  version = slice_index (unwrap_or file []) 0;
  sp = unwrap_or (opened_layers key secret (content_of file)) [];
}

abbrev pub credential_rows : Links → List ℕ → Option (List ℕ) → List (Option Spot)
credential_rows l stretched value =
    share_row (l.files Secdis) value
    ∷ blob_rows l.key (secret_with (l.files Secdis) stretched value) (l.files SpBlob)

abbrev pub credential_secret : Links → List ℕ → Option (List ℕ) → SecretValue
credential_secret l stretched value =
    blob_secret l.key (secret_with (l.files Secdis) stretched value) (l.files SpBlob)
