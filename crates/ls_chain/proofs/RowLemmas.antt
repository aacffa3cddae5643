-- The table of a chain.
use Rattle.std.proofs.Common.{◌≡◌, ◌++◌, ℕ, List, [], ◌∷◌, Option, None, Some, Result, Ok, refl}
use Rattle.std.specs.Prelude.{is_some, is_none, unwrap_or, slice_index, drop}
use Rattle.std.specs.Option.{option_and_then, option_map}
use Rattle.ls_blob.specs.Personal.{opened_under}
use Rattle.ls_secret.specs.Secrets.{SecretValue, secret_fault}
use Rattle.ls_secret.specs.declared.fault.SecretFault.{SecretFault}
use Rattle.ls_formats.specs.declared.part.FilePart.TheVariants.{SpBlob, Secdis}
use Rattle.ls_sealing.specs.Chain.{discardable_share, value_share, layer_personal, opened_outer, opened_layers}
use Rattle.ls_sealing.specs.PartFormats.{format_fault}
use Rattle.ls_chain.specs.declared.fault.Spot.{Spot}
use Rattle.ls_chain.specs.Links.{spot, unless_at, sound_file, next_of, Links}
use Rattle.ls_chain.specs.Credentials.{secret_by, secret_in, opened_secret, share_with, credential_chain}
use Rattle.ls_chain.specs.Rows.{row_unless, first_row, by_row, blob_rows, blob_secret, share_row, secret_with, credential_rows, credential_secret}

by_fault : (v : ℕ) (text : List ℕ) (fault : Option SecretFault) → secret_by v text fault ≡ by_row (first_row (row_unless (is_none fault) SpBlob 2 ∷ [])) (record { version = v; sp = text })
by_fault v text None = refl
by_fault v text (Some fault) = refl

by_text : (v : ℕ) (text : Option (List ℕ))
    → secret_in v text ≡ by_row (first_row (row_unless (is_some text) SpBlob 2 ∷ row_unless (is_none (secret_fault v (unwrap_or text []))) SpBlob 2 ∷ [])) (record { version = v; sp = unwrap_or text [] })
by_text v None = refl
by_text v (Some text) = by_fault v text (secret_fault v text)

by_outer : (v : ℕ) (secret : List ℕ) (outer : Option (List ℕ)) → let text = option_and_then (opened_under secret layer_personal) outer in
    secret_in v text ≡ by_row (first_row (row_unless (is_some outer) SpBlob 2 ∷ row_unless (is_some text) SpBlob 2 ∷ row_unless (is_none (secret_fault v (unwrap_or text []))) SpBlob 2 ∷ [])) (record { version = v; sp = unwrap_or text [] })
by_outer v secret None = refl
by_outer v secret (Some inner) = by_text v (opened_under secret layer_personal inner)

module _ (key : Option (List ℕ)) (secret : List ℕ) where
  by_form : (bytes : List ℕ) (at : Option ℕ) → next_of (unless_at SpBlob bytes at) (opened_secret key secret)
      ≡ by_row (first_row (option_map (spot SpBlob) at ∷ row_unless (is_some (opened_outer key (drop 2 bytes))) SpBlob 2 ∷ row_unless (is_some (opened_layers key secret (drop 2 bytes))) SpBlob 2
      ∷ row_unless (is_none (secret_fault (slice_index bytes 0) (unwrap_or (opened_layers key secret (drop 2 bytes)) []))) SpBlob 2 ∷ []))
      (record { version = slice_index bytes 0; sp = unwrap_or (opened_layers key secret (drop 2 bytes)) [] })
  by_form bytes None = by_outer (slice_index bytes 0) secret (opened_outer key (drop 2 bytes))
  by_form bytes (Some at) = refl

  pub by_blob : (file : Option (List ℕ)) → next_of (sound_file SpBlob file) (opened_secret key secret) ≡ by_row (first_row (blob_rows key secret file)) (blob_secret key secret file)
  by_blob None = refl
  by_blob (Some bytes) = by_form bytes (format_fault SpBlob bytes)

module _ (key : Option (List ℕ)) (stretched : List ℕ) (blob : Option (List ℕ)) where
  abbrev rest : List ℕ → Result SecretValue Spot
  rest share = next_of (sound_file SpBlob blob) (opened_secret key (stretched ++ share))

  abbrev row_of : Option Spot → List ℕ → Result SecretValue Spot
  row_of first secret = by_row (first_row (first ∷ blob_rows key secret blob)) (blob_secret key secret blob)

  by_discardable : (bytes : List ℕ) (at : Option ℕ) → next_of (next_of (unless_at Secdis bytes at) (λ bytes. Ok (discardable_share bytes))) rest ≡ row_of (option_map (spot Secdis) at) (stretched ++ discardable_share bytes)
  by_discardable bytes None = by_blob key (stretched ++ discardable_share bytes) blob
  by_discardable bytes (Some at) = refl

  pub by_share : (file value : Option (List ℕ)) → next_of (share_with file value) rest ≡ row_of (share_row file value) (secret_with file stretched value)
  by_share file (Some value) = by_blob key (stretched ++ value_share value) blob
  by_share None None = refl
  by_share (Some bytes) None = by_discardable bytes (format_fault Secdis bytes)

pub by_credential : (l : Links) (stretched : List ℕ) (value : Option (List ℕ)) → credential_chain l stretched value ≡ by_row (first_row (credential_rows l stretched value)) (credential_secret l stretched value)
by_credential l stretched value = by_share l.key stretched (l.files SpBlob) (l.files Secdis) value
