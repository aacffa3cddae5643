-- The table of an attempt with a token.
use Rattle.std.proofs.Common.{◌≡◌, ◌++◌, ℕ, Bool, true, false, cond, List, [], ◌∷◌, length, drop, Option, None, Some, Result, Ok, Err, refl}
use Rattle.std.specs.Prelude.{◌==◌, is_some, is_none, unwrap_or, slice_index}
use Rattle.std.specs.Option.{option_and_then, option_map}
use Rattle.ls_blob.specs.Personal.{opened_under}
use Rattle.ls_secret.specs.Secrets.{SecretValue, secret_fault, synthetic_password}
use Rattle.ls_secret.specs.Escrow.{opened_e0}
use Rattle.ls_secret.specs.declared.fault.SecretFault.{SecretFault}
use Rattle.ls_formats.specs.declared.part.FilePart.TheVariants.{SpBlob, Secdis, Weaver, E0, P1}
use Rattle.ls_weaver.specs.declared.slot.SlotRead.{SlotRead}
use Rattle.ls_weaver.specs.declared.slot.SlotRead.TheVariants.{Value, Wrong, Throttled}
use Rattle.ls_weaver.specs.Slots.{slot_answer}
use Rattle.ls_board.specs.declared.world.World.{World}
use Rattle.ls_board.specs.Effect.{slot_at, read_answer}
use Rattle.ls_sealing.specs.Chain.{discardable_share, layer_personal, opened_discardable, opened_outer}
use Rattle.ls_sealing.specs.Seals.{discardable_size}
use Rattle.ls_sealing.specs.PartFormats.{format_fault}
use Rattle.ls_chain.specs.declared.fault.Spot.{Spot}
use Rattle.ls_chain.specs.declared.token.TokenEnd.{TokenEnd}
use Rattle.ls_chain.specs.declared.token.TokenEnd.TheVariants.{Opened}
use Rattle.ls_chain.specs.declared.token.TokenFiles.{TokenFiles}
use Rattle.ls_chain.specs.Links.{spot, unless_at, sound_file, next_of, Links, links_at}
use Rattle.ls_chain.specs.Credentials.{secret_by, secret_in}
use Rattle.ls_chain.specs.Rows.{row_unless, file_row, first_row, by_row}
use Rattle.ls_chain.specs.Tokens.{of_size, half_by, is_half, checked_half, text_of_half, token_chain}
use Rattle.ls_chain.specs.TokenAttempts.{zero_key, token_by, token_end}
use Rattle.ls_chain.specs.TokenRows.{token_answer, has_size, slot_row, answer_row, discardable_by, discardable_row, half_end, token_table}

-- ---- the halves

module _ (version : ℕ) (p0 : List ℕ) where
  abbrev whole : List ℕ → SecretValue
  whole p1 = record { version = version; sp = synthetic_password p0 p1 }

  abbrev ended : Result SecretValue Spot → Result TokenEnd Spot
  ended x = next_of x (λ s. Ok (Opened s))

  abbrev row_of : List ℕ → List (Option Spot) → Result TokenEnd Spot
  row_of p1 rows = by_row (first_row rows) (Opened (whole p1))

  by_half : (p1 : List ℕ) (right : Bool) → ended (cond right (Ok (whole p1)) (Err (spot E0 0))) ≡ row_of p1 (row_unless right E0 0 ∷ [])
  by_half p1 true = refl
  by_half p1 false = refl

  by_fault : (p1 e0 : List ℕ) (fault : Option SecretFault) → ended (next_of (secret_by version (synthetic_password p0 p1) fault) (checked_half e0 p0))
      ≡ row_of p1 (row_unless (is_none fault) SpBlob 2 ∷ row_unless (is_half (opened_e0 (whole p1) e0) p0) E0 0 ∷ [])
  by_fault p1 e0 None = by_half p1 (is_half (opened_e0 (whole p1) e0) p0)
  by_fault p1 e0 (Some fault) = refl

  abbrev last : List ℕ → List ℕ → Result SecretValue Spot
  last p1 e0 = next_of (secret_in version (Some (synthetic_password p0 p1))) (checked_half e0 p0)

  abbrev last_rows : List ℕ → Option (List ℕ) → List (Option Spot)
  last_rows p1 file = row_unless (is_none (secret_fault version (synthetic_password p0 p1))) SpBlob 2 ∷ row_unless (is_half (option_and_then (opened_e0 (whole p1)) file) p0) E0 0 ∷ []

  by_e0 : (p1 e0 : List ℕ) (at : Option ℕ) → ended (next_of (unless_at E0 e0 at) (last p1)) ≡ row_of p1 (option_map (spot E0) at ∷ last_rows p1 (Some e0))
  by_e0 p1 e0 None = by_fault p1 e0 (secret_fault version (synthetic_password p0 p1))
  by_e0 p1 e0 (Some at) = refl

  with_e0 : (p1 : List ℕ) (file : Option (List ℕ)) → ended (next_of (sound_file E0 file) (last p1)) ≡ row_of p1 (file_row E0 file ∷ last_rows p1 file)
  with_e0 p1 None = refl
  with_e0 p1 (Some e0) = by_e0 p1 e0 (format_fault E0 e0)

  by_p1 : (p1 : List ℕ) (file : Option (List ℕ)) (at : Option ℕ) → ended (next_of (unless_at P1 p1 at) (λ p1. next_of (sound_file E0 file) (last p1))) ≡ row_of p1 (option_map (spot P1) at ∷ file_row E0 file ∷ last_rows p1 file)
  by_p1 p1 file None = with_e0 p1 file
  by_p1 p1 file (Some at) = refl

  with_p1 : (one file : Option (List ℕ)) → ended (next_of (sound_file P1 one) (λ p1. next_of (sound_file E0 file) (last p1))) ≡ row_of (unwrap_or one []) (file_row P1 one ∷ file_row E0 file ∷ last_rows (unwrap_or one []) file)
  with_p1 None file = refl
  with_p1 (Some p1) file = by_p1 p1 file (format_fault P1 p1)

by_text : (l : Links) (version : ℕ) (half : Option (List ℕ)) → text_of_half l version half ≡ half_end l version half
by_text l version None = refl
by_text l version (Some p0) = with_p1 version p0 (l.files P1) (l.files E0)

-- ---- before the bytes are tried

module _ (l : Links) (token : List ℕ) where
  abbrev tried : List ℕ → List ℕ → List (Option Spot) → Result TokenEnd Spot
  tried blob bytes rows =
      next_of (by_row (first_row rows) (option_and_then (opened_under (token ++ discardable_share bytes) layer_personal) (opened_outer l.key (drop 2 blob)))) (half_end l (slice_index blob 0))

  abbrev key_rows : List ℕ → List (Option Spot)
  key_rows blob = row_unless (is_some (opened_outer l.key (drop 2 blob))) SpBlob 2 ∷ []

  by_outer : (secret : List ℕ) (version : ℕ) (outer : Option (List ℕ)) → next_of (half_by secret outer) (text_of_half l version)
      ≡ next_of (by_row (first_row (row_unless (is_some outer) SpBlob 2 ∷ [])) (option_and_then (opened_under secret layer_personal) outer)) (half_end l version)
  by_outer secret version None = refl
  by_outer secret version (Some inner) = by_text l version (opened_under secret layer_personal inner)

  by_key : (blob bytes : List ℕ) → next_of (half_by (token ++ discardable_share bytes) (opened_outer l.key (drop 2 blob))) (text_of_half l (slice_index blob 0)) ≡ tried blob bytes (key_rows blob)
  by_key blob bytes = by_outer (token ++ discardable_share bytes) (slice_index blob 0) (opened_outer l.key (drop 2 blob))

  abbrev chained : List ℕ → List ℕ → Result TokenEnd Spot
  chained blob bytes = next_of (half_by (token ++ discardable_share bytes) (opened_outer l.key (drop 2 blob))) (text_of_half l (slice_index blob 0))

  by_size : (blob bytes : List ℕ) (right : Bool) → next_of (cond right (Ok bytes) (Err (spot Secdis 0))) (chained blob) ≡ tried blob bytes (row_unless right Secdis 0 ∷ key_rows blob)
  by_size blob bytes true = by_key blob bytes
  by_size blob bytes false = refl

  by_opened : (blob : List ℕ) (opened : Option (List ℕ)) → next_of (of_size opened) (chained blob) ≡ tried blob (unwrap_or opened []) (row_unless (has_size opened) Secdis 0 ∷ key_rows blob)
  by_opened blob None = refl
  by_opened blob (Some bytes) = by_size blob bytes (length bytes == discardable_size)

  abbrev files_of : List ℕ → List ℕ → TokenFiles
  files_of blob secdis = record { blob = blob; secdis = secdis }

  -- behind the files
  abbrev answered : Option SlotRead → TokenFiles → Result TokenEnd Spot
  answered None files = token_chain l token files None
  answered (Some answer) files = token_by l token files (read_answer answer)

  abbrev answer_rows : List ℕ → Option (List ℕ) → Option SlotRead → List (Option Spot)
  answer_rows blob two answer = answer_row answer ∷ discardable_row answer two ∷ key_rows blob

  abbrev tried_by : List ℕ → Option (List ℕ) → Option SlotRead → List (Option Spot) → Result TokenEnd Spot
  tried_by blob two answer = tried blob (unwrap_or (discardable_by answer two) [])

  by_answer : (blob secdis : List ℕ) (answer : SlotRead) → answered (Some answer) (files_of blob secdis) ≡ tried_by blob (Some secdis) (Some answer) (answer_rows blob (Some secdis) (Some answer))
  by_answer blob secdis (Value value) = by_opened blob (opened_discardable value secdis)
  by_answer blob secdis (Wrong wait) = refl
  by_answer blob secdis (Throttled wait) = refl

  abbrev filed : Option (List ℕ) → Bool → TokenFiles → Result TokenFiles Spot
  filed file weaver files = cond weaver (next_of (sound_file Weaver file) (λ bytes. Ok files)) (Ok files)

  by_slot : (blob secdis file : List ℕ) (at : Option ℕ) (answer : SlotRead) → next_of (next_of (unless_at Weaver file at) (λ bytes. Ok (files_of blob secdis))) (answered (Some answer))
      ≡ tried_by blob (Some secdis) (Some answer) (option_map (spot Weaver) at ∷ answer_rows blob (Some secdis) (Some answer))
  by_slot blob secdis file None answer = by_answer blob secdis answer
  by_slot blob secdis file (Some at) answer = refl

  with_slot : (blob secdis : List ℕ) (file : Option (List ℕ)) (answer : Option SlotRead) → next_of (filed file (is_some answer) (files_of blob secdis)) (answered answer)
      ≡ tried_by blob (Some secdis) answer (slot_row answer file ∷ answer_rows blob (Some secdis) answer)
  with_slot blob secdis file None = by_key blob secdis
  with_slot blob secdis None (Some answer) = refl
  with_slot blob secdis (Some bytes) (Some answer) = by_slot blob secdis bytes (format_fault Weaver bytes) answer

  module _ (file : Option (List ℕ)) (answer : Option SlotRead) where
    abbrev slotted : List ℕ → List ℕ → Result TokenFiles Spot
    slotted blob secdis = filed file (is_some answer) (files_of blob secdis)

    by_secdis : (blob secdis : List ℕ) (at : Option ℕ) → next_of (next_of (unless_at Secdis secdis at) (slotted blob)) (answered answer)
        ≡ tried_by blob (Some secdis) answer (option_map (spot Secdis) at ∷ slot_row answer file ∷ answer_rows blob (Some secdis) answer)
    by_secdis blob secdis None = with_slot blob secdis file answer
    by_secdis blob secdis (Some at) = refl

    with_secdis : (blob : List ℕ) (two : Option (List ℕ)) → next_of (next_of (sound_file Secdis two) (slotted blob)) (answered answer)
        ≡ tried_by blob two answer (file_row Secdis two ∷ slot_row answer file ∷ answer_rows blob two answer)
    with_secdis blob None = refl
    with_secdis blob (Some secdis) = by_secdis blob secdis (format_fault Secdis secdis)

    by_blob : (blob : List ℕ) (two : Option (List ℕ)) (at : Option ℕ) → next_of (next_of (unless_at SpBlob blob at) (λ blob. next_of (sound_file Secdis two) (slotted blob))) (answered answer)
        ≡ tried_by blob two answer (option_map (spot SpBlob) at ∷ file_row Secdis two ∷ slot_row answer file ∷ answer_rows blob two answer)
    by_blob blob two None = with_secdis blob two
    by_blob blob two (Some at) = refl

    with_blob : (one two : Option (List ℕ)) → next_of (next_of (sound_file SpBlob one) (λ blob. next_of (sound_file Secdis two) (slotted blob))) (answered answer)
        ≡ tried_by (unwrap_or one []) two answer (file_row SpBlob one ∷ file_row Secdis two ∷ slot_row answer file ∷ answer_rows (unwrap_or one []) two answer)
    with_blob None two = refl
    with_blob (Some blob) two = by_blob blob two (format_fault SpBlob blob)

-- ---- the attempt

pub token_tabled : (w : World) (user id : ℕ) (slot : Option ℕ) (token : List ℕ) → token_end user id (is_some slot) slot token w ≡ token_table (links_at w user id) (token_answer slot w) token
token_tabled w user id None token = let l = links_at w user id in with_blob l token (l.files Weaver) None (l.files SpBlob) (l.files Secdis)
token_tabled w user id (Some n) token = let l = links_at w user id in with_blob l token (l.files Weaver) (Some (slot_answer (slot_at w n) zero_key 0)) (l.files SpBlob) (l.files Secdis)
