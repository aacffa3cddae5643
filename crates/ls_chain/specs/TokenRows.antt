-- The checks of an attempt with a token as a table: those that come before its bytes are tried, and
-- those of the halves behind.
use Rattle.std.specs.Prelude.{◌++◌, ◌==◌, ℕ, Bool, false, List, [], ◌∷◌, length, slice_index, unwrap_or, is_some, is_none, Option, None, Some, Result, Ok}
use Rattle.std.specs.Option.{option_and_then}
use Rattle.ls_secret.specs.Secrets.{SecretValue, secret_fault, synthetic_password}
use Rattle.ls_secret.specs.Escrow.{opened_e0}
use Rattle.ls_formats.specs.declared.part.FilePart.TheVariants.{SpBlob, Secdis, Weaver, E0, P1}
use Rattle.ls_weaver.specs.declared.slot.SlotRead.{SlotRead}
use Rattle.ls_weaver.specs.declared.slot.SlotRead.TheVariants.{Value, Wrong, Throttled}
use Rattle.ls_weaver.specs.Slots.{slot_answer}
use Rattle.ls_board.specs.declared.world.World.{World}
use Rattle.ls_board.specs.Effect.{slot_at}
use Rattle.ls_sealing.specs.Chain.{discardable_share, opened_discardable, opened_outer, opened_layers}
use Rattle.ls_sealing.specs.Seals.{content_of, discardable_size}
use Rattle.ls_chain.specs.declared.fault.Spot.{Spot}
use Rattle.ls_chain.specs.declared.token.TokenEnd.{TokenEnd}
use Rattle.ls_chain.specs.declared.token.TokenEnd.TheVariants.{Opened, WrongToken}
use Rattle.ls_chain.specs.Links.{spot, next_of, Links}
use Rattle.ls_chain.specs.Rows.{row_unless, file_row, first_row, by_row}
use Rattle.ls_chain.specs.Tokens.{is_half}
use Rattle.ls_chain.specs.TokenAttempts.{zero_key}

-- ---- before the bytes are tried

-- with Weaver, what the slot answers
abbrev pub token_answer : Option ℕ → World → Option SlotRead
token_answer None w = None
token_answer (Some n) w = Some (slot_answer (slot_at w n) zero_key 0)

-- with Weaver there is the file of the slot
abbrev pub slot_row : Option SlotRead → Option (List ℕ) → Option Spot
slot_row None file = None
slot_row (Some answer) file = file_row Weaver file

-- and the slot answers its value
abbrev pub answer_row : Option SlotRead → Option Spot
answer_row None = None
answer_row (Some (Value value)) = None
answer_row (Some (Wrong rest)) = Some (spot Weaver 1)
answer_row (Some (Throttled rest)) = Some (spot Weaver 1)

-- the discardable bytes: the file, which with Weaver opens under the slot's value
abbrev pub discardable_by : Option SlotRead → Option (List ℕ) → Option (List ℕ)
discardable_by None file = file
discardable_by (Some (Value value)) file = option_and_then (opened_discardable value) file
discardable_by (Some (Wrong rest)) file = None
discardable_by (Some (Throttled rest)) file = None

abbrev pub has_size : Option (List ℕ) → Bool
has_size None = false
has_size (Some bytes) = length bytes == discardable_size

-- with Weaver the file opens, to as many bytes as there are to be
abbrev pub discardable_row : Option SlotRead → Option (List ℕ) → Option Spot
discardable_row None file = None
discardable_row (Some answer) file =
    row_unless (has_size (discardable_by (Some answer) file)) Secdis 0

-- the blob, the discardable bytes, the slot and what it gives, and the key with the outer tag
abbrev pub token_rows : Links → Option SlotRead → List (Option Spot)
token_rows l answer =
    file_row SpBlob (l.files SpBlob)
    ∷ file_row Secdis (l.files Secdis)
    ∷ slot_row answer (l.files Weaver)
    ∷ answer_row answer
    ∷ discardable_row answer (l.files Secdis)
    ∷ row_unless (is_some (opened_outer l.key (content_of (l.files SpBlob)))) SpBlob 2 ∷ []

-- what the blob then opens to by the bytes of the token, if it does
abbrev pub half_with : Links → Option SlotRead → List ℕ → Option (List ℕ)
half_with l answer token =
    opened_layers l.key
    (token ++ discardable_share (unwrap_or (discardable_by answer (l.files Secdis)) []))
    (content_of (l.files SpBlob))

-- ---- behind

-- the secret that both halves make
abbrev pub whole_secret : Links → ℕ → List ℕ → SecretValue
whole_secret l version p0 =
    record { version = version; sp = synthetic_password p0 (unwrap_or (l.files P1) []) }

-- The other half and the sealed half; that both halves make a secret; and that the sealed half
-- opens under it to the half of the blob.
abbrev pub half_rows : Links → ℕ → List ℕ → List (Option Spot)
half_rows l version p0 =
    let s = whole_secret l version p0 in
    file_row P1 (l.files P1)
    ∷ file_row E0 (l.files E0)
    ∷ row_unless (is_none (secret_fault version s.sp)) SpBlob 2
    ∷ row_unless (is_half (option_and_then (opened_e0 s) (l.files E0)) p0) E0 0 ∷ []

-- the token is wrong where the blob doesn't open by its bytes
abbrev pub half_end : Links → ℕ → Option (List ℕ) → Result TokenEnd Spot
half_end l version None = Ok WrongToken
half_end l version (Some p0) =
    by_row (first_row (half_rows l version p0)) (Opened (whole_secret l version p0))

-- The first row that fails is answered; where none does, the bytes are tried.
abbrev pub token_table : Links → Option SlotRead → List ℕ → Result TokenEnd Spot
token_table l answer token =
    next_of (by_row (first_row (token_rows l answer)) (half_with l answer token))
    (half_end l (slice_index (unwrap_or (l.files SpBlob) []) 0))
