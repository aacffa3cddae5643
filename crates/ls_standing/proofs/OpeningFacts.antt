-- Worked values: where some files fail the checks of opening.
use Rattle.std.proofs.Common.{◌≡◌, ℕ, true, false, List, [], ◌∷◌, ◌++◌, replicate, Option, None, Some, refl}
use Rattle.ls_credential.specs.declared.kind.Kind.TheVariants.{Pin}
use Rattle.ls_formats.specs.declared.part.FilePart.{FilePart}
use Rattle.ls_formats.specs.declared.part.FilePart.TheVariants.{SpBlob, Pwd, Secdis, Weaver, Handle}
use Rattle.ls_formats.specs.Rules.{field_then}
use Rattle.ls_record.specs.declared.row.UserRow.{UserRow}
use Rattle.ls_standing.specs.Opening.{Beside, file_fault}

-- a user with a PIN, whose protector has the id 2, with a secure id and a token
abbrev some_row : UserRow
some_row = record {
  user = 1;
  escrow = true;
  kind = Pin;
  auto = false;
  pin = 0;
  protector = 2;
  secure = 5;
  tokens = 3 ∷ [];
}

-- four slots, of which an earlier file names the third
abbrev four_slots : Beside
four_slots = record { slots = 4; earlier = 2 ∷ []; version = 3 }

abbrev no_slots : Beside
no_slots = record { slots = 0; earlier = []; version = 3 }

-- where the file of this id and part is at fault
abbrev fault_of : Beside → ℕ → FilePart → List ℕ → Option ℕ
fault_of b id part bytes = file_fault b some_row (record { user = 1; id = id; part = part }) bytes

abbrev zeros : ℕ → List ℕ
zeros n = replicate n 0

-- ---- slots

slot : fault_of four_slots 2 Weaver (1 ∷ 0 ∷ 0 ∷ 0 ∷ 3 ∷ []) ≡ None
unfolding field_then
slot = refl

-- an earlier file names it
named_before : fault_of four_slots 2 Weaver (1 ∷ 0 ∷ 0 ∷ 0 ∷ 2 ∷ []) ≡ Some 1
unfolding field_then
named_before = refl

-- the board has no such slot
past_the_last : fault_of four_slots 2 Weaver (1 ∷ 0 ∷ 0 ∷ 0 ∷ 4 ∷ []) ≡ Some 1
unfolding field_then
past_the_last = refl

other_version : fault_of four_slots 2 Weaver (2 ∷ 0 ∷ 0 ∷ 0 ∷ 3 ∷ []) ≡ Some 0
unfolding field_then
other_version = refl

-- a file that isn't there
absent : fault_of four_slots 2 Weaver [] ≡ Some 0
unfolding field_then
absent = refl

too_long : fault_of four_slots 2 Weaver (1 ∷ 0 ∷ 0 ∷ 0 ∷ 3 ∷ 9 ∷ []) ≡ Some 5
unfolding field_then
too_long = refl

-- of two faults the first place counts
two_faults : fault_of four_slots 2 Weaver (1 ∷ 0 ∷ 0 ∷ 0 ∷ 2 ∷ 9 ∷ []) ≡ Some 1
unfolding field_then
two_faults = refl

-- a check is made where its bytes are there
too_short : fault_of four_slots 2 Weaver (1 ∷ 0 ∷ 0 ∷ []) ≡ Some 3
unfolding field_then
too_short = refl

-- ---- blobs

credential_blob : fault_of four_slots 2 SpBlob (3 ∷ 0 ∷ zeros 184) ≡ None
credential_blob = refl

token_blob : fault_of four_slots 3 SpBlob (3 ∷ 1 ∷ zeros 88) ≡ None
token_blob = refl

-- a token's blob in the place of a credential's
other_kind : fault_of four_slots 2 SpBlob (3 ∷ 1 ∷ zeros 88) ≡ Some 1
other_kind = refl

-- a token's version is that of the credential
token_version : fault_of four_slots 3 SpBlob (2 ∷ 1 ∷ zeros 88) ≡ Some 0
token_version = refl

-- ---- costs, salts and handles of credentials

-- a `pwd` file without a handle, and one with a handle of this version and id
abbrev plain_pwd : ℕ → List ℕ
plain_pwd kind = kind ∷ 11 ∷ 3 ∷ 1 ∷ zeros 16 ++ 0 ∷ []

abbrev some_handle : ℕ → ℕ → List ℕ
some_handle version id = version ∷ zeros 7 ++ id ∷ zeros 40

abbrev signed_pwd : ℕ → ℕ → List ℕ
signed_pwd version id = 3 ∷ 11 ∷ 3 ∷ 1 ∷ zeros 16 ++ 49 ∷ some_handle version id

pin_pwd : fault_of four_slots 2 Pwd (plain_pwd 3) ≡ None
unfolding field_then
pin_pwd = refl

password_pwd : fault_of four_slots 2 Pwd (plain_pwd 4) ≡ Some 0
unfolding field_then
password_pwd = refl

-- without slots there is a handle, and with them there is none
no_handle : fault_of no_slots 2 Pwd (plain_pwd 3) ≡ Some 20
unfolding field_then
no_handle = refl

needless_handle : fault_of four_slots 2 Pwd (signed_pwd 1 2) ≡ Some 20
unfolding field_then
needless_handle = refl

with_handle : fault_of no_slots 2 Pwd (signed_pwd 1 2) ≡ None
unfolding field_then
with_handle = refl

handle_version : fault_of no_slots 2 Pwd (signed_pwd 2 2) ≡ Some 21
unfolding field_then
handle_version = refl

handle_id : fault_of no_slots 2 Pwd (signed_pwd 1 4) ≡ Some 22
unfolding field_then
handle_id = refl

-- ---- handles of users, and discardable bytes

user_handle : fault_of no_slots 0 Handle (some_handle 1 5) ≡ None
unfolding field_then
user_handle = refl

user_handle_version : fault_of no_slots 0 Handle (some_handle 0 5) ≡ Some 0
unfolding field_then
user_handle_version = refl

user_handle_id : fault_of no_slots 0 Handle (some_handle 1 6) ≡ Some 1
unfolding field_then
user_handle_id = refl

short_discardable : fault_of no_slots 2 Secdis (zeros 3) ≡ Some 3
unfolding field_then
short_discardable = refl
