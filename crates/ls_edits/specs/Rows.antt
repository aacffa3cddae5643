-- Rows that differ from another in a few fields, and the row of a new user.
use Rattle.std.specs.Prelude.{◌≡◌, ℕ, Bool, true, false, List, [], ◌++◌, filter}
use Rattle.std.specs.List.{Contains}
use Rattle.ls_credential.specs.declared.kind.Kind.TheVariants.{Empty}
use Rattle.ls_record.specs.declared.row.UserRow.{UserRow}
use Rattle.ls_vault.specs.declared.user.User.{User}

-- the row of a new user without escrow, who has no credential and no token
abbrev pub new_row : ℕ → ℕ → UserRow
new_row user id = record {
  user = user;
  escrow = false;
  kind = Empty;
  auto = false;
  pin = 0;
  protector = id;
  secure = 0;
  tokens = [];
}

-- the row with another flag for the length of a PIN, and another length
abbrev pub with_pin : Bool → ℕ → UserRow → UserRow
with_pin auto pin row = record row { auto = auto; pin = pin }

-- the row with the tokens that pass a test alone
abbrev pub with_tokens_of : (ℕ → Bool) → UserRow → UserRow
with_tokens_of keeps row = record row { tokens = filter keeps row.tokens }

-- the user with these tokens alone
abbrev pub with_its_tokens_of : (ℕ → Bool) → User → User
with_its_tokens_of keeps u = record u { tokens = filter (λ t. keeps t.id) u.tokens }

-- the row with further tokens behind its own
abbrev pub with_more_tokens : List ℕ → UserRow → UserRow
with_more_tokens ids row = record row { tokens = row.tokens ++ ids }

-- the row without escrow, and so without tokens
abbrev pub without_escrow : UserRow → UserRow
without_escrow row = record row { escrow = false; tokens = [] }

-- The row has no part that the old one hasn't: it is of the same user, with the same credential and
-- secure id, and has escrow, and each of its tokens, only where the old one has.
pub record HasNoNewPart (old row : UserRow) : Type 0 where
  pub user : row.user ≡ old.user
  pub kind : row.kind ≡ old.kind
  pub protector : row.protector ≡ old.protector
  pub secure : row.secure ≡ old.secure
  pub escrow : row.escrow ≡ true → old.escrow ≡ true
  pub tokens : (id : ℕ) → Contains row.tokens id → Contains old.tokens id

-- The row is of the same user, with the same credential and secure id, and with escrow where the
-- old one has it: it may differ in its tokens, and in what it says of a PIN.
pub record HasSameCredential (old row : UserRow) : Type 0 where
  pub user : row.user ≡ old.user
  pub kind : row.kind ≡ old.kind
  pub protector : row.protector ≡ old.protector
  pub secure : row.secure ≡ old.secure
  pub escrow : row.escrow ≡ old.escrow
