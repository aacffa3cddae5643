-- The rules of a record.
use Rattle.std.specs.Prelude.{◌≡◌, ◌≢◌, ◌≤◌, ◌<◌, ◌^◌, ◌%◌, ◌==◌, ◌&&◌, ◌||◌, not, nat_le, nat_lt, ℕ, Bool, true, false, List, [], ◌∷◌, length, Option, IfSome}
use Rattle.std.specs.List.{AllByRecursion, list_any, list_all}
use Rattle.ls_credential.specs.declared.kind.Kind.{Kind}
use Rattle.ls_credential.specs.declared.kind.Kind.TheVariants.{Empty, Pattern, Pin, Password}
use Rattle.ls_record.specs.declared.row.UserRow.{UserRow}
use Rattle.ls_arming.specs.declared.arming.Arming.{Arming}

-- ---- one row

abbrev pub is_odd : ℕ → Bool
is_odd n = n % 2 == 1

-- the id of a credential's protector is even, and not 0
abbrev pub is_protector_id : ℕ → Bool
is_protector_id id = (id % 2 == 0) && not (id == 0)

-- a user without a credential has no secure id, and each other one an odd one
abbrev pub is_secure_id : Kind → ℕ → Bool
is_secure_id Empty id = id == 0
is_secure_id Pattern id = is_odd id
is_secure_id Pin id = is_odd id
is_secure_id Password id = is_odd id

-- the length of a PIN is shown only where the user lets it be, and only from 6 on
abbrev pub is_shown_length : Kind → Bool → ℕ → Bool
is_shown_length Pin true n = (n == 0) || (nat_le 6 n && nat_le n 16)
is_shown_length _ _ n = n == 0

-- there are at most 8 tokens, and none without escrow
abbrev pub is_token_count : Bool → ℕ → Bool
is_token_count true n = nat_le n 8
is_token_count false n = n == 0

-- P holds of each element with each one behind it
abbrev pub Pairs : {X : Type 0} → (X → X → Type 0) → List X → Type 0
Pairs P [] = Unit {0}
Pairs P (x ∷ xs) = AllByRecursion (P x) xs × Pairs P xs

pub record IsRow (r : UserRow) : Type 0 where
  pub user : r.user < 2 ^ 32
  pub pin : is_shown_length r.kind r.auto r.pin ≡ true
  pub protector : (is_protector_id r.protector ≡ true) × (r.protector < 2 ^ 64)
  pub secure : (is_secure_id r.kind r.secure ≡ true) × (r.secure < 2 ^ 64)
  pub few : is_token_count r.escrow (length r.tokens) ≡ true
  pub tokens : AllByRecursion (λ t. (is_odd t ≡ true) × (t < 2 ^ 64)) r.tokens
  pub once : Pairs (λ s t. s ≢ t) r.tokens

-- ---- rows beside each other

-- the id is one of these
abbrev pub has : List ℕ → ℕ → Bool
has ids id = list_any (λ i. i == id) ids

-- No protector id, no token id and no secure id but 0 is in two rows.
pub record AreApart (r s : UserRow) : Type 0 where
  pub protector : r.protector ≢ s.protector
  pub secure : r.secure ≡ s.secure → r.secure ≡ 0
  pub tokens : AllByRecursion (λ t. has r.tokens t ≡ false) s.tokens

-- one row stands before another
pub record IsBefore (r s : UserRow) : Type 0 where
  pub user : r.user < s.user
  pub apart : AreApart r s

-- ---- what may stand in a row beside others

-- some row of another user passes the test
abbrev pub another : List UserRow → ℕ → (UserRow → Bool) → Bool
another rows user test = list_any (λ r. not (r.user == user) && test r) rows

-- no row of another user has this protector
abbrev pub is_new_protector : List UserRow → ℕ → ℕ → Bool
is_new_protector rows user id = not (another rows user (λ r. r.protector == id))

-- none has this secure id, if it isn't 0
abbrev pub is_new_secure : List UserRow → ℕ → ℕ → Bool
is_new_secure rows user id = (id == 0) || not (another rows user (λ r. r.secure == id))

-- none has this token, and none of those before it in its own row is it
abbrev pub is_new_token : List UserRow → ℕ → List ℕ → ℕ → Bool
is_new_token rows user before id = not (another rows user (λ r. has r.tokens id)) && not (has before id)

-- the user is above those of the rows before
abbrev pub is_last_user : List UserRow → ℕ → Bool
is_last_user before user = list_all (λ r. nat_lt r.user user) before

-- ---- the record

pub record Rec : Type 0 where
  pub users : List UserRow
  pub armed : Option Arming

abbrev pub rec : List UserRow → Option Arming → Rec
rec users armed = record { users = users; armed = armed }

-- a user has a row
abbrev pub has_row : List UserRow → ℕ → Bool
has_row rows user = list_any (λ r. r.user == user) rows

-- the user has a row, and is above those before
abbrev pub is_next_armed : List UserRow → List ℕ → ℕ → Bool
is_next_armed rows before user = list_all (λ u. nat_lt u user) before && has_row rows user

-- 1 to 16 users that have rows, ascending
pub record IsArming (rows : List UserRow) (a : Arming) : Type 0 where
  pub boot : a.boot < 2 ^ 32
  pub some : 1 ≤ length a.users
  pub few : length a.users ≤ 16
  pub ascending : Pairs (λ u v. u < v) a.users
  pub there : AllByRecursion (λ u. has_row rows u ≡ true) a.users

-- at most 16 rows, ascending and apart
pub record IsRecord (r : Rec) : Type 0 where
  pub few : length r.users ≤ 16
  pub rows : AllByRecursion IsRow r.users
  pub pairs : Pairs IsBefore r.users
  pub armed : IfSome r.armed (IsArming r.users)
