-- What the tokens that aren't active yet keep, so that each may be.
use Rattle.std.specs.Prelude.{◌≡◌, ◌≢◌, ◌≤◌, ◌<◌, ◌^◌, ◌+◌, ◌==◌, ℕ, true, false, List, length, filter}
use Rattle.std.specs.List.{Contains}
use Rattle.ls_record.specs.declared.row.UserRow.{UserRow}
use Rattle.ls_record.specs.Rows.{Pairs, has, is_odd}
use Rattle.ls_vault.specs.Limits.{most_tokens}
use Rattle.ls_turn.specs.declared.session.Pending.{Pending}

-- those of a user among these
abbrev pub those_of : ℕ → List Pending → List Pending
those_of user pending = filter (λ p. p.user == user) pending

-- Beside the active tokens of these rows each may become an active one: it is of a user who may have
-- tokens, under an id of a token that no other has, and no user has more than there may be.
pub record CanWait (users : List UserRow) (pending : List Pending) : Type 0 where
  pub owner : (p : Pending) → Contains pending p
      → (row : UserRow) × Contains users row × (row.user ≡ p.user) × (row.escrow ≡ true)
  pub ids : (p : Pending) → Contains pending p → (is_odd p.id ≡ true) × (p.id < 2 ^ 64)
  pub once : Pairs (λ p q. p.id ≢ q.id) pending
  pub free : (p : Pending) → Contains pending p
      → (row : UserRow) → Contains users row → has row.tokens p.id ≡ false
  pub few : (row : UserRow) → Contains users row
      → length row.tokens + length (those_of row.user pending) ≤ most_tokens
