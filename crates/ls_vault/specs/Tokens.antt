-- Escrow tokens, pending and active.
use Rattle.std.specs.Prelude.{ℕ, zero, suc, ◌++◌, ◌&&◌, ◌==◌, not, Bool, if◌then◌else◌, List, []}
use Rattle.std.specs.Prelude.{◌∷◌, map, Option, is_some, find, filter, flat_map}
use Rattle.std.specs.List.{list_any}
use Rattle.ls_vault.specs.declared.state.State.{State}
use Rattle.ls_vault.specs.declared.token.PendingToken.{PendingToken}
use Rattle.ls_vault.specs.declared.token.Token.{Token}
use Rattle.ls_vault.specs.Users.{tokens_of}

-- ---- active tokens

-- the token with this id
abbrev pub token_of : List Token → ℕ → Option Token
token_of tokens id = find (λ t. t.id == id) tokens

-- the tokens but the one with this id
abbrev pub without_token : List Token → ℕ → List Token
without_token tokens id = filter (λ t. not (t.id == id)) tokens

-- ---- pending tokens, of all users in the order in which they were added

-- those of one user
abbrev pub pending_of : List PendingToken → ℕ → List PendingToken
pending_of pending user = filter (λ p. p.user == user) pending

-- those of the other users
abbrev pub pending_of_others : List PendingToken → ℕ → List PendingToken
pending_of_others pending user = filter (λ p. not (p.user == user)) pending

-- one of them is this user's with this id
abbrev pub has_pending : List PendingToken → ℕ → ℕ → Bool
has_pending pending user id = list_any (λ p. p.user == user && p.id == id) pending

-- all but this user's with this id
abbrev pub without_pending : List PendingToken → ℕ → ℕ → List PendingToken
without_pending pending user id = filter (λ p. not (p.user == user && p.id == id)) pending

-- all but the first k of this user
abbrev pub without_first : ℕ → List PendingToken → ℕ → List PendingToken
without_first zero pending user = pending
without_first (suc k) [] user = []
without_first (suc k) (p ∷ pending) user =
    if p.user == user then without_first k pending user else p ∷ without_first (suc k) pending user

-- a pending token, once it is active
abbrev pub activated : PendingToken → Token
activated p = record { id = p.id; bytes = p.bytes }

-- ---- of a whole state

-- the user has an active token with this id
abbrev pub is_active : State → ℕ → ℕ → Bool
is_active s user id = is_some (token_of (tokens_of s.vault.users user) id)

-- the user has a pending token with this id
abbrev pub is_pending : State → ℕ → ℕ → Bool
is_pending s user id = has_pending s.session.pending user id

-- the ids of all tokens, active and pending
abbrev pub token_ids : State → List ℕ
token_ids s =
    flat_map (λ u. map (λ t. t.id) u.tokens) s.vault.users ++ map (λ p. p.id) s.session.pending
