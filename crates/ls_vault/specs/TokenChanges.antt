-- Tokens come and go.
use Rattle.std.specs.Prelude.{ℕ, ◌++◌, nat_lt, false, if◌then◌else◌, List, [], ◌∷◌, take, map}
use Rattle.ls_script.specs.declared.reply.TokenState.{TokenState}
use Rattle.ls_script.specs.declared.reply.TokenState.TheVariants.{Pending, Active, Absent}
use Rattle.ls_vault.specs.declared.state.State.{State}
use Rattle.ls_vault.specs.declared.token.Token.{Token}
use Rattle.ls_vault.specs.declared.user.User.{User}
use Rattle.ls_vault.specs.States.{with_users, with_pending, committed, committed_if}
use Rattle.ls_vault.specs.Tokens.{without_token, pending_of, pending_of_others, without_pending}
use Rattle.ls_vault.specs.Tokens.{without_first, activated, is_active, is_pending}
use Rattle.ls_vault.specs.Users.{changed}

-- a token waits behind the other pending ones
abbrev pub token_added : State → ℕ → List ℕ → ℕ → State
token_added s user bytes id =
    with_pending s (s.session.pending ++ record { user = user; id = id; bytes = bytes } ∷ [])

-- the user with further active tokens behind its own
abbrev pub with_tokens : List Token → User → User
with_tokens more u = record u { tokens = u.tokens ++ more }

-- the user's first k pending tokens become its last active ones, in order
abbrev pub first_activated : ℕ → State → ℕ → State
first_activated k s user =
    with_pending
    (with_users s (changed s.vault.users user
    (with_tokens (map activated (take k (pending_of s.session.pending user))))))
    (without_first k s.session.pending user)

abbrev pub tokens_activated : ℕ → State → ℕ → State
tokens_activated k s user = committed_if (nat_lt 0 k) (first_activated k s user)

-- the user without the active token with this id
abbrev pub without_its : ℕ → User → User
without_its id u = record u { tokens = without_token u.tokens id }

abbrev pub token_dropped : State → ℕ → ℕ → State
token_dropped s user id =
    committed_if (is_active s user id)
    (with_pending (with_users s (changed s.vault.users user (without_its id)))
    (without_pending s.session.pending user id))

-- the user can have no tokens any more
abbrev pub plain : User → User
plain u = record u { escrow = false; tokens = [] }

abbrev pub escrow_ended : State → ℕ → State
escrow_ended s user =
    committed
    (with_pending (with_users s (changed s.vault.users user plain))
    (pending_of_others s.session.pending user))

abbrev pub token_state : State → ℕ → ℕ → TokenState
token_state s user id =
    if is_pending s user id then Pending else if is_active s user id then Active else Absent
