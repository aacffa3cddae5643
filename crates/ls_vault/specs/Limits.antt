-- Limits of a vault.
use Rattle.std.specs.Prelude.{ℕ, ◌+◌, ◌-◌, ◌==◌, ◌&&◌, nat_lt, nat_le, min, Bool, if◌then◌else◌}
use Rattle.std.specs.Prelude.{List, length, sum_by}
use Rattle.ls_vault.specs.declared.state.State.{State}
use Rattle.ls_vault.specs.declared.user.User.{User}
use Rattle.ls_vault.specs.Tokens.{pending_of}
use Rattle.ls_vault.specs.Users.{tokens_of}

-- the most users
abbrev pub most_users : ℕ
most_users = 16

-- the most tokens of one user, active and pending
abbrev pub most_tokens : ℕ
most_tokens = 8

-- the greatest number of 32 bits
abbrev pub last_of_32 : ℕ
last_of_32 = 4294967295

-- the greatest number of 64 bits
abbrev pub last_of_64 : ℕ
last_of_64 = 18446744073709551615

-- No change of the vault can be kept any more: the sequence number is the last one.
abbrev pub is_worn : State → Bool
is_worn s = s.books.kept == last_of_64

-- how many slots are used: one for each user, and one for each active token
abbrev pub used : List User → ℕ
used users = length users + sum_by (λ u. length u.tokens) users

-- There are slots, and none is free.
abbrev pub is_full : ℕ → State → Bool
is_full slots s = nat_lt 0 slots && nat_le slots (used s.vault.users)

-- how many tokens a user has, active and pending
abbrev pub token_count : State → ℕ → ℕ
token_count s user =
    length (tokens_of s.vault.users user) + length (pending_of s.session.pending user)

-- How many pending tokens of a user find a place: none where nothing can be kept, all where there
-- are no slots, else as many as there are free slots.
abbrev pub activated_count : ℕ → State → ℕ → ℕ
activated_count slots s user =
    if is_worn s then 0
    else if slots == 0 then length (pending_of s.session.pending user)
    else min (length (pending_of s.session.pending user)) (slots - used s.vault.users)
