-- Users by their numbers.
use Rattle.std.specs.Prelude.{ℕ, ◌==◌, nat_lt, not, Bool, if◌then◌else◌, List, [], ◌∷◌, Option}
use Rattle.std.specs.Prelude.{is_some, find, filter}
use Rattle.std.specs.Option.{option_map_or}
use Rattle.ls_vault.specs.declared.token.Token.{Token}
use Rattle.ls_vault.specs.declared.user.User.{User}

-- the user with this number
abbrev pub user_of : List User → ℕ → Option User
user_of users number = find (λ u. u.number == number) users

-- there is a user with this number
abbrev pub is_user : List User → ℕ → Bool
is_user users number = is_some (user_of users number)

-- the active tokens of the user, none where there is no such user
abbrev pub tokens_of : List User → ℕ → List Token
tokens_of users number = option_map_or (λ u. u.tokens) (user_of users number) []

-- the users, with the one of this number changed
abbrev pub changed : List User → ℕ → (User → User) → List User
changed [] number change = []
changed (u ∷ users) number change =
    if u.number == number then change u ∷ users else u ∷ changed users number change

-- the users and this new one, ascending
abbrev pub with_user : List User → User → List User
with_user [] user = user ∷ []
with_user (u ∷ users) user =
    if nat_lt u.number user.number then u ∷ with_user users user
    else user ∷ u ∷ users

-- the users but the one of this number
abbrev pub without_user : List User → ℕ → List User
without_user users number = filter (λ u. not (u.number == number)) users
