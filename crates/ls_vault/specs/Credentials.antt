-- A user gets another credential.
use Rattle.std.specs.Prelude.{ℕ, ◌&&◌, not, Bool, if◌then◌else◌, List, map}
use Rattle.ls_credential.specs.Rules.{KindAndText}
use Rattle.ls_vault.specs.declared.state.State.{State}
use Rattle.ls_vault.specs.declared.user.User.{User}
use Rattle.ls_vault.specs.Fresh.{fresh, drawn_number}
use Rattle.ls_vault.specs.Kinds.{is_empty}
use Rattle.ls_vault.specs.States.{with_users, committed}
use Rattle.ls_vault.specs.Users.{changed}

-- a credential replaces none
abbrev pub is_first : KindAndText → User → Bool
is_first new u = is_empty u.credential.kind && not (is_empty new.kind)

-- the secure ids of all users, 0 for a user without one
abbrev pub secure_ids : List User → List ℕ
secure_ids users = map (λ u. u.secure) users

-- The secure id beside the new credential: 0 where it is none, a fresh one where it replaces none,
-- else as it was.
abbrev pub secure_after : List User → KindAndText → List ℕ → User → ℕ
secure_after users new drawn u =
    if is_empty new.kind then 0
    else if is_first new u then fresh (drawn_number drawn) (secure_ids users)
    else u.secure

-- the user with the new credential; the secret stays
abbrev pub given : List User → KindAndText → List ℕ → User → User
given users new drawn u = record u {
  credential = new;
  fails = 0;
  until = 0;
  secure = secure_after users new drawn u;
}

abbrev pub credential_changed : State → ℕ → KindAndText → List ℕ → State
credential_changed s user new drawn =
    committed (with_users s (changed s.vault.users user (given s.vault.users new drawn)))
