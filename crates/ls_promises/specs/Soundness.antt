-- Limits that every state keeps.
use Rattle.std.specs.Prelude.{◌≡◌, ◌≤◌, ◌<◌, ◌==◌, ℕ, true, false, List, [], ◌∷◌, length, map}
use Rattle.std.specs.Prelude.{count_by, Option, Some, ⊤}
use Rattle.std.specs.List.{AllByRecursion}
use Rattle.ls_vault.specs.Limits.{most_users, most_tokens, used, token_count}
use Rattle.ls_vault.specs.Tokens.{pending_of, token_ids}
use Rattle.ls_vault.specs.Users.{user_of, is_user}
use Rattle.ls_arming.specs.Numbers.{contains}
use Rattle.ls_vault.specs.declared.state.State.{State}
use Rattle.ls_vault.specs.declared.user.User.{User}
use Rattle.ls_arming.specs.declared.arming.Arming.{Arming}

-- each number is smaller than all that stand behind it
abbrev pub IsAscending : List ℕ → Type 0
IsAscending [] = ⊤
IsAscending (n ∷ numbers) = AllByRecursion (λ m. n < m) numbers × IsAscending numbers

-- each of these numbers is that of a user
abbrev pub AreUsers : List User → List ℕ → Type 0
AreUsers users numbers = (n : ℕ) → contains numbers n ≡ true → is_user users n ≡ true

abbrev pub armed_numbers : Option Arming → List ℕ
armed_numbers (Some arming) = arming.users
armed_numbers _ = []

-- What holds of a state with so many slots.
pub record IsSound (slots : ℕ) (s : State) : Type 0 where
  -- there are at most 16 users, by ascending number
  pub few : length s.vault.users ≤ most_users
  pub ascending : IsAscending (map (λ u. u.number) s.vault.users)
  -- each has at most 8 tokens, active and pending
  pub tokens : (user : ℕ) → token_count s user ≤ most_tokens
  -- where there are slots, users and active tokens fit them
  pub fit : 0 < slots → used s.vault.users ≤ slots
  -- no two tokens have one id
  pub ids : (id : ℕ) → count_by (λ i. i == id) (token_ids s) ≤ 1
  -- no two users have one secure id
  pub secure : (m n : ℕ) (u v : User)
      → user_of s.vault.users m ≡ Some u → user_of s.vault.users n ≡ Some v
      → u.secure ≡ v.secure → 0 < u.secure → m ≡ n
  -- who has a pending token, is opened, captured or armed is a user
  pub waiting : (user : ℕ) → is_user s.vault.users user ≡ false
      → length (pending_of s.session.pending user) ≡ 0
  pub opened : AreUsers s.vault.users s.session.opened
  pub captured : AreUsers s.vault.users s.session.captured
  pub armed : AreUsers s.vault.users (armed_numbers s.vault.arming)

-- The numbers of the opened, the captured and the armed users ascend.
pub record IsOrdered (s : State) : Type 0 where
  pub opened : IsAscending s.session.opened
  pub captured : IsAscending s.session.captured
  pub armed : IsAscending (armed_numbers s.vault.arming)
