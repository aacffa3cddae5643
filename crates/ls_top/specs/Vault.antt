-- The vault machine: what is kept, and what one command makes of it.
use Rattle.std.specs.Prelude.{◌≤◌, ◌<◌, ◌^◌, ◌++◌, ◌∷◌, ◌==◌, ℕ, nat_lt, nat_le, if◌then◌else◌, List, length, filter}
use Rattle.std.specs.List.{All, list_any}
use Rattle.std.specs.List.Sorted.{IsStrictlyIncreasing}
use Rattle.ls_top.specs.declared.vault.Command.{Command}
use Rattle.ls_top.specs.declared.vault.Command.TheVariants.{Add}
use Rattle.ls_top.specs.declared.vault.Refusal.TheVariants.{UserExists, UserLimit}
use Rattle.ls_top.specs.declared.vault.Reply.{Reply}
use Rattle.ls_top.specs.declared.vault.Reply.TheVariants.{Fine, Refused}

-- a vault is its users: at most 16 numbers of 32 bits, ascending
pub record IsVault (users : List ℕ) : Type 0 where
  pub ascending : IsStrictlyIncreasing users
  pub few : length users ≤ 16
  pub numbers : All (λ user. user < 2 ^ 32) users

-- the users with this one among them, where it wasn't
abbrev pub with_user : List ℕ → ℕ → List ℕ
with_user users user = filter (λ other. nat_lt other user) users ++ user ∷ filter (λ other. nat_lt user other) users

-- what a command answers, and the users after it
pub record Step : Type 0 where
  pub reply : Reply
  pub users : List ℕ

-- One command of the machine. A refusal changes nothing; the first that applies is answered.
abbrev pub step : List ℕ → Command → Step
step users (Add user) =
    if list_any (λ other. other == user) users then record { reply = Refused UserExists; users = users }
    else if nat_le 16 (length users) then record { reply = Refused UserLimit; users = users }
    else record { reply = Fine; users = with_user users user }
