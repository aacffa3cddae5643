-- Users leave an arming.
use Rattle.std.specs.Prelude.{ℕ, List, [], ◌∷◌, Option, Some, None}
use Rattle.ls_arming.specs.declared.arming.Arming.{Arming}
use Rattle.ls_arming.specs.Numbers.{without_number}

-- the arming of these users at a boot, and none without users
abbrev pub arming_of : ℕ → List ℕ → Option Arming
arming_of boot [] = None
arming_of boot (u ∷ users) = Some (record { boot = boot; users = u ∷ users })

-- an arming without this user
abbrev pub disarmed : Option Arming → ℕ → Option Arming
disarmed None user = None
disarmed (Some arming) user = arming_of arming.boot (without_number arming.users user)
