-- What the asking of a user's devices changes in a vault.
use Rattle.std.specs.Prelude.{ℕ}
use Rattle.ls_board.specs.declared.action.Action.{Action}
use Rattle.ls_board.specs.declared.action.Action.TheVariants.{WeaverRead, GkVerify}
use Rattle.ls_board.specs.declared.devices.Counter.{Counter}
use Rattle.ls_weaver.specs.declared.slot.Slot.{Slot}
use Rattle.ls_vault.specs.declared.user.User.{User}
use Rattle.ls_vault.specs.declared.vault.Vault.{Vault}
use Rattle.ls_vault.specs.Users.{changed}

-- the failures that a slot counts
abbrev pub failures_of : Slot → Counter
failures_of slot = record { fails = slot.fails; until = slot.until }

-- the user with these failures
abbrev pub with_failures : Counter → User → User
with_failures c u = record u { fails = c.fails; until = c.until }

-- the vault in which the user of this number has these failures
abbrev pub counted : Vault → ℕ → Counter → Vault
counted v user c = record v { users = changed v.users user (with_failures c) }

-- a reading of a slot, or a check of a handle
abbrev pub IsAsking : Action → Type 0
IsAsking (WeaverRead slot key moment) = Unit {0}
IsAsking (GkVerify handle password moment) = Unit {0}
IsAsking _ = ⊥
