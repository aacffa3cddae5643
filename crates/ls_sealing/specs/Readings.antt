-- What the asking of a protector's devices leaves of it.
use Rattle.std.specs.Prelude.{ℕ, List, Some}
use Rattle.ls_weaver.specs.declared.slot.Slot.{Slot}
use Rattle.ls_weaver.specs.Slots.{slot_after}
use Rattle.ls_board.specs.declared.devices.Counter.{Counter}
use Rattle.ls_sealing.specs.Protectors.{Held}

-- the slot after a reading with this key at this moment
abbrev pub after_reading : Held → Slot → List ℕ → ℕ → Held
after_reading h slot key moment = record h { slot = Some (slot_after slot key moment) }

-- another counter of the Gatekeeper's record
abbrev pub with_record : Held → Counter → Held
with_record h counter = record h { counter = Some counter }
