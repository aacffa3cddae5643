use Rattle.std.proofs.Common.{◌≡◌, ◌<◌, ℕ}
use Rattle.ls_naming.specs.Named.{NamesSlot}
use Rattle.ls_weaver.specs.Slots.{blank_slot}
use Rattle.ls_board.specs.Effect.{file_at, slot_at}
use Rattle.ls_sealing.specs.Protectors.{has_weaver}
use Rattle.ls_checker.proofs.bare_devices.keeps_named_slots.Given as goal

abbrev pub invariant-loop-slot : goal.invariant-loop-slot
invariant-loop-slot l = (k : ℕ) → k < l.slot → ¬ NamesSlot (has_weaver l.world) l.holder (file_at l.world) k → slot_at l.world k ≡ blank_slot
