-- What a board in memory keeps beside the calls done.
use Rattle.std.specs.Prelude.{◌≡◌, ◌≤◌, ℕ, IsTrue, List, length}
use Rattle.std.specs.List.{filter}
use Rattle.ls_board.specs.declared.action.Part.{Part}
use Rattle.ls_board.specs.declared.world.World.{World}
use Rattle.ls_board.specs.Worlds.{InOrder}
use Rattle.ls_memboard.specs.declared.call.Entry.{Entry}
use Rattle.ls_memboard.specs.declared.devices.Devices.{Devices}
use Rattle.ls_memboard.specs.declared.failure.Failure.{Failure}
use Rattle.ls_memboard.specs.Calls.{changed_a_file}
use Rattle.ls_memboard.specs.Failures.{has_none}
use Rattle.ls_memboard.specs.Replay.{AllIn, all_fit, replay, fault_count}

-- the devices are those of the world
pub record IsBeside (d : Devices) (w : World) : Type 0 where
  pub slots : d.slots ≡ w.slots
  pub gk_key : d.gk.key ≡ w.gk_key
  pub gk : d.gk.records ≡ w.gk
  pub keys : d.keys.keys ≡ w.keys
  pub cell : d.cell ≡ w.cell
  pub input : d.input ≡ w.input
  pub said : d.said.items ≡ w.said
  pub moments : d.moments ≡ w.moments
  pub noise : d.noise ≡ w.noise

-- It is in step with them.
pub record IsInStep (start : World) (failures : List Failure) (pool : List ℕ) (log changes : List Entry) (devices : Devices) : Type 0 where
  pub within : AllIn pool log
  pub fits : IsTrue (all_fit pool start log)
  pub changes_are : changes ≡ filter changed_a_file log
  pub devices_are : IsBeside devices (replay pool start log)
  pub in_order : InOrder (replay pool start log)
  pub slots : length start.slots ≡ length (replay pool start log).slots
  pub few_slots : length start.slots ≤ 256
  -- a board that fails no call has counted no fault
  pub quiet : IsTrue (has_none failures) → (p : Part) → fault_count p log ≡ 0
