-- Devices in memory, as what a secure file says.
use Rattle.std.specs.Prelude.{ℕ, []}
use Rattle.ls_board.specs.declared.world.World.{World}
use Rattle.ls_secure.specs.declared.devices.Devices.{Devices}
use Rattle.ls_secure.specs.Secure.{Kept, Image}

-- what these devices keep
abbrev pub kept_of : Devices → Kept
kept_of d = record {
  slots = d.slots;
  gk_key = d.gk.key;
  records = d.gk.records;
  keys = d.keys.keys;
  cell = d.cell;
}

-- the file of this number that keeps it
abbrev pub image_of : ℕ → Devices → Image
image_of sequence d = record { sequence = sequence; kept = kept_of d }

-- the world of these devices, in which there is nothing else
abbrev pub world_of : Devices → World
world_of d = record {
  files = [];
  touched = [];
  slots = d.slots;
  gk_key = d.gk.key;
  gk = d.gk.records;
  keys = d.keys.keys;
  cell = d.cell;
  input = [];
  said = [];
  moments = [];
  noise = [];
}
