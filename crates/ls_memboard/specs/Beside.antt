-- What a board in memory keeps beside its files.
use Rattle.std.specs.Prelude.{[]}
use Rattle.ls_board.specs.declared.world.World.{World}
use Rattle.ls_memboard.specs.declared.devices.Devices.{Devices}

-- the world without its files
abbrev pub bare : World → World
bare w = record w { files = []; touched = [] }

-- the world of these devices, without files
abbrev pub beside : Devices → World
beside d = record {
  files = [];
  touched = [];
  slots = d.slots;
  gk_key = d.gk.key;
  gk = d.gk.records;
  keys = d.keys.keys;
  cell = d.cell;
  input = d.input;
  said = d.said.items;
  moments = d.moments;
  noise = d.noise;
}

-- the world with the files of another
abbrev pub with_files_of : World → World → World
with_files_of w v = record w { files = v.files; touched = v.touched }
