-- Worlds as a whole.
use Rattle.std.specs.Prelude.{ℕ, [], replicate, None}
use Rattle.std.specs.Ordering.{nat_cmp}
use Rattle.ls_weaver.specs.Slots.{blank_slot}
use Rattle.ls_board.specs.declared.world.World.{World}
use Rattle.ls_board.specs.Order.{byte_cmp, IsSorted}

-- nothing is stored, and each of so many slots is blank
abbrev pub blank_world : ℕ → World
blank_world slots = record {
  files = [];
  touched = [];
  slots = replicate slots blank_slot;
  gk_key = replicate 32 0;
  gk = [];
  keys = [];
  cell = None;
  input = [];
  said = [];
  moments = [];
  noise = [];
}

-- the rows of each table stand in the order of their keys
pub record InOrder (w : World) : Type 0 where
  pub files : IsSorted byte_cmp w.files
  pub touched : IsSorted byte_cmp w.touched
  pub gk : IsSorted nat_cmp w.gk
  pub keys : IsSorted nat_cmp w.keys
