-- What stays of a world while only its storage changes: files and what the devices keep.
use Rattle.std.specs.Prelude.{◌≡◌, [], length}
use Rattle.ls_board.specs.declared.world.World.{World}

-- Nothing was said, heard or drawn and no moment was taken, the Gatekeeper's key is the same, and
-- there are as many slots.
pub record SameRest (old new : World) : Type 0 where
  pub is : new ≡ record old {
    files = new.files;
    touched = new.touched;
    slots = new.slots;
    gk = new.gk;
    keys = new.keys;
    cell = new.cell;
  }
  pub count : length new.slots ≡ length old.slots

-- the same up to an image, in which no file is touched
pub record LeavesRest (w image : World) : Type 0 where
  pub is : image ≡ record w {
    files = image.files;
    touched = [];
    slots = image.slots;
    gk = image.gk;
    keys = image.keys;
    cell = image.cell;
  }
  pub count : length image.slots ≡ length w.slots
