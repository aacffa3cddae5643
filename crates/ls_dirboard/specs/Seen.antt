-- What is seen of a board over a directory.
use Rattle.std.specs.Prelude.{◌≡◌, ◌≤◌, false, ℕ, [], length}
use Rattle.ls_board.specs.declared.action.Part.{Part}
use Rattle.ls_board.specs.declared.action.Part.TheVariants.{Input, Output, Files, Weaver, Gatekeeper, Keys, Resume, Clock, Noise}
use Rattle.ls_board.specs.declared.action.BoardFault.{BoardFault}
use Rattle.ls_board.specs.declared.action.BoardFault.TheVariants.{Failed, Memory as NoMemory}
use Rattle.ls_board.specs.Acts.{Sight, Rose}
use Rattle.ls_board.specs.Worlds.{blank_world}
use Rattle.ls_board.specs.declared.world.World.{World}
use Rattle.ls_secure.specs.Held.{world_of}
use Rattle.ls_dirboard.specs.declared.faults.Faults.{Faults}
use Rattle.ls_dirboard.specs.declared.outside.Trouble.{Trouble}
use Rattle.ls_dirboard.specs.declared.outside.Trouble.TheVariants.{Failed as HasFailed, Memory as HasNoMemory}
use Rattle.ls_dirboard.specs.declared.board.DirBoard.{DirBoard}

-- how often this part failed
abbrev pub count_of : Faults → Part → ℕ
count_of f Input = f.input
count_of f Output = f.output
count_of f Files = f.files
count_of f Weaver = f.weaver
count_of f Gatekeeper = f.gatekeeper
count_of f Keys = f.keys
count_of f Resume = f.resume
count_of f Clock = f.clock
count_of f Noise = f.noise

-- the world of its devices, in which there is nothing else
abbrev pub devices_of : DirBoard → World
devices_of b = world_of b.outside.devices

-- It tells nothing: of its world only the number of slots is seen.
abbrev pub sight_of : DirBoard → Sight
sight_of b = record {
  told = false;
  world = blank_world 0;
  past = [];
  faults = count_of b.faults;
  never_fails = false;
  actions = b.actions;
  bytes = b.bytes;
  slots = length b.outside.devices.slots;
}

-- What is answered for an action of this part that wasn't done. Only a failure is counted, and it
-- counts for this part.
abbrev pub Blames : Part → Trouble → Faults → BoardFault → Faults → Type 0
Blames p HasNoMemory old fault new = (fault ≡ NoMemory) × (new ≡ old)
Blames p HasFailed old fault new =
    (fault ≡ Failed p) × Rose (count_of old p) (count_of new p)
    × ((q : Part) → count_of old q ≤ count_of new q)
