-- The files at the last sync, call by call.
use Rattle.std.specs.Prelude.{ℕ, List, [], ◌∷◌, Option}
use Rattle.ls_board.specs.declared.world.World.{World}
use Rattle.ls_memboard.specs.declared.call.Entry.{Entry}
use Rattle.ls_memboard.specs.Calls.{call_of}
use Rattle.ls_memboard.specs.Cuts.{synced_after}
use Rattle.ls_memboard.specs.Replay.{after_entry}

-- the files at the last sync of these calls, the oldest first, or else those before them
abbrev pub synced_of : List ℕ → World → Option (List (List ℕ × List ℕ)) → List Entry
    → Option (List (List ℕ × List ℕ))
synced_of pool w before [] = before
synced_of pool w before (e ∷ log) =
    synced_of pool (after_entry pool w e)
    (synced_after before (call_of pool e.kept) (after_entry pool w e)) log
