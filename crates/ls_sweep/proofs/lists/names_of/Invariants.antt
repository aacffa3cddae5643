use Rattle.std.proofs.Common.{◌≡◌, ◌++◌, length}
use Rattle.std.specs.List.{AllByRecursion, flat_map}
use Rattle.ls_bytes.specs.Names.{IsName}
use Rattle.ls_board.specs.Listing.{line_of}
use Rattle.ls_sweep.specs.Lines.{AreLines}
use Rattle.ls_sweep.proofs.lists.names_of.Given as goal

abbrev pub invariant-loop-rest : goal.invariant-loop-rest
invariant-loop-rest l = record {
  read : l.bytes ≡ flat_map line_of l.names ++ l.rest;
  lines : AreLines l.rest;
  each : AllByRecursion IsName l.names;
}

abbrev pub decreases-loop-rest : goal.decreases-loop-rest
decreases-loop-rest l = length l.rest
