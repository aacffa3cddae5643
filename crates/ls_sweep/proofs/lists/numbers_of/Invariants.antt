use Rattle.std.proofs.Common.{◌≡◌, ◌<◌, ◌^◌, ◌%◌, ◌++◌, length}
use Rattle.std.specs.List.{AllByRecursion, flat_map}
use Rattle.ls_bytes.specs.Fields.{be64}
use Rattle.ls_sweep.proofs.lists.numbers_of.Given as goal

abbrev pub invariant-loop-rest : goal.invariant-loop-rest
invariant-loop-rest l = record {
  read : l.bytes ≡ flat_map be64 l.numbers ++ l.rest;
  whole : length l.rest % 8 ≡ 0;
  each : AllByRecursion (λ n. n < 2 ^ 64) l.numbers;
}

abbrev pub decreases-loop-rest : goal.decreases-loop-rest
decreases-loop-rest l = length l.rest
