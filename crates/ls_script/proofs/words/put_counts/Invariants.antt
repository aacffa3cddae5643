use Rattle.std.proofs.Common.{◌≡◌, ◌≤◌, ◌+◌, ◌*◌, ◌++◌, ◌∷◌, length, take}
use Rattle.std.specs.List.{flat_map}
use Rattle.std.specs.Fmt.{decimal}
use Rattle.ls_script.proofs.words.put_counts.Given as goal

abbrev pub invariant-loop-n : goal.invariant-loop-n
invariant-loop-n l = record {
  text : l.to ≡ l.initial.to ++ flat_map (λ n. 0x2e ∷ decimal n) (take l.n-index l.counts);
  size : length l.to ≤ length l.initial.to + 4 * l.n-index;
}
