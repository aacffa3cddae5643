use Rattle.std.proofs.Common.{◌≡◌, ◌≤◌, ◌+◌, ◌-◌, drop, length}
use Rattle.ls_grammar.specs.Reads.{shared}
use Rattle.ls_grammar.proofs.prefix.shared_len.Given as goal

abbrev pub invariant-loop-n : goal.invariant-loop-n
invariant-loop-n l = record {
  same : l.n + shared (drop l.n l.a) (drop l.n l.b) ≡ shared l.a l.b;
  in_a : l.n ≤ length l.a;
  in_b : l.n ≤ length l.b;
}

abbrev pub decreases-loop-n : goal.decreases-loop-n
decreases-loop-n l = length l.a - l.n
