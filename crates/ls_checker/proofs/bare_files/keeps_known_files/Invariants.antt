use Rattle.std.proofs.Common.{◌<◌, ℕ, List}
use Rattle.ls_checker.specs.BareRows.{HasKeyAt, IsLeftover}
use Rattle.ls_checker.proofs.bare_files.keeps_known_files.Given as goal

abbrev pub invariant-loop-at : goal.invariant-loop-at
invariant-loop-at l = (k : ℕ) → k < l.at → HasKeyAt (λ (n : List ℕ). ¬ IsLeftover l.world l.holder l.retired n) l.world.files k
