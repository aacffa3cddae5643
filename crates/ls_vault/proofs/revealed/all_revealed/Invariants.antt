use Rattle.std.proofs.Common.{◌≡◌, take}
use Rattle.ls_vault.specs.Revealed.{all_revealed}
use Rattle.ls_vault.proofs.revealed.all_revealed.Given as goal

abbrev pub invariant-loop-n : goal.invariant-loop-n
invariant-loop-n l = l.rows ≡ all_revealed l.users (take l.n-index l.numbers)
