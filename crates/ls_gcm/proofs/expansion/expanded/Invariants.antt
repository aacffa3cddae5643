use Rattle.std.proofs.Common.{◌≡◌, ◌*◌, ◌+◌, take, length}
use Rattle.ls_gcm.specs.Aes.{expanded}
use Rattle.ls_gcm.proofs.expansion.expanded.Given as goal

abbrev pub invariant-words : goal.invariant-words
invariant-words l = (length l.w ≡ 240) × (take (4 * l.n + 32) l.w ≡ expanded l.key l.n)
