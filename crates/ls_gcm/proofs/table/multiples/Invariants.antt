use Rattle.std.proofs.Common.{◌≡◌, ◌<◌, ℕ, length, slice_index}
use Rattle.ls_gcm.specs.Blocks.{product_of}
use Rattle.ls_gcm.proofs.table.multiples.Given as goal

abbrev pub invariant-fill : goal.invariant-fill
invariant-fill l = (length l.table ≡ 16) × ((k : ℕ) → k < l.n → slice_index l.table k ≡ product_of 4 k l.h)
