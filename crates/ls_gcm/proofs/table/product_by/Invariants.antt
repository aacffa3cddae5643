use Rattle.std.proofs.Common.{◌≡◌, ◌<◌, ◌*◌, ℕ, slice_index}
use Rattle.ls_gcm.specs.Blocks.{product_of}
use Rattle.ls_gcm.proofs.table.product_by.Given as goal

abbrev pub invariant-nibbles : goal.invariant-nibbles
invariant-nibbles l =
    (h : ℕ) → ((n : ℕ) → n < 16 → slice_index l.multiples n ≡ product_of 4 n h) → l.z ≡ product_of (4 * l.i) l.x h
