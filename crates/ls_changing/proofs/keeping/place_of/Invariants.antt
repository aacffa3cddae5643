use Rattle.std.proofs.Common.{◌≡◌, ◌≢◌, ◌<◌, ℕ}
use Rattle.std.specs.Prelude.{slice_index_or}
use Rattle.ls_formats.specs.declared.parts.Parts.{Parts}
use Rattle.ls_changing.proofs.keeping.place_of.Given as goal

abbrev pub invariant-loop-one : goal.invariant-loop-one
invariant-loop-one l = (l.at ≡ l.one-index) × ((k : ℕ) → k < l.one-index → (d : Parts) → (slice_index_or l.named k d).id ≢ l.id)
