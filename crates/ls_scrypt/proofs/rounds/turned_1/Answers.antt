use Rattle.std.proofs.Common.{◌≡◌, ℕ, ◌<◌, ◌+◌, ◌%◌, List, [], ◌∷◌, ◌++◌, slice_index, refl}
use Rattle.ls_scrypt.proofs.LaneLemmas.{four_lanes, below_four}
use Rattle.ls_scrypt.proofs.rounds.turned_1.Goals as goal

pub returns : goal.returns
returns c =
    four_lanes (λ (v : List ℕ). (j : ℕ) → j < 4
    → slice_index (slice_index (v ++ v) 1 ∷ slice_index (v ++ v) 2 ∷ slice_index (v ++ v) 3 ∷ slice_index (v ++ v) 0 ∷ []) j ≡ slice_index v ((j + 1) % 4))
    (λ a b c d. below_four _ refl refl refl refl) c.args.v c.fits-v.0
