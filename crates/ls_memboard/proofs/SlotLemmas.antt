-- A row of a list, or a spare one.
use Rattle.std.proofs.Common.{◌≡◌, ℕ, zero, suc, List, [], ◌∷◌, None, refl}
use Rattle.std.specs.Prelude.{slice_get, slice_index_or}

-- where no row is found the spare one is given
pub missing : {X : Type 0} (xs : List X) (at : ℕ) (spare : X) → slice_get xs at ≡ None → slice_index_or xs at spare ≡ spare
missing [] at spare none = refl
missing (x ∷ xs) zero spare none = absurd (cc)
missing (x ∷ xs) (suc at) spare none = missing xs at spare none
