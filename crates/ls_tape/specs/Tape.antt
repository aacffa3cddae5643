-- What a run takes of the moments and of the noise that it is given.
use Rattle.std.specs.Prelude.{ℕ, List, [], ◌∷◌, ◌++◌, take, replicate}

-- the next moment, 0 where there is none
abbrev pub next_moment : List ℕ → ℕ
next_moment [] = 0
next_moment (moment ∷ moments) = moment

-- the moments that are left then; the last one stays
abbrev pub later_moments : List ℕ → List ℕ
later_moments [] = []
later_moments (moment ∷ []) = moment ∷ []
later_moments (moment ∷ next ∷ moments) = next ∷ moments

-- so many bytes of the noise; past its end they are zeros
abbrev pub drawn : List ℕ → ℕ → List ℕ
drawn noise len = take len (noise ++ replicate len 0)
