-- What a reading gives where the bytes begin with the text of a value, whatever follows it.
use Rattle.std.specs.Prelude.{◌≡◌, ℕ, List, Result, Ok, MatchResult}
use Rattle.ls_secure.specs.declared.reading.Misread.{Misread}
use Rattle.ls_secure.specs.declared.reading.Misread.TheVariants.{Memory}

-- it gave the value, and left what follows
abbrev pub Gave : {X E : Type 0} → Result X E → List ℕ → X → List ℕ → Type 0
Gave result left value rest = (result ≡ Ok value) × (left ≡ rest)

-- it gave what is seen as the value, and left what follows, unless memory ran out
abbrev pub GaveBut : {X Y : Type 0} → (X → Y) → Result X Misread → List ℕ → Y → List ℕ → Type 0
GaveBut seen result left value rest =
    MatchResult result (λ x. (seen x ≡ value) × (left ≡ rest)) (λ e. e ≡ Memory)
