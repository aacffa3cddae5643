-- What is left of a list.
use Rattle.std.specs.Prelude.{◌≡◌, ◌⊎◌, ◌++◌, ℕ, zero, suc, List, [], ◌∷◌}
use Rattle.std.specs.List.{Contains}

-- the second list has those of the first that have P, in their order, and no others
abbrev pub AreThose : {X : Type 0} → (X → Type 0) → List X → List X → Type 0
AreThose P [] those = those ≡ []
AreThose {X} P (x ∷ all) those =
    ((¬ P x) × AreThose P all those)
    ⊎ ((behind : List X) × P x × (those ≡ x ∷ behind) × AreThose P all behind)

-- the numbers below this one, ascending
abbrev pub numbers_below : ℕ → List ℕ
numbers_below zero = []
numbers_below (suc n) = numbers_below n ++ n ∷ []

-- these are the numbers below the count that aren't used, ascending
abbrev pub AreUnusedBelow : ℕ → List ℕ → List ℕ → Type 0
AreUnusedBelow count used those = AreThose (λ n. ¬ Contains used n) (numbers_below count) those
