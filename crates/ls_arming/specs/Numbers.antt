-- Numbers of users, ascending.
use Rattle.std.specs.Prelude.{ℕ, ◌==◌, nat_lt, not, Bool, if◌then◌else◌, List, [], ◌∷◌, filter}
use Rattle.std.specs.List.{list_any}

-- this number is one of them
abbrev pub contains : List ℕ → ℕ → Bool
contains numbers n = list_any (λ m. m == n) numbers

-- the numbers and this one, ascending
abbrev pub with_number : List ℕ → ℕ → List ℕ
with_number [] n = n ∷ []
with_number (m ∷ numbers) n =
    if nat_lt m n then m ∷ with_number numbers n
    else if m == n then m ∷ numbers
    else n ∷ m ∷ numbers

-- the numbers and all of these, ascending
abbrev pub with_numbers : List ℕ → List ℕ → List ℕ
with_numbers numbers [] = numbers
with_numbers numbers (n ∷ more) = with_numbers (with_number numbers n) more

-- the numbers but this one
abbrev pub without_number : List ℕ → ℕ → List ℕ
without_number numbers n = filter (λ m. not (m == n)) numbers
