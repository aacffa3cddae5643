-- What is found for each element of a list, in its order.
use Rattle.std.specs.Prelude.{List, [], ◌∷◌, ◌++◌, Result, Ok, Err}

-- what comes next of what was found
abbrev pub next_by : {A B E : Type 0} → Result A E → (A → Result B E) → Result B E
next_by (Ok a) next = next a
next_by (Err e) next = Err e

-- what is found for each of these, or the first fault
abbrev pub each_of : {A B E : Type 0} → (A → Result B E) → List A → Result (List B) E
each_of look [] = Ok []
each_of look (a ∷ more) = next_by (look a) (λ b. next_by (each_of look more) (λ found. Ok (b ∷ found)))

-- the same, behind what was found before
abbrev pub found_behind : {B E : Type 0} → List B → Result (List B) E → Result (List B) E
found_behind before found = next_by found (λ more. Ok (before ++ more))
