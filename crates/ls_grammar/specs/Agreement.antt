-- What a reader of one word returns, as what reading gives.
use Rattle.std.specs.Prelude.{◌≡◌, ℕ, Result, Ok, Err}
use Rattle.ls_grammar.specs.Words.{Word}

-- a value, seen as a word, or a count
abbrev pub Agrees : {X : Type 0} → (X → Word) → Result X ℕ → Result Word ℕ → Type 0
Agrees view (Ok x) read = read ≡ Ok (view x)
Agrees view (Err n) read = read ≡ Err n
