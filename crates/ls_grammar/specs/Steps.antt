-- What a reader of the next word returns, as what reading gives.
use Rattle.std.specs.Prelude.{◌≡◌, ℕ, Result, Ok, Err}
use Rattle.ls_grammar.specs.declared.rest.Rest.{Rest}
use Rattle.ls_grammar.specs.declared.rest.Mismatch.{Mismatch}
use Rattle.ls_grammar.specs.Words.{Word, Field}
use Rattle.ls_grammar.specs.Reading.{Step, next}

-- a word, and what is left behind it
abbrev pub step : Word → Rest → Step
step word rest = record { word = word; at = rest.at; rest = rest.text.now }

-- a value, seen as what reading gives, or where the line leaves the grammar
abbrev pub AgreesAt : {X Y : Type 0} → (X → Y) → Result X Mismatch → Result Y ℕ → Type 0
AgreesAt view (Ok x) read = read ≡ Ok (view x)
AgreesAt view (Err mismatch) read = read ≡ Err mismatch.at

-- the next word of what is left, which the field lets stand there, and what is left behind it;
-- behind it the line needs so many bytes more
abbrev pub TakesWord : {X : Type 0}
    → (X → Word) → Field → ℕ → Rest → Result (X × Rest) Mismatch → Type 0
TakesWord view field more rest result =
    AgreesAt (λ x. step (view x.0) x.1) result (next field more rest.at rest.text.now)
