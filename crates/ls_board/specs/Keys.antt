-- What the key store answers.
use Rattle.std.specs.Prelude.{◌≡◌, ℕ, List, [], Option, MatchOption}
use Rattle.std.specs.Ordering.{nat_cmp}
use Rattle.std.specs.FinMap.Entries.{find}
use Rattle.ls_gcm.specs.Gcm.{gcm_open}
use Rattle.ls_board.specs.declared.action.Answer.{Answer}
use Rattle.ls_board.specs.declared.action.Answer.TheVariants.{Bytes, NoKey, BadTag}

-- the key of an alias, if it has one
abbrev pub key_at : List (ℕ × List ℕ) → ℕ → Option (List ℕ)
key_at keys alias = find nat_cmp alias keys

-- The opened text, where the alias has a key and the text opens with it. A text of fewer than 28
-- bytes opens with none.
abbrev pub IsOpening : List (ℕ × List ℕ) → ℕ → List ℕ → Answer → List ℕ → Type 0
IsOpening keys alias sealed answer out =
    MatchOption (key_at keys alias) ((answer ≡ NoKey) × (out ≡ [])) (λ key.
    MatchOption (gcm_open key sealed) ((answer ≡ BadTag) × (out ≡ []))
    (λ text. (answer ≡ Bytes) × (out ≡ text)))
