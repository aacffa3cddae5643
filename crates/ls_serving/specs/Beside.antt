-- The actions that may be done beside a service, which stays as it is.
use Rattle.std.specs.Prelude.{◌≡◌, ◌⊎◌, ℕ, List}
use Rattle.ls_board.specs.declared.action.Action.{Action}
use Rattle.ls_board.specs.declared.action.Action.TheVariants.{Draw}
use Rattle.ls_board.specs.Reach.{Reach, TouchesOnly}
use Rattle.ls_serving.specs.Calls.{IsOuter}

-- these files, and nothing else
abbrev pub only_files : (List ℕ → Type 0) → Reach
only_files files = record { files = files; slots = λ slot. ⊥; sids = λ sid. ⊥; aliases = λ alias. ⊥; cell = ⊥ }

-- Those of the loop, a drawing of noise, and those that only read or change these files.
abbrev pub IsBeside : (List ℕ → Type 0) → Action → Type 0
IsBeside files a = IsOuter a ⊎ (((len : ℕ) × (a ≡ Draw len)) ⊎ TouchesOnly (only_files files) a)
