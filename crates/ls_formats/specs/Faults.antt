-- What a fault of some bytes is, and what parsing them answers.
use Rattle.std.specs.Prelude.{◌≡◌, ◌≤◌, ◌<◌, ℕ, List, ◌++◌, length, take, Option, None, Some, Result, Ok, Err}
use Rattle.ls_formats.specs.declared.fault.FormatFault.{FormatFault}
use Rattle.ls_formats.specs.declared.fault.FormatFault.TheVariants.{Bad, Memory}

-- some bytes that go on so have P
abbrev pub Begins : (List ℕ → Type 0) → List ℕ → Type 0
Begins P front = (rest : List ℕ) × P (front ++ rest)

-- The bytes haven't P, and `at` is the first place at which no continuation has it: the bytes
-- before it begin some that have P, and no more of them do. Where all of them do, it is their end.
pub record IsFirstFault (P : List ℕ → Type 0) (bytes : List ℕ) (at : ℕ) : Type 0 where
  pub within : at ≤ length bytes
  pub before : Begins P (take at bytes)
  pub behind : (more : ℕ) → at < more → more ≤ length bytes → ¬ Begins P (take more bytes)
  pub outside : ¬ P bytes

-- the bytes are the spelling of a value that keeps its rules
abbrev pub Spells : {V : Type 0} → (V → Type 0) → (V → List ℕ) → List ℕ → Type 0
Spells {V} Keeps spelling bytes = (v : V) × Keeps v × (spelling v ≡ bytes)

-- What parsing answers: the one value with this spelling; or where there is none, the first place
-- at which no continuation is a spelling. It takes no memory.
abbrev pub Parses : {V : Type 0} → (V → Type 0) → (V → List ℕ) → List ℕ → Result V FormatFault → Type 0
Parses {V} Keeps spelling bytes (Ok v) =
    Keeps v × (spelling v ≡ bytes) × ((w : V) → Keeps w → spelling w ≡ bytes → w ≡ v)
Parses Keeps spelling bytes (Err (Bad at)) = IsFirstFault (Spells Keeps spelling) bytes at
Parses Keeps spelling bytes (Err Memory) = ⊥

-- the fault is this, where there is one
abbrev pub HasFault : {V : Type 0} → Result V FormatFault → Option ℕ → Type 0
HasFault (Ok v) fault = fault ≡ None
HasFault (Err (Bad at)) fault = fault ≡ Some at
HasFault (Err Memory) fault = ⊥
