-- What the contents of protector files say, and the one spelling of each.
use Rattle.std.specs.Prelude.{◌≡◌, ◌≢◌, ◌≤◌, ◌<◌, ◌^◌, ℕ, List, [], ◌∷◌, ◌++◌, length, slice_index, take, drop, if◌then◌else◌, ◌==◌, unwrap_or, Option, None, Some, IfSome}
use Rattle.ls_bytes.specs.Fields.{be32}
use Rattle.ls_credential.specs.declared.kind.Kind.{Kind}
use Rattle.ls_credential.specs.declared.kind.Kind.TheVariants.{Empty}
use Rattle.ls_credential.specs.Codes.{code_of, kind_of}
use Rattle.ls_credential.specs.Counts.{KindAndCounts, IsSmall}
use Rattle.ls_formats.specs.declared.slot.SlotFile.{SlotFile}
use Rattle.ls_formats.specs.declared.handle.HandleFile.{HandleFile}

-- so many bytes
pub record AreBytes (n : ℕ) (bytes : List ℕ) : Type 0 where
  pub long : length bytes ≡ n
  pub each : (i : ℕ) → slice_index bytes i < 256

-- ---- the slot of a protector

abbrev pub IsSlot : SlotFile → Type 0
IsSlot file = file.slot < 2 ^ 32

-- the version 01, and the slot
abbrev pub slot_bytes : SlotFile → List ℕ
slot_bytes file = 1 ∷ be32 file.slot

-- ---- the handle of a user

abbrev pub IsHandle : HandleFile → Type 0
IsHandle file = AreBytes 49 file.handle

-- nothing beside it
abbrev pub handle_bytes : HandleFile → List ℕ
handle_bytes file = file.handle

-- ---- a credential's kind, cost, salt and handle

pub record Pwd : Type 0 where
  pub kind : Kind
  pub log_n : ℕ
  pub log_r : ℕ
  pub log_p : ℕ
  pub salt : List ℕ
  pub handle : Option (List ℕ)

abbrev pub pwd : Kind → ℕ → ℕ → ℕ → List ℕ → Option (List ℕ) → Pwd
pwd kind log_n log_r log_p salt handle = record { kind = kind; log_n = log_n; log_r = log_r; log_p = log_p; salt = salt; handle = handle }

pub record IsPwd (p : Pwd) : Type 0 where
  pub kind : p.kind ≢ Empty
  pub log_n : (1 ≤ p.log_n) × (p.log_n ≤ 14)
  pub log_r : p.log_r ≤ 4
  pub log_p : p.log_p ≤ 3
  pub salt : AreBytes 16 p.salt
  pub handle : IfSome p.handle (AreBytes 49)

-- the length of the handle, and the handle
abbrev pub handle_part : Option (List ℕ) → List ℕ
handle_part None = 0 ∷ []
handle_part (Some handle) = 49 ∷ handle

abbrev pub pwd_bytes : Pwd → List ℕ
pwd_bytes p = code_of p.kind ∷ p.log_n ∷ p.log_r ∷ p.log_p ∷ (p.salt ++ handle_part p.handle)

-- ---- what is counted of a credential

-- of a credential that isn't none
pub record AreMetrics (m : KindAndCounts) : Type 0 where
  pub kind : m.kind ≢ Empty
  pub small : IsSmall m

abbrev pub metrics_bytes : KindAndCounts → List ℕ
metrics_bytes m =
    code_of m.kind ∷ m.length ∷ m.letters ∷ m.upper ∷ m.lower ∷ m.numeric ∷ m.symbols ∷ m.non_letter ∷ m.non_numeric ∷ m.run ∷ []

-- ---- what stands in each place, for the code that reads bytes of a format

abbrev pub pwd_of : List ℕ → Pwd
pwd_of bytes = record {
  kind = unwrap_or (kind_of (slice_index bytes 0)) Empty;
  log_n = slice_index bytes 1;
  log_r = slice_index bytes 2;
  log_p = slice_index bytes 3;
  salt = take 16 (drop 4 bytes);
  handle = if slice_index bytes 20 == 0 then None else Some (take 49 (drop 21 bytes));
}

abbrev pub metrics_of : List ℕ → KindAndCounts
metrics_of bytes = record {
  kind = unwrap_or (kind_of (slice_index bytes 0)) Empty;
  length = slice_index bytes 1;
  letters = slice_index bytes 2;
  upper = slice_index bytes 3;
  lower = slice_index bytes 4;
  numeric = slice_index bytes 5;
  symbols = slice_index bytes 6;
  non_letter = slice_index bytes 7;
  non_numeric = slice_index bytes 8;
  run = slice_index bytes 9;
}
