-- What the code reads of one settings file.
use Rattle.std.specs.Prelude.{◌≡◌, ◌≢◌, ◌≤◌, ◌+◌, ⊤, ℕ, List, length, Option, Some, Result, Ok, Err}
use Rattle.ls_record.specs.Rows.{Rec}
use Rattle.ls_record.specs.declared.fault.RecordFault.{RecordFault}
use Rattle.ls_record.specs.declared.fault.RecordFault.TheVariants.{Memory as NoMemory}
use Rattle.ls_naming.specs.Current.{Settled, Foreign as ForeignAt, places_from, base_of, entry_places, entry_end, journal_end, format_of, end_behind, changed_at, changed_by, place_of}
use Rattle.ls_formats.specs.declared.side.Side.{Side}
use Rattle.ls_formats.specs.declared.side.Side.TheVariants.{First, Second}
use Rattle.ls_settings.specs.declared.fault.OpenRefusal.{OpenRefusal}
use Rattle.ls_settings.specs.declared.fault.OpenRefusal.TheVariants.{Foreign as Refused, Fault, Memory as Lacking}
use Rattle.ls_settings.specs.declared.journal.Walk.{Walk}
use Rattle.ls_settings.specs.declared.content.Content.{Content}
use Rattle.ls_settings.specs.declared.fault.FileFault.{FileFault}
use Rattle.ls_settings.specs.declared.fault.FileFault.TheVariants.{Foreign, Memory}

-- the fault stands at this place, unless memory ran out
abbrev pub TellsPlace : {A : Type 0} → Result A ℕ → FileFault → Type 0
TellsPlace says (Foreign at) = says ≡ Err at
TellsPlace says Memory = ⊤

-- the places of the open entries, from one on
abbrev pub rest_from : List ℕ → ℕ → List ℕ
rest_from bytes at = places_from (length bytes) bytes at

-- the fault of bytes that begin at a place, unless memory ran out
abbrev pub IsFaultBehind : ℕ → RecordFault → FileFault → Type 0
IsFaultBehind at fault (Foreign place) = (fault ≢ NoMemory) × (place ≡ at + place_of fault)
IsFaultBehind at fault Memory = ⊤

-- one entry was read, and the next place is behind it
pub record IsNext (bytes : List ℕ) (old new : Walk) : Type 0 where
  pub says : changed_at bytes old.at old.sequence old.record ≡ Ok new.record
  pub count : new.sequence ≡ old.sequence + 1
  pub behind : new.at ≡ entry_end bytes old.at
  pub small : new.at ≤ 4096

-- all open entries were read, and the last place is behind them
pub record IsWalked (bytes : List ℕ) (old new : Walk) : Type 0 where
  pub says : changed_by bytes (rest_from bytes old.at) old.sequence old.record ≡ Ok new.record
  pub count : new.sequence ≡ old.sequence + length (rest_from bytes old.at)
  pub ends : new.at ≡ end_behind bytes old.at (rest_from bytes old.at)

-- what was read of some bytes is what they say
pub record IsContent (bytes : List ℕ) (says : Result Rec ℕ) (c : Content) : Type 0 where
  pub says_record : says ≡ Ok c.record
  pub sequence : c.sequence ≡ base_of (Some bytes) + length (entry_places bytes)
  pub end : c.end ≡ journal_end bytes
  pub format : c.format ≡ format_of bytes

-- the current file is at fault there, unless memory ran out
abbrev pub TellsForeign : Result Settled ForeignAt → OpenRefusal → Type 0
TellsForeign says (Refused name at) = says ≡ Err (record { name = name; at = at })
TellsForeign says (Fault part) = ⊥
TellsForeign says Lacking = ⊤

-- the file of a side
abbrev pub file_of : Side → Option (List ℕ) → Option (List ℕ) → Option (List ℕ)
file_of First first second = first
file_of Second first second = second
