-- Which of the two settings files counts, and what it says.
--
-- A settings file has 4,096 bytes: a gate, a sequence number in 8 bytes, a length word in 4, a
-- record, a journal of changes, and bytes that nobody reads. The highest bit of the length word
-- says that there is a journal. An entry of the journal is a gate, a length in 4 bytes, and a
-- change. A gate is open where it is a5.
use Rattle.std.specs.Prelude.{◌≡◌, ◌==◌, ◌&&◌, ◌+◌, ◌-◌, ◌%◌, ◌^◌, not, min, nat_le, nat_lt, ℕ, zero, suc}
use Rattle.std.specs.Prelude.{Bool, true, false, if◌then◌else◌, List, [], ◌∷◌, length, take, drop}
use Rattle.std.specs.Prelude.{slice_index, Option, None, Some, Result, Ok, Err}
use Rattle.std.specs.List.{AllByRecursion}
use Rattle.byteorder.specs.Endian.{big_number}
use Rattle.ls_formats.specs.declared.side.Side.{Side}
use Rattle.ls_formats.specs.declared.side.Side.TheVariants.{First, Second}
use Rattle.ls_formats.specs.PartNames.{settings_text}
use Rattle.ls_record.specs.declared.fault.RecordFault.{RecordFault}
use Rattle.ls_record.specs.declared.fault.RecordFault.TheVariants.{Short, Order, Limit, Extra}
use Rattle.ls_record.specs.declared.fault.RecordFault.TheVariants.{Memory}
use Rattle.ls_record.specs.Rows.{Rec, rec}
use Rattle.ls_record.specs.Reading.{record_of}
use Rattle.ls_record.specs.EditReading.{edited_of}
use Rattle.ls_naming.specs.Named.{Files}

abbrev pub open_gate : ℕ
open_gate = 0xa5

-- ---- the head of a file

-- an absent file and an empty one aren't open
abbrev pub is_open : Option (List ℕ) → Bool
is_open None = false
is_open (Some []) = false
is_open (Some (gate ∷ rest)) = gate == open_gate

-- the sequence number in the head, 0 where it isn't there whole
abbrev pub base_of : Option (List ℕ) → ℕ
base_of None = 0
base_of (Some bytes) = if nat_lt (length bytes) 9 then 0 else big_number 8 (drop 1 bytes)

-- the open file with the greater sequence number in its head, the first at a tie
abbrev pub current_side : Option (List ℕ) → Option (List ℕ) → Option Side
current_side first second =
    if not (is_open first) then (if is_open second then Some Second else None)
    else if is_open second && nat_lt (base_of first) (base_of second) then Some Second
    else Some First

abbrev pub length_word : List ℕ → ℕ
length_word bytes = big_number 4 (drop 9 bytes)

abbrev pub body_length : List ℕ → ℕ
body_length bytes = length_word bytes % 2 ^ 31

abbrev pub has_journal : List ℕ → Bool
has_journal bytes = nat_le (2 ^ 31) (length_word bytes)

abbrev pub body_of : List ℕ → List ℕ
body_of bytes = take (body_length bytes) (drop 13 bytes)

-- the first byte of the body
abbrev pub format_of : List ℕ → ℕ
format_of bytes = slice_index bytes 13

-- ---- the journal

-- where it begins
abbrev pub journal_start : List ℕ → ℕ
journal_start bytes = 13 + body_length bytes

-- an open entry stands at the place
abbrev pub stands_at : List ℕ → ℕ → Bool
stands_at bytes at = nat_lt at (length bytes) && (slice_index bytes at == open_gate)

-- the length of its change
abbrev pub entry_length : List ℕ → ℕ → ℕ
entry_length bytes at = big_number 4 (drop (at + 1) bytes)

abbrev pub entry_change : List ℕ → ℕ → List ℕ
entry_change bytes at = take (entry_length bytes at) (drop (at + 5) bytes)

-- behind it
abbrev pub entry_end : List ℕ → ℕ → ℕ
entry_end bytes at = at + 5 + entry_length bytes at

-- its length and its change fit into the file
abbrev pub entry_fits : List ℕ → ℕ → Bool
entry_fits bytes at = nat_le (at + 5) (length bytes) && nat_le (entry_end bytes at) (length bytes)

-- The places of the open entries, from one on, each behind the one before. There are fewer than
-- the file has bytes. Gates and length words alone say them.
unfoldable pub places_from : ℕ → List ℕ → ℕ → List ℕ
places_from zero bytes at = []
places_from (suc most) bytes at =
    if stands_at bytes at then at ∷ places_from most bytes (entry_end bytes at) else []

abbrev pub entry_places : List ℕ → List ℕ
entry_places bytes =
    if has_journal bytes then places_from (length bytes) bytes (journal_start bytes) else []

-- behind the last of these entries
abbrev pub end_behind : List ℕ → ℕ → List ℕ → ℕ
end_behind bytes at [] = at
end_behind bytes at (p ∷ places) = end_behind bytes (entry_end bytes p) places

-- where the journal ends, if there is one
abbrev pub journal_end : List ℕ → Option ℕ
journal_end bytes =
    if has_journal bytes then Some (end_behind bytes (journal_start bytes) (entry_places bytes))
    else None

-- a gate and a length word are the same in two files
pub record SameEntry (old new : List ℕ) (at : ℕ) : Type 0 where
  pub gate : stands_at new at ≡ stands_at old at
  pub long : entry_length new at ≡ entry_length old at

-- The length words in the heads are the same, and those of the open entries; so are the gates of
-- these entries, and what stands behind the last of them.
pub record SameEntries (old new : List ℕ) : Type 0 where
  pub long : length new ≡ length old
  pub word : length_word new ≡ length_word old
  pub entries : AllByRecursion (SameEntry old new) (entry_places old)
  pub behind :
      let end = end_behind old (journal_start old) (entry_places old) in
      stands_at new end ≡ stands_at old end

-- Behind the last open entry the new file has one more: its gate is open, and the next one closed.
pub record OpensEntry (old new : List ℕ) : Type 0 where
  pub journal : has_journal old ≡ true
  pub long : length new ≡ length old
  pub word : length_word new ≡ length_word old
  pub entries : AllByRecursion (SameEntry old new) (entry_places old)
  pub opened :
      stands_at new (end_behind old (journal_start old) (entry_places old)) ≡ true
  pub closed :
      stands_at new (entry_end new (end_behind old (journal_start old) (entry_places old))) ≡ false

-- a change is the same in two files
pub record SameChange (old new : List ℕ) (at : ℕ) : Type 0 where
  pub fits : entry_fits new at ≡ entry_fits old at
  pub change : entry_change new at ≡ entry_change old at

-- ---- the record, and the first fault from left to right

-- the place of a fault
abbrev pub place_of : RecordFault → ℕ
place_of (Short at) = at
place_of (Order at) = at
place_of (Limit at) = at
place_of (Extra at) = at
place_of Memory = 0

-- a value, or the fault of some bytes from a place on
abbrev pub found_at : {A : Type 0} → ℕ → Result A RecordFault → Result A ℕ
found_at at (Ok v) = Ok v
found_at at (Err f) = Err (at + place_of f)

abbrev pub and_then : {A B : Type 0} → Result A ℕ → (A → Result B ℕ) → Result B ℕ
and_then (Ok v) next = next v
and_then (Err at) next = Err at

abbrev pub last_sequence : ℕ
last_sequence = 2 ^ 64 - 1

-- the record with the change of the entry at the place, behind a sequence number
abbrev pub changed_at : List ℕ → ℕ → ℕ → Rec → Result Rec ℕ
changed_at bytes at sequence r =
    if sequence == last_sequence then Err at
    else if not (entry_fits bytes at) then Err (at + 1)
    else found_at (at + 5) (edited_of (format_of bytes) r (entry_change bytes at))

-- the record with the changes of these entries, one after another
abbrev pub changed_by : List ℕ → List ℕ → ℕ → Rec → Result Rec ℕ
changed_by bytes [] sequence r = Ok r
changed_by bytes (at ∷ places) sequence r =
    and_then (changed_at bytes at sequence r) (λ next. changed_by bytes places (sequence + 1) next)

-- the record in the body
abbrev pub body_says : List ℕ → Result Rec ℕ
body_says bytes =
    if nat_lt 4083 (body_length bytes) then Err 9 else found_at 13 (record_of (body_of bytes))

-- a file has 4,096 bytes
abbrev pub whole_says : ℕ → Rec → Result Rec ℕ
whole_says n r = if n == 4096 then Ok r else Err (min n 4096)

-- what a file says from its head on, where that is there
abbrev pub front_says : List ℕ → Result Rec ℕ
front_says bytes =
    and_then (body_says bytes) (changed_by bytes (entry_places bytes) (base_of (Some bytes)))

-- the record of a file, or the first fault
abbrev pub file_says : List ℕ → Result Rec ℕ
file_says bytes =
    if nat_lt (length bytes) 13 then Err (length bytes)
    else and_then (front_says (take 4096 bytes)) (whole_says (length bytes))

-- ---- the settings

-- The record; its sequence number, which is that of the head and the number of open entries; the
-- file that says it; where the journal ends, if there is one; and the format of the body.
pub record Settled : Type 0 where
  pub rec : Rec
  pub sequence : ℕ
  pub side : Option Side
  pub end : Option ℕ
  pub format : ℕ

-- no file says anything
abbrev pub unsettled : Settled
unsettled = record { rec = rec [] None; sequence = 0; side = None; end = None; format = 2 }

abbrev pub settled : Side → List ℕ → Rec → Settled
settled side bytes r = record {
  rec = r;
  sequence = base_of (Some bytes) + length (entry_places bytes);
  side = Some side;
  end = journal_end bytes;
  format = format_of bytes;
}

-- a name and a place in its file
pub record Foreign : Type 0 where
  pub name : List ℕ
  pub at : ℕ

abbrev pub settled_in : Side → List ℕ → Result Rec ℕ → Result Settled Foreign
settled_in side bytes (Ok r) = Ok (settled side bytes r)
settled_in side bytes (Err at) = Err (record { name = settings_text side; at = at })

abbrev pub side_says : Side → Option (List ℕ) → Result Settled Foreign
side_says side None = Ok unsettled
side_says side (Some bytes) = settled_in side bytes (file_says bytes)

abbrev pub said_by : Option (List ℕ) → Option (List ℕ) → Option Side → Result Settled Foreign
said_by first second None = Ok unsettled
said_by first second (Some First) = side_says First first
said_by first second (Some Second) = side_says Second second

-- what two settings files say, or the first fault of the one that counts
abbrev pub settings_of : Option (List ℕ) → Option (List ℕ) → Result Settled Foreign
settings_of first second = said_by first second (current_side first second)

-- the current settings among files
abbrev pub current : Files → Result Settled Foreign
current files = settings_of (files (settings_text First)) (files (settings_text Second))
