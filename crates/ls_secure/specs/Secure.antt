-- What the devices of a directory keep, and the one spelling of it as a secure file.
use Rattle.std.specs.Prelude.{◌≡◌, ◌≤◌, ◌<◌, ◌^◌, ◌++◌, ◌∷◌, [], ℕ, List, length, Option, None, Some, IfSome}
use Rattle.std.specs.List.{AllByRecursion, flat_map}
use Rattle.std.specs.Ordering.{nat_cmp}
use Rattle.sha2.specs.Sha256.{sha256}
use Rattle.ls_bytes.specs.Fields.{be32, be64}
use Rattle.ls_weaver.specs.declared.slot.Slot.{Slot}
use Rattle.ls_board.specs.declared.devices.Counter.{Counter}
use Rattle.ls_board.specs.Order.{IsTable}

-- ---- what is kept

-- the slots, the key under which the Gatekeeper signs, its records by their ids, the keys by their
-- aliases, and the resume cell
pub record Kept : Type 0 where
  pub slots : List Slot
  pub gk_key : List ℕ
  pub records : List (ℕ × Counter)
  pub keys : List (ℕ × List ℕ)
  pub cell : Option (List ℕ)

-- what a secure file says: its sequence number, and what the devices keep
pub record Image : Type 0 where
  pub sequence : ℕ
  pub kept : Kept

-- each field of a slot has its size
pub record IsSlot (s : Slot) : Type 0 where
  pub key : length s.key ≡ 16
  pub value : length s.value ≡ 16
  pub fails : s.fails < 2 ^ 32
  pub until : s.until < 2 ^ 64

-- and each of a Gatekeeper's record
pub record IsRecordRow (r : ℕ × Counter) : Type 0 where
  pub sid : r.0 < 2 ^ 64
  pub fails : r.1.fails < 2 ^ 32
  pub until : r.1.until < 2 ^ 64

-- and each of a key
pub record IsKeyRow (r : ℕ × List ℕ) : Type 0 where
  pub alias : r.0 < 2 ^ 64
  pub key : length r.1 ≡ 32

-- there are at most 256 slots, each table stands in its order and is counted by 32 bits, and each field
-- has its size
pub record IsKept (k : Kept) : Type 0 where
  pub few : length k.slots ≤ 256
  pub slots : AllByRecursion IsSlot k.slots
  pub gk_key : length k.gk_key ≡ 32
  pub records : AllByRecursion IsRecordRow k.records
  pub record_table : IsTable nat_cmp k.records
  pub keys : AllByRecursion IsKeyRow k.keys
  pub key_table : IsTable nat_cmp k.keys
  pub cell : IfSome k.cell (λ key. length key ≡ 32)

-- ---- its spelling

abbrev pub slot_bytes : Slot → List ℕ
slot_bytes s = s.key ++ s.value ++ be32 s.fails ++ be64 s.until

abbrev pub record_bytes : ℕ × Counter → List ℕ
record_bytes r = be64 r.0 ++ be32 r.1.fails ++ be64 r.1.until

abbrev pub key_bytes : ℕ × List ℕ → List ℕ
key_bytes r = be64 r.0 ++ r.1

abbrev pub cell_bytes : Option (List ℕ) → List ℕ
cell_bytes None = 0 ∷ []
cell_bytes (Some key) = 1 ∷ key

-- how many rows there are, and each of them
abbrev pub slots_part : List Slot → List ℕ
slots_part slots = be32 (length slots) ++ flat_map slot_bytes slots

abbrev pub records_part : List (ℕ × Counter) → List ℕ
records_part records = be32 (length records) ++ flat_map record_bytes records

abbrev pub keys_part : List (ℕ × List ℕ) → List ℕ
keys_part keys = be32 (length keys) ++ flat_map key_bytes keys

-- what is kept
abbrev pub body : Kept → List ℕ
body k =
    slots_part k.slots ++ k.gk_key ++ records_part k.records ++ keys_part k.keys ++ cell_bytes k.cell

-- all of the file but its digest
abbrev pub front : Image → List ℕ
front i = be64 i.sequence ++ body i.kept

-- bytes with their digest behind them
unfoldable pub closed : List ℕ → List ℕ
closed bytes = bytes ++ sha256 bytes

-- the whole file
abbrev pub spelling : Image → List ℕ
spelling i = closed (front i)

-- The bytes are those of a secure file of fewer than 2^31 bytes, which says this.
pub record IsFileOf (i : Image) (bytes : List ℕ) : Type 0 where
  pub sequence : i.sequence < 2 ^ 64
  pub kept : IsKept i.kept
  pub short : length bytes < 2 ^ 31
  pub is : bytes ≡ spelling i
