-- Actions that take away, and what they leave.
use Rattle.std.specs.Prelude.{◌≡◌, ◌≢◌, ◌⊎◌, ◌<◌, ◌↔◌, ◌++◌, ℕ, Bool, true, IsTrue, List, [], ◌∷◌, length, map, replicate, None, Some}
use Rattle.std.specs.List.{Contains}
use Rattle.ls_formats.specs.declared.part.FilePart.{FilePart}
use Rattle.ls_formats.specs.PartNames.{PartOf, IsPartOf, part_name_text}
use Rattle.ls_record.specs.declared.row.UserRow.{UserRow}
use Rattle.ls_record.specs.Rows.{Rec}
use Rattle.ls_naming.specs.Named.{only_if, has_secure, user_parts, NamesFile, NamesSlot, NamesKey, NamesEnrolled}
use Rattle.ls_weaver.specs.Slots.{blank_slot, written}
use Rattle.ls_board.specs.declared.action.Action.{Action}
use Rattle.ls_board.specs.declared.action.Action.TheVariants.{List as ListNames, Read, Make, Put, Poke, Remove, Sync, WeaverWrite, WeaverRead, GkSign, GkEnroll, GkVerify, GkForget, GkList, KeyPut, KeyOpen, KeyDrop, KeyList, ResumeStore, ResumeTake, Hear, Say, Now, Draw}
use Rattle.ls_board.specs.declared.world.World.{World}
use Rattle.ls_board.specs.Effect.{file_at, slot_at, after}
use Rattle.ls_board.specs.Gatekeeper.{record_at}
use Rattle.ls_board.specs.Keys.{key_at}
use Rattle.ls_board.specs.Reach.{Reach, TouchesOnly}
use Rattle.ls_sealing.specs.Protectors.{Protector, has_weaver, parts_for, file_name, is_enrolled, held_number}
use Rattle.ls_standing.specs.Bare.{named_by}
use Rattle.ls_standing.specs.NamedProtectors.{NamesProtector}
use Rattle.ls_standing.specs.Quiet.{IsQuiet}

-- The action takes a file of a user or a protector away, blanks a slot, drops a key, forgets a
-- Gatekeeper record or empties the cell, or it changes nothing that is stored.
abbrev pub TakesAway : Action → Type 0
TakesAway ListNames = Unit {0}
TakesAway (Read n) = Unit {0}
TakesAway (Make n len) = ⊥
TakesAway (Put n bytes) = ⊥
TakesAway (Poke n at bytes) = ⊥
TakesAway (Remove n) = (name : PartOf) × IsPartOf name × (n ≡ part_name_text name)
TakesAway Sync = Unit {0}
TakesAway (WeaverWrite slot key value) = written key value ≡ blank_slot
TakesAway (WeaverRead slot key moment) = ⊥
TakesAway (GkSign sid salt password) = Unit {0}
TakesAway (GkEnroll sid) = ⊥
TakesAway (GkVerify handle password moment) = ⊥
TakesAway (GkForget sid) = Unit {0}
TakesAway GkList = Unit {0}
TakesAway (KeyPut alias key) = ⊥
TakesAway (KeyOpen alias bytes) = Unit {0}
TakesAway (KeyDrop alias) = Unit {0}
TakesAway KeyList = Unit {0}
TakesAway (ResumeStore key) = ⊥
TakesAway ResumeTake = Unit {0}
TakesAway (Hear max) = Unit {0}
TakesAway (Say bytes) = Unit {0}
TakesAway Now = Unit {0}
TakesAway (Draw len) = Unit {0}

-- and so does each of these
abbrev pub AllTakeAway : List Action → Type 0
AllTakeAway [] = Unit {0}
AllTakeAway (a ∷ actions) = TakesAway a × AllTakeAway actions

-- a slot is written with zeros
abbrev pub blank_write : ℕ → Action
blank_write slot = WeaverWrite slot (replicate 16 0) (replicate 16 0)

-- The actions only take away, and each thing but those that are left isn't there, or is taken away by
-- one of them.
pub record Clears (w : World) (plan : List Action) (less : Reach) : Type 0 where
  pub away : AllTakeAway plan
  pub files : (name : PartOf) → IsPartOf name → ¬ (less.files (part_name_text name))
      → (file_at w (part_name_text name) ≡ None) ⊎ Contains plan (Remove (part_name_text name))
  pub slots : (slot : ℕ) → slot < length w.slots → ¬ (less.slots slot)
      → (slot_at w slot ≡ blank_slot) ⊎ Contains plan (blank_write slot)
  pub counters : (sid : ℕ) → ¬ (less.sids sid)
      → (record_at w.gk sid ≡ None) ⊎ Contains plan (GkForget sid)
  pub keys : (alias : ℕ) → ¬ (less.aliases alias)
      → (key_at w.keys alias ≡ None) ⊎ Contains plan (KeyDrop alias)
  pub cell : ¬ less.cell → (w.cell ≡ None) ⊎ Contains plan ResumeTake

-- the slots, Gatekeeper records, keys and cell that the record names
abbrev pub named_devices : World → Rec → Reach
named_devices w r = record (named_by w r []) { files = λ n. ⊥ }

-- The action takes away what isn't named, changes nothing that is stored, or meets devices in what
-- is named there.
abbrev pub AddsNothing : World → Rec → Action → Type 0
AddsNothing w r a = (TakesAway a × IsQuiet w r a) ⊎ TouchesOnly (named_devices w r) a

-- and so does each of these in its turn
abbrev pub AllAddNothing : World → Rec → List Action → Type 0
AllAddNothing w r [] = Unit {0}
AllAddNothing w r (a ∷ actions) = AddsNothing w r a × AllAddNothing (after w a 0) r actions

-- Each thing that the old record named in the old world, and each file that was retired, is named
-- by the next record, is retired, or is taken away by one of these actions, which only take away.
pub record Retires (w : World) (r : Rec) (old : List (List ℕ)) (mid : World) (next : Rec)
    (new : List (List ℕ)) (plan : List Action) : Type 0 where
  pub away : AllTakeAway plan
  pub files : (name : PartOf) → IsPartOf name
      → NamesFile (has_weaver w) r name ⊎ Contains old (part_name_text name)
      → NamesFile (has_weaver mid) next name
      ⊎ (Contains new (part_name_text name) ⊎ Contains plan (Remove (part_name_text name)))
  pub slots : (slot : ℕ) → NamesSlot (has_weaver w) r (file_at w) slot
      → NamesSlot (has_weaver mid) next (file_at mid) slot ⊎ Contains plan (blank_write slot)
  pub counters : (sid : ℕ) → NamesEnrolled (has_weaver w) r sid
      → NamesEnrolled (has_weaver mid) next sid ⊎ Contains plan (GkForget sid)
  pub keys : (alias : ℕ) → NamesKey r alias
      → NamesKey next alias ⊎ Contains plan (KeyDrop alias)
  pub cell : ¬ (r.armed ≡ None) → next.armed ≡ None → Contains plan ResumeTake

-- ---- a sweep

-- what takes away these files, slots, Gatekeeper records and keys, and empties the cell
abbrev pub sweeping : List (List ℕ) → List ℕ → List ℕ → List ℕ → Bool → List Action
sweeping names slots sids aliases cell =
    map Remove names ++ (map blank_write slots ++ (map GkForget sids
    ++ (map KeyDrop aliases ++ (only_if cell (ResumeTake ∷ []) ++ Sync ∷ []))))

-- These are all that the record doesn't name: the files of users and protectors that are there, the
-- slots of the board, the Gatekeeper records and the keys that are there, and the cell where no
-- arming is named.
pub record AreLeftovers (w : World) (r : Rec) (names : List (List ℕ))
    (slots sids aliases : List ℕ) (cell : Bool) : Type 0 where
  pub grammar : (n : List ℕ) → Contains names n
      → (name : PartOf) × IsPartOf name × (n ≡ part_name_text name)
  pub files : (name : PartOf) → IsPartOf name
      → Contains names (part_name_text name)
      ↔ ((¬ (NamesFile (has_weaver w) r name)) × (¬ (file_at w (part_name_text name) ≡ None)))
  pub blanks : (slot : ℕ) → Contains slots slot
      ↔ ((slot < length w.slots) × (¬ (NamesSlot (has_weaver w) r (file_at w) slot)))
  pub counters : (sid : ℕ) → Contains sids sid
      ↔ ((¬ (NamesEnrolled (has_weaver w) r sid)) × (¬ (record_at w.gk sid ≡ None)))
  pub keys : (alias : ℕ) → Contains aliases alias
      ↔ ((¬ (NamesKey r alias)) × (¬ (key_at w.keys alias ≡ None)))
  pub taking : IsTrue cell ↔ (r.armed ≡ None)

-- a name of a file of a user or a protector that the record doesn't name
pub record IsLeftName (w : World) (r : Rec) (n : List ℕ) : Type 0 where
  pub name : PartOf
  pub part : IsPartOf name
  pub spelled : n ≡ part_name_text name
  pub unnamed : ¬ (NamesFile (has_weaver w) r name)

-- These are what is listed and isn't named, the slots that aren't named, and the cell where no
-- arming is named.
pub record AreListedLeftovers (w : World) (r : Rec) (names : List (List ℕ))
    (slots sids aliases : List ℕ) (cell : Bool) : Type 0 where
  pub files : (n : List ℕ) → Contains names n
      ↔ (Contains (map (λ file. file.0) w.files) n × IsLeftName w r n)
  pub blanks : (slot : ℕ) → Contains slots slot
      ↔ ((slot < length w.slots) × (¬ (NamesSlot (has_weaver w) r (file_at w) slot)))
  pub counters : (sid : ℕ) → Contains sids sid
      ↔ (Contains (map (λ row. row.0) w.gk) sid × (¬ (NamesEnrolled (has_weaver w) r sid)))
  pub keys : (alias : ℕ) → Contains aliases alias
      ↔ (Contains (map (λ row. row.0) w.keys) alias × (¬ (NamesKey r alias)))
  pub taking : IsTrue cell ↔ (r.armed ≡ None)

-- ---- protectors that are let go

-- Each protector that the old record names is named by the next one, with the same slot, or is one of
-- these, whose parts of devices are taken away and whose files are retired or removed. Each secure id,
-- each file of a user itself, each file that was retired, and the arming is named still, or is gone.
pub record LetsGo (w : World) (r : Rec) (old : List (List ℕ)) (mid : World) (next : Rec)
    (new : List (List ℕ)) (gone : List Protector) (plan : List Action) : Type 0 where
  pub away : AllTakeAway plan
  pub each : (p : Protector) → NamesProtector r p
      → (NamesProtector next p × (held_number mid p ≡ held_number w p)) ⊎ Contains gone p
  pub slots : (p : Protector) → Contains gone p → (slot : ℕ) → held_number w p ≡ Some slot
      → Contains plan (blank_write slot)
  pub keys : (p : Protector) → Contains gone p → Contains plan (KeyDrop p.id)
  pub counters : (p : Protector) → Contains gone p → is_enrolled (has_weaver w) p.purpose ≡ true
      → Contains plan (GkForget p.id)
  pub secure : (row : UserRow) → Contains r.users row → has_secure row ≡ true
      → NamesEnrolled (has_weaver mid) next row.secure ⊎ Contains plan (GkForget row.secure)
  pub armed : ¬ (r.armed ≡ None)
      → (next.armed ≢ None) ⊎ (Contains plan ResumeTake × Contains plan (KeyDrop 0))
  pub files : (p : Protector) → Contains gone p → (part : FilePart)
      → Contains (parts_for (has_weaver w) p.purpose) part
      → Contains new (file_name p part) ⊎ Contains plan (Remove (file_name p part))
  pub own : (row : UserRow) → Contains r.users row → (part : FilePart)
      → Contains (user_parts r.armed row) part
      → let name : PartOf = record { user = row.user; id = 0; part = part } in
      NamesFile (has_weaver mid) next name
      ⊎ (Contains new (part_name_text name) ⊎ Contains plan (Remove (part_name_text name)))
  pub retired : (n : List ℕ) → Contains old n → Contains new n ⊎ Contains plan (Remove n)
