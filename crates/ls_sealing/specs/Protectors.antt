-- Protectors, and what a world holds of the parts of one.
use Rattle.std.specs.Prelude.{◌<◌, ◌^◌, ◌&&◌, not, nat_lt, bytes_eq, ℕ, Bool, false, if◌then◌else◌, List, length, drop, slice_get, Option, None, Some}
use Rattle.std.specs.List.{list_any}
use Rattle.std.specs.Option.{option_and_then}
use Rattle.byteorder.specs.Endian.{big_number}
use Rattle.ls_credential.specs.declared.kind.Kind.{Kind}
use Rattle.ls_formats.specs.declared.part.FilePart.{FilePart}
use Rattle.ls_formats.specs.declared.part.FilePart.TheVariants.{Weaver}
use Rattle.ls_formats.specs.Contents.{slot_bytes}
use Rattle.ls_formats.specs.PartNames.{part_name_text}
use Rattle.ls_naming.specs.Named.{has_credential, credential_parts, token_parts}
use Rattle.ls_naming.specs.Membership.{same_part}
use Rattle.ls_weaver.specs.declared.slot.Slot.{Slot}
use Rattle.ls_board.specs.declared.devices.Counter.{Counter}
use Rattle.ls_board.specs.declared.world.World.{World}
use Rattle.ls_board.specs.Effect.{file_at}
use Rattle.ls_board.specs.Gatekeeper.{no_fails, record_at}
use Rattle.ls_board.specs.Keys.{key_at}

-- A protector gives the secret for a user's credential, of this kind, or half of it for a token.
pub data Purpose : Type 0 where
  credential : Kind → Purpose
  token : Purpose

-- whose it is, its id, and what it is for
pub record Protector : Type 0 where
  pub user : ℕ
  pub id : ℕ
  pub purpose : Purpose

-- the numbers of the user and of the protector have their sizes, and the protector's isn't 0
pub record HasNumbers (p : Protector) : Type 0 where
  pub user : p.user < 2 ^ 32
  pub some : 0 < p.id
  pub id : p.id < 2 ^ 64

-- ---- what it consists of, on a board with Weaver or without

abbrev pub parts_for : Bool → Purpose → List FilePart
parts_for weaver (credential kind) = credential_parts weaver kind
parts_for weaver token = token_parts weaver

abbrev pub has_part : Bool → Purpose → FilePart → Bool
has_part weaver purpose part = list_any (same_part part) (parts_for weaver purpose)

-- the Gatekeeper has a record of its id: without Weaver, where there is a credential
abbrev pub is_enrolled : Bool → Purpose → Bool
is_enrolled weaver (credential kind) = not weaver && has_credential kind
is_enrolled weaver token = false

-- the name of its file of this part
abbrev pub file_name : Protector → FilePart → List ℕ
file_name p part = part_name_text (record { user = p.user; id = p.id; part = part })

-- ---- what a world holds of it

-- All that a world holds of a protector, and nothing else.
pub record Held : Type 0 where
  -- whether the board has Weaver
  pub weaver : Bool
  -- its files by their parts
  pub files : FilePart → Option (List ℕ)
  -- the slot that its `weaver` file names
  pub slot : Option Slot
  -- the Gatekeeper's record of its id, and the key under which the Gatekeeper signs
  pub counter : Option Counter
  pub device : List ℕ
  -- the key of its id in the key store
  pub key : Option (List ℕ)

-- a board has Weaver where it has slots
abbrev pub has_weaver : World → Bool
has_weaver w = nat_lt 0 (length w.slots)

-- the number of the slot that a `weaver` file names
abbrev pub slot_number : List ℕ → Option ℕ
slot_number file =
    let n = big_number 4 (drop 1 file) in
    if bytes_eq file (slot_bytes (record { slot = n })) then Some n else None

-- this, where the protector consists of it
abbrev pub where_it_has : {X : Type 0} → Bool → Option X → Option X
where_it_has has x = if has then x else None

-- the file of a part
abbrev pub held_file : World → Protector → FilePart → Option (List ℕ)
held_file w p part =
    where_it_has (has_part (has_weaver w) p.purpose part) (file_at w (file_name p part))

-- the number of its slot, if it has one
abbrev pub held_number : World → Protector → Option ℕ
held_number w p = option_and_then slot_number (held_file w p Weaver)

abbrev pub held : World → Protector → Held
held w p = record {
  weaver = has_weaver w;
  files = held_file w p;
  slot = option_and_then (slice_get w.slots) (held_number w p);
  counter = where_it_has (is_enrolled (has_weaver w) p.purpose) (record_at w.gk p.id);
  device = w.gk_key;
  key = key_at w.keys p.id;
}

-- nothing of a protector, on a board with this Gatekeeper's key
abbrev pub nothing_held : Bool → List ℕ → Held
nothing_held weaver device = record {
  weaver = weaver;
  files = λ part. None;
  slot = None;
  counter = None;
  device = device;
  key = None;
}

-- ---- its failures

abbrev pub slot_failures : Option Slot → Counter
slot_failures None = no_fails
slot_failures (Some slot) = record { fails = slot.fails; until = slot.until }

abbrev pub record_failures : Option Counter → Counter
record_failures None = no_fails
record_failures (Some counter) = counter

-- those of its slot, or without Weaver of its Gatekeeper record; where it has neither, none
abbrev pub failures : Held → Counter
failures h = if h.weaver then slot_failures h.slot else record_failures h.counter
