-- Slots, and what reading and writing does to one.
use Rattle.std.specs.Prelude.{◌-◌, ℕ, Bool, nat_lt, nat_eq, if◌then◌else◌, List, replicate}
use Rattle.std.specs.Cmp.Lexicographic.{pointwise}
use Rattle.ls_weaver.specs.declared.slot.Slot.{Slot}
use Rattle.ls_weaver.specs.declared.slot.SlotRead.{SlotRead}
use Rattle.ls_weaver.specs.declared.slot.SlotRead.TheVariants.{Value, Wrong, Throttled}
use Rattle.ls_weaver.specs.Throttle.{timeout, more_fails, rest_until}

-- a slot that nothing was written to
abbrev pub blank_slot : Slot
blank_slot = record { key = replicate 16 0; value = replicate 16 0; fails = 0; until = 0 }

-- a slot with this key and value, and no failures
abbrev pub written : List ℕ → List ℕ → Slot
written key value = record { key = key; value = value; fails = 0; until = 0 }

-- whether two keys have the same bytes
abbrev pub same_key : List ℕ → List ℕ → Bool
same_key = pointwise nat_eq

-- The slot after a reading with this key at this moment. While it rests nothing changes; its key
-- clears the failures; another key is one failure more.
abbrev pub slot_after : Slot → List ℕ → ℕ → Slot
slot_after s key moment =
    if nat_lt moment s.until then s
    else if same_key s.key key then written s.key s.value
    else record s { fails = more_fails s.fails; until = rest_until moment (more_fails s.fails) }

-- what the reading answers: the rest of its rest, its value, or how long it rests now
abbrev pub slot_answer : Slot → List ℕ → ℕ → SlotRead
slot_answer s key moment =
    if nat_lt moment s.until then Throttled (s.until - moment)
    else if same_key s.key key then Value s.value
    else Wrong (timeout (more_fails s.fails))
