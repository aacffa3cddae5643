use Rattle.std.proofs.Common.{◌≡◌, ◌++◌, List, ℕ, length, take, drop}
use Rattle.std.specs.List.{AllByRecursion, flat_map}
use Rattle.ls_weaver.specs.declared.slot.Slot.{Slot}
use Rattle.ls_secure.specs.Secure.{IsSlot, slot_bytes}
use Rattle.ls_secure.proofs.reading.slot_rows.Given as goal

-- so many slots were read, and they are the first of all that the bytes are
abbrev pub invariant-loop : goal.invariant-loop
invariant-loop l = record {
  count : length l.slots ≡ l.counter;
  gave : (ys : List Slot) (rest : List ℕ) → length ys ≡ l.count → AllByRecursion IsSlot ys → l.fn.reader.left ≡ flat_map slot_bytes ys ++ rest → (l.slots ≡ take l.counter ys) × (l.reader.left ≡ flat_map slot_bytes (drop l.counter ys) ++ rest);
}
