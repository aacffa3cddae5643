-- Slots that are read of files, one after another, and that they are those that a record names.
use Rattle.std.proofs.Common.{◌≡◌, ◌⊎◌, inl, inr, ◌≤◌, ◌++◌, ◌-◌, ℕ, Bool, true, false, IsTrue, List, [], ◌∷◌, Option, Some, None, length, get_or, take, drop, Result, Ok, append_assoc, refl, sym, ap, subst, ◌∙◌, arith}
use Rattle.std.specs.Prelude.{nat_lt, unwrap_or}
use Rattle.std.specs.List.{flat_map, Contains}
use Rattle.std.proofs.lemmas.List.{append-nil, take_all}
use Rattle.std.proofs.lemmas.Grind.{flat_map-append}
use Rattle.ls_arming.specs.declared.arming.Arming.{Arming}
use Rattle.ls_formats.specs.declared.part.FilePart.{FilePart}
use Rattle.ls_formats.specs.declared.part.FilePart.TheVariants.{SpBlob, Pwd, Secdis, Weaver, Metrics, Handle, E0, P1, Resume}
use Rattle.ls_formats.specs.PartNames.{PartOf, part_name_text}
use Rattle.ls_record.specs.declared.row.UserRow.{UserRow}
use Rattle.ls_record.specs.Rows.{Rec}
use Rattle.ls_naming.specs.Named.{row_files, named_files, NamesSlot}
use Rattle.ls_board.specs.declared.action.BoardFault.{BoardFault}
use Rattle.ls_board.specs.declared.world.World.{World}
use Rattle.ls_board.specs.Acts.{Sight}
use Rattle.ls_board.specs.Effect.{file_at}
use Rattle.ls_reading.specs.Reading.{Sees}
use Rattle.ls_reading.proofs.SeeLemmas.{sees_as, sees_both, sees_known, sees_value}
use Rattle.ls_sealing.specs.Protectors.{has_weaver, slot_number}
use Rattle.ls_sealing.proofs.WritingLemmas.{number_again_slot}
use Rattle.ls_standing.specs.Opening.{content_at, one_or_none, slot_in}
use Rattle.ls_standing.proofs.ContainsLemmas.{none_in, at_first, first_or_behind, in_flat, of_flat}
use Rattle.ls_standing.proofs.ProtectorLemmas.{HasSlot, has_slot}
use Rattle.ls_standing.proofs.SlotFileLemmas.{of_slot}
use Rattle.ls_sweep.specs.NamedSlots.{is_slot_part, slots_of, slots_of_rows, slots_named, AreNamedSlots}

-- ---- over a board

-- a file of another part names none
other_part : (part : FilePart) (bytes : List ℕ) → is_slot_part part ≡ false → slot_in part bytes ≡ []
other_part SpBlob bytes is = refl
other_part Pwd bytes is = refl
other_part Secdis bytes is = refl
other_part Weaver bytes is = absurd (cc)
other_part Metrics bytes is = refl
other_part Handle bytes is = refl
other_part E0 bytes is = refl
other_part P1 bytes is = refl
other_part Resume bytes is = refl

pub no_slot_file : (s : Sight) (name : PartOf) (slots : List ℕ) → is_slot_part name.part ≡ false → Sees (λ w. slots ++ slot_in name.part (content_at w name)) s (Ok slots) s
no_slot_file s name slots is =
    sees_known (λ w. slots ++ slot_in name.part (content_at w name)) s slots
    (λ w. sym (ap (λ (l : List ℕ). slots ++ l) (other_part name.part (content_at w name) is) ∙ append-nil slots))

pub one_slot_file : (old mid : Sight) (name : PartOf) (slots all : List ℕ) (file : Option (List ℕ))
    → Sees (λ w. file_at w (part_name_text name)) old (Ok file) mid → all ≡ slots ++ slot_in name.part (unwrap_or file [])
    → Sees (λ w. slots ++ slot_in name.part (content_at w name)) old (Ok all) mid
one_slot_file old mid name slots all file first is =
    sees_value (λ w. file_at w (part_name_text name)) old mid (λ x w. slots ++ slot_in name.part (unwrap_or x [])) file all first (λ w. is)

-- what stands behind the first element, as a pattern gives it
abbrev behind : {A : Type 0} → List A → List A
behind xs = take (length xs - 1) (drop 1 xs)

behind_first : {A : Type 0} (x : A) (xs : List A) → behind (x ∷ xs) ≡ xs
behind_first x xs = take_all (length (x ∷ xs) - 1) xs (omega arith)

module _ (old mid new : Sight) (slots all : List ℕ) (r : Result (List ℕ) BoardFault) where
  -- a file, and then the others
  pub next_slot_file : (names : List PartOf) (name : PartOf) → 1 ≤ length names → name ≡ get_or names 0 name
      → Sees (λ w. slots ++ slot_in name.part (content_at w name)) old (Ok all) mid → Sees (λ w. all ++ slots_of w (behind names)) mid r new
      → Sees (λ w. slots ++ slots_of w names) old r new
  next_slot_file [] name some at first rest = absurd (omega (arith, some))
  next_slot_file (n ∷ names) name some at first rest =
      sees_as (λ w. (slots ++ slot_in n.part (content_at w n)) ++ slots_of w names) (λ w. slots ++ slots_of w (n ∷ names)) old new r
      (λ told. append_assoc slots (slot_in n.part (content_at old.world n)) (slots_of old.world names))
      (sees_both (λ w. slots ++ slot_in n.part (content_at w n)) old mid (λ x w. x ++ slots_of w names) new all r
      (subst (λ (m : PartOf). Sees (λ w. slots ++ slot_in m.part (content_at w m)) old (Ok all) mid) at first)
      (subst (λ (l : List PartOf). Sees (λ w. all ++ slots_of w l) mid r new) (behind_first n names) rest))

  -- a row, and then the others
  pub next_slot_row : (weaver : Bool) (armed : Option Arming) (rows : List UserRow) (row : UserRow) → 1 ≤ length rows → row ≡ get_or rows 0 row
      → Sees (λ w. slots ++ slots_of w (row_files weaver armed row)) old (Ok all) mid → Sees (λ w. all ++ slots_of_rows w weaver armed (behind rows)) mid r new
      → Sees (λ w. slots ++ slots_of_rows w weaver armed rows) old r new
  next_slot_row weaver armed [] row some at first rest = absurd (omega (arith, some))
  next_slot_row weaver armed (x ∷ rows) row some at first rest =
      sees_as (λ w. (slots ++ slots_of w (row_files weaver armed x)) ++ slots_of_rows w weaver armed rows) (λ w. slots ++ slots_of_rows w weaver armed (x ∷ rows)) old new r
      (λ told. append_assoc slots (slots_of old.world (row_files weaver armed x)) (slots_of_rows old.world weaver armed rows))
      (sees_both (λ w. slots ++ slots_of w (row_files weaver armed x)) old mid (λ y w. y ++ slots_of_rows w weaver armed rows) new all r
      (subst (λ (z : UserRow). Sees (λ w. slots ++ slots_of w (row_files weaver armed z)) old (Ok all) mid) at first)
      (subst (λ (l : List UserRow). Sees (λ w. all ++ slots_of_rows w weaver armed l) mid r new) (behind_first x rows) rest))

-- nothing behind
pub no_more_files : (s : Sight) (slots : List ℕ) (names : List PartOf) → names ≡ [] → Sees (λ w. slots ++ slots_of w names) s (Ok slots) s
no_more_files s slots names none =
    sees_known (λ w. slots ++ slots_of w names) s slots (λ w. sym (ap (λ (l : List PartOf). slots ++ slots_of w l) none ∙ append-nil slots))

pub no_more_rows : (s : Sight) (slots : List ℕ) (weaver : Bool) (armed : Option Arming) (rows : List UserRow) → rows ≡ []
    → Sees (λ w. slots ++ slots_of_rows w weaver armed rows) s (Ok slots) s
no_more_rows s slots weaver armed rows none =
    sees_known (λ w. slots ++ slots_of_rows w weaver armed rows) s slots (λ w. sym (ap (λ (l : List UserRow). slots ++ slots_of_rows w weaver armed l) none ∙ append-nil slots))

-- files row by row are files
rows_of_slots : (w : World) (weaver : Bool) (armed : Option Arming) (rows : List UserRow) → slots_of_rows w weaver armed rows ≡ slots_of w (flat_map (row_files weaver armed) rows)
rows_of_slots w weaver armed [] = refl
rows_of_slots w weaver armed (row ∷ rows) =
    ap (λ (l : List ℕ). slots_of w (row_files weaver armed row) ++ l) (rows_of_slots w weaver armed rows)
    ∙ sym (flat_map-append (λ name. slot_in name.part (content_at w name)) (row_files weaver armed row) (flat_map (row_files weaver armed) rows))

-- those of all rows are those that the record names
pub all_slots : (old new : Sight) (r : Rec) (count : ℕ) (armed : Option Arming) (rows : List UserRow) (start : List ℕ) (result : Result (List ℕ) BoardFault)
    → (IsTrue old.told → count ≡ length old.world.slots) → armed ≡ r.armed → rows ≡ r.users → start ≡ []
    → Sees (λ w. start ++ slots_of_rows w (nat_lt 0 count) armed rows) old result new → Sees (λ w. slots_named w r) old result new
all_slots old new r count armed rows start result told_count its_armed its_rows begins sees =
    sees_as (λ w. start ++ slots_of_rows w (nat_lt 0 count) armed rows) (λ w. slots_named w r) old new result
    (λ told.
    (λ i. begins i ++ slots_of_rows old.world (nat_lt 0 (told_count told i)) (its_armed i) (its_rows i))
    ∙ rows_of_slots old.world (has_weaver old.world) r.armed r.users) sees

-- ---- exactly those that are named

-- the file of a slot that is read of what it holds
holds_slot : (file : Option (List ℕ)) (slot : ℕ) → slot_number (unwrap_or file []) ≡ Some slot → HasSlot true file slot
holds_slot None slot e = let bad : ◌≡◌ {A = Option ℕ} None (Some slot) = e in absurd (cc)
holds_slot (Some bytes) slot e = has_slot true (Some bytes) slot e

one_there : (o : Option ℕ) (n : ℕ) → Contains (one_or_none o) n → o ≡ Some n
one_there None n has = absurd (none_in n has)
one_there (Some m) n has = by (first_or_behind m [] n has)
  where
    by : (m ≡ n) ⊎ Contains [] n → Some m ≡ Some n
    by (inl same) = ap Some same
    by (inr none) = absurd (none_in n none)

in_part : (part : FilePart) (bytes : List ℕ) (n : ℕ) → Contains (slot_in part bytes) n → (part ≡ Weaver) × (slot_number bytes ≡ Some n)
in_part SpBlob bytes n has = absurd (none_in n has)
in_part Pwd bytes n has = absurd (none_in n has)
in_part Secdis bytes n has = absurd (none_in n has)
in_part Weaver bytes n has = (refl, one_there (slot_number bytes) n has)
in_part Metrics bytes n has = absurd (none_in n has)
in_part Handle bytes n has = absurd (none_in n has)
in_part E0 bytes n has = absurd (none_in n has)
in_part P1 bytes n has = absurd (none_in n has)
in_part Resume bytes n has = absurd (none_in n has)

module _ (w : World) (r : Rec) where
  listed_named : (slot : ℕ) → Contains (slots_named w r) slot → NamesSlot (has_weaver w) r (file_at w) slot
  listed_named slot has =
      let found = of_flat (λ name. slot_in name.part (content_at w name)) (named_files (has_weaver w) r) slot has in
      let is = in_part found.0.part (content_at w found.0) slot found.2 in
      let read = holds_slot (file_at w (part_name_text found.0)) slot is.1 in
      record {
        name = found.0;
        named = found.1;
        part = is.0;
        small = read.small;
        holds = read.holds;
      }

  named_listed : (slot : ℕ) → NamesSlot (has_weaver w) r (file_at w) slot → Contains (slots_named w r) slot
  named_listed slot h =
      let content : content_at w h.name ≡ of_slot slot = ap (λ (o : Option (List ℕ)). unwrap_or o []) h.holds in
      let its : slot_in h.name.part (content_at w h.name) ≡ slot ∷ [] =
      ap (slot_in h.name.part) content ∙ ap (λ (p : FilePart). slot_in p (of_slot slot)) h.part ∙ ap one_or_none (number_again_slot slot h.small) in
      in_flat (λ name. slot_in name.part (content_at w name)) (named_files (has_weaver w) r) h.name slot h.named
      (subst (λ (l : List ℕ). Contains l slot) (sym its) (at_first slot []))

  pub slots_are_named : AreNamedSlots w r (slots_named w r)
  slots_are_named slot = (listed_named slot, named_listed slot)
