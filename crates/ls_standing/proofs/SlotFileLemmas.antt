-- What the `weaver` files hold that pass the checks.
use Rattle.std.proofs.Common.{◌≡◌, ◌<◌, ◌^◌, ◌&&◌, not, ℕ, Bool, true, false, cond, List, length, drop, Option, None, Some, refl, sym, ap, subst, ◌∙◌}
use Rattle.std.specs.Prelude.{nat_lt}
use Rattle.std.proofs.Math.Dec.{leb}
use Rattle.std.proofs.lemmas.Bool.{and_parts, and_from, ltb-true, lt-ltb, not-true}
use Rattle.byteorder.specs.Endian.{big_number}
use Rattle.ls_formats.specs.declared.part.FilePart.{FilePart}
use Rattle.ls_formats.specs.declared.part.FilePart.TheVariants.{SpBlob, Pwd, Secdis, Weaver, Metrics, Handle, E0, P1, Resume}
use Rattle.ls_formats.specs.declared.slot.SlotFile.{SlotFile}
use Rattle.ls_formats.specs.Contents.{slot_bytes}
use Rattle.ls_formats.specs.Files.{format_of}
use Rattle.ls_formats.specs.PartNames.{PartOf}
use Rattle.ls_formats.proofs.ContentLemmas.{slot_format}
use Rattle.ls_formats.proofs.FaultLemmas.{told}
use Rattle.ls_formats.proofs.FileLemmas.{format_lives}
use Rattle.ls_record.specs.declared.row.UserRow.{UserRow}
use Rattle.ls_record.specs.Rows.{has}
use Rattle.ls_board.specs.declared.world.World.{World}
use Rattle.ls_sealing.specs.PartFormats.{format_fault}
use Rattle.ls_standing.specs.Opening.{beside, first_of, fails, first_failing, Beside, is_new_slot, check, number_at, part_checks, file_fault}

-- the content of the `weaver` file of this slot
abbrev pub of_slot : ℕ → List ℕ
of_slot n = slot_bytes (record { slot = n })

-- ---- no fault

neither : (a b : Option ℕ) → first_of a b ≡ None → (a ≡ None) × (b ≡ None)
neither None b e = (refl, e)
neither (Some m) None e = absurd (cc)
neither (Some m) (Some n) e = absurd (cc)

no_failure : (fails : Bool) (at : ℕ) → cond fails (Some at) None ≡ None → fails ≡ false
no_failure true at e = absurd (cc)
no_failure false at e = refl

is_right : (there right : Bool) → there ≡ true → (there && not right) ≡ false → right ≡ true
is_right true true t e = refl
is_right true false t e = absurd (cc)
is_right false right t e = absurd (cc)

-- What a `weaver` file without a fault holds: a slot of the board that no earlier file names.
pub record IsSlotFile (b : Beside) (bytes : List ℕ) : Type 0 where
  pub slot : ℕ
  pub small : slot < 2 ^ 32
  pub spelled : bytes ≡ of_slot slot
  pub within : slot < b.slots
  pub fresh : has b.earlier slot ≡ false

slot_spelled : (bytes : List ℕ) → format_fault Weaver bytes ≡ None → (file : SlotFile) × (file.slot < 2 ^ 32) × (slot_bytes file ≡ bytes)
slot_spelled bytes none = slot_format.reads bytes (told (format_of Weaver) (format_lives Weaver) bytes None (sym none))

-- a slot is read as it was spelled
slot_again : (n : ℕ) → n < 2 ^ 32 → big_number 4 (drop 1 (of_slot n)) ≡ n
slot_again n small = ap (λ (file : SlotFile). file.slot) (slot_format.again (record { slot = n }) small)

-- two slots with one spelling are one
pub same_slot : (m n : ℕ) → m < 2 ^ 32 → n < 2 ^ 32 → of_slot m ≡ of_slot n → m ≡ n
same_slot m n small also same = sym (slot_again m small) ∙ ap (λ (l : List ℕ). big_number 4 (drop 1 l)) same ∙ slot_again n also

slot_checked : (b : Beside) (row : UserRow) (id n : ℕ) → n < 2 ^ 32 → first_failing (of_slot n) (part_checks Weaver b row id (of_slot n)) ≡ None → is_new_slot b n ≡ true
slot_checked b row id n small none =
    let read = number_at (of_slot n) 1 4 in
    let passed = no_failure (fails (of_slot n) (check 1 4 (is_new_slot b read))) 1 (neither (cond (fails (of_slot n) (check 1 4 (is_new_slot b read))) (Some 1) None) None none).0 in
    ap (is_new_slot b) (sym (slot_again n small)) ∙ is_right (leb 5 (length (of_slot n))) (is_new_slot b read) refl passed

pub slot_file : (b : Beside) (row : UserRow) (name : PartOf) (bytes : List ℕ) → name.part ≡ Weaver → file_fault b row name bytes ≡ None → IsSlotFile b bytes
slot_file b row name bytes part none =
    let weaver : PartOf = record { user = name.user; id = name.id; part = Weaver } in
    let named : name ≡ weaver = λ i. record { user = name.user; id = name.id; part = part i } in
    let fine : file_fault b row weaver bytes ≡ None = subst (λ (x : PartOf). file_fault b row x bytes ≡ None) named none in
    let sound = neither (format_fault Weaver bytes) (first_failing bytes (part_checks Weaver b row name.id bytes)) fine in
    let file = slot_spelled bytes sound.0 in
    let n = file.0.slot in
    let checked = slot_checked b row name.id n file.1 (subst (λ (l : List ℕ). first_failing l (part_checks Weaver b row name.id l) ≡ None) (sym file.2) sound.1) in
    let parts = and_parts (nat_lt n b.slots) (not (has b.earlier n)) checked in
    record {
      slot = n;
      small = file.1;
      spelled = sym file.2;
      within = ltb-true n b.slots parts.0;
      fresh = not-true (has b.earlier n) parts.1;
    }

-- and such a file has no fault
pub slot_passes : (b : Beside) (row : UserRow) (id n : ℕ) → n < 2 ^ 32 → n < b.slots → has b.earlier n ≡ false
    → first_failing (of_slot n) (part_checks Weaver b row id (of_slot n)) ≡ None
slot_passes b row id n small within fresh =
    let new : is_new_slot b (number_at (of_slot n) 1 4) ≡ true =
    ap (is_new_slot b) (slot_again n small) ∙ and_from (nat_lt n b.slots) (not (has b.earlier n)) (lt-ltb n b.slots within) (ap not fresh) in
    ap (λ (right : Bool). first_of (cond (leb 5 (length (of_slot n)) && not right) (Some 1) None) None) new

-- ---- what earlier files do to a check

module _ (w : World) (row : UserRow) (id : ℕ) (bytes : List ℕ) where
  abbrev pub part_fault : List ℕ → FilePart → Option ℕ
  part_fault earlier part = first_of (format_fault part bytes) (first_failing bytes (part_checks part (beside w earlier row) row id bytes))

  -- the file names none of these slots
  abbrev pub NamesNone : List ℕ → FilePart → Type 0
  NamesNone later part = part ≡ Weaver → (n : ℕ) → bytes ≡ of_slot n → has later n ≡ false

  slot_later : (earlier later : List ℕ) → part_fault earlier Weaver ≡ None → NamesNone later Weaver → part_fault later Weaver ≡ None
  slot_later earlier later e none =
      let format = (neither (format_fault Weaver bytes) (first_failing bytes (part_checks Weaver (beside w earlier row) row id bytes)) e).0 in
      let is = slot_file (beside w earlier row) row (record { user = 0; id = id; part = Weaver }) bytes refl e in
      let passes = slot_passes (beside w later row) row id is.slot is.small is.within (none refl is.slot is.spelled) in
      (λ i. first_of (format i) (first_failing bytes (part_checks Weaver (beside w later row) row id bytes)))
      ∙ subst (λ (l : List ℕ). first_failing l (part_checks Weaver (beside w later row) row id l) ≡ None) (sym is.spelled) passes

  -- a file without a fault has none where earlier ones name others
  pub fault_later : (earlier later : List ℕ) (part : FilePart) → part_fault earlier part ≡ None → NamesNone later part → part_fault later part ≡ None
  fault_later earlier later SpBlob e none = e
  fault_later earlier later Pwd e none = e
  fault_later earlier later Secdis e none = e
  fault_later earlier later Weaver e none = slot_later earlier later e none
  fault_later earlier later Metrics e none = e
  fault_later earlier later Handle e none = e
  fault_later earlier later E0 e none = e
  fault_later earlier later P1 e none = e
  fault_later earlier later Resume e none = e
