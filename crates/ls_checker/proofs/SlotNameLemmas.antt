-- The `weaver` files that name a slot, among those that a record names.
use Rattle.std.proofs.Common.{◌≡◌, ◌<◌, ◌^◌, Bool, true, false, List, [], ◌∷◌, ℕ, Option, None, Some, refl, sym, ap, ◌∙◌}
use Rattle.std.specs.Prelude.{◌↔◌, ◌||◌, IsTrue, Result, Ok, Err, IfOk}
use Rattle.std.specs.List.{list_any, Contains}
use Rattle.std.proofs.lemmas.Bool.{and_parts, and_from}
use Rattle.std.proofs.lemmas.Slice.Eq.{bytes_eq-Decides}
use Rattle.ls_bytes.specs.declared.memory.Memory.{Memory}
use Rattle.ls_formats.specs.declared.part.FilePart.TheVariants.{Weaver}
use Rattle.ls_formats.specs.Contents.{slot_bytes}
use Rattle.ls_formats.specs.PartNames.{part_name_text}
use Rattle.ls_record.specs.Rows.{Rec}
use Rattle.ls_naming.specs.Named.{NamesSlot, named_files, row_files}
use Rattle.ls_naming.specs.Membership.{same_part}
use Rattle.ls_naming.proofs.MembershipLemmas.{any_flat}
use Rattle.ls_board.specs.declared.world.World.{World}
use Rattle.ls_board.specs.Effect.{file_at}
use Rattle.ls_sealing.specs.Protectors.{has_weaver}
use Rattle.ls_sealing.proofs.WritingLemmas.{same_is}
use Rattle.ls_standing.proofs.ContainsLemmas.{at_first, behind_first, any_contained}
use Rattle.ls_checker.specs.SlotNames.{is_file_of, names_slot}

-- an element that passes a test, where there is one
passing : {X : Type 0} (q : X → Bool) (xs : List X) → list_any q xs ≡ true → (x : X) × Contains xs x × (q x ≡ true)
passing q [] e = absurd (cc)
passing {X = X} q (x ∷ xs) e = by (q x) refl e (passing q xs)
  where
    by : (b : Bool) → q x ≡ b → (b || list_any q xs) ≡ true → (list_any q xs ≡ true → (y : X) × Contains xs y × (q y ≡ true))
        → (y : X) × Contains (x ∷ xs) y × (q y ≡ true)
    by true is more rest = (x, at_first x xs, is)
    by false is more rest = let found = rest more in (found.0, behind_first x xs found.0 found.1, found.2)

file_is : (slot : ℕ) (file : Option (List ℕ)) → is_file_of slot file ≡ true → file ≡ Some (slot_bytes (record { slot = slot }))
file_is slot None e = absurd (cc)
file_is slot (Some bytes) e = ap Some ((bytes_eq-Decides bytes (slot_bytes (record { slot = slot }))).0 e)

is_file : (slot : ℕ) (file : Option (List ℕ)) → file ≡ Some (slot_bytes (record { slot = slot })) → is_file_of slot file ≡ true
is_file slot file e = ap (is_file_of slot) e ∙ (bytes_eq-Decides (slot_bytes (record { slot = slot })) (slot_bytes (record { slot = slot }))).1 refl

module _ (w : World) (r : Rec) (slot : ℕ) (small : slot < 2 ^ 32) where
  abbrev Named : Type 0
  Named = NamesSlot (has_weaver w) r (file_at w) slot

  names_it : list_any (names_slot w slot) (named_files (has_weaver w) r) ≡ true → Named
  names_it e =
      let found = passing (names_slot w slot) (named_files (has_weaver w) r) e in
      let parts = and_parts (same_part Weaver found.0.part) (is_file_of slot (file_at w (part_name_text found.0))) found.2 in
      record {
        name = found.0;
        named = found.1;
        part = sym (same_is Weaver found.0.part parts.0);
        small = small;
        holds = file_is slot (file_at w (part_name_text found.0)) parts.1;
      }

  it_is_named : Named → list_any (names_slot w slot) (named_files (has_weaver w) r) ≡ true
  it_is_named h =
      any_contained (names_slot w slot) (named_files (has_weaver w) r) h.name h.named
      (and_from (same_part Weaver h.name.part) (is_file_of slot (file_at w (part_name_text h.name))) (ap (same_part Weaver) h.part)
      (is_file slot (file_at w (part_name_text h.name)) h.holds))

  -- it is named where a file does so that one of the rows names
  pub slot_decided : (found : Result Bool Memory)
      → IfOk found (λ b. b ≡ list_any (λ row. list_any (names_slot w slot) (row_files (has_weaver w) r.armed row)) r.users)
      → IfOk found (λ b. IsTrue b ↔ NamesSlot (has_weaver w) r (file_at w) slot)
  slot_decided (Ok b) e =
      let same = e ∙ sym (any_flat (names_slot w slot) (row_files (has_weaver w) r.armed) r.users) in
      (λ is. names_it (sym same ∙ is), λ h. same ∙ it_is_named h)
  slot_decided (Err e) h = h
