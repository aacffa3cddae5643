-- Named protectors that stay as they are, and slots of boards.
use Rattle.std.proofs.Common.{◌≡◌, ◌<◌, ◌≤◌, ℕ, Bool, true, List, length, Option, None, Some, refl, sym, ap, ◌∙◌, arith}
use Rattle.std.specs.Prelude.{is_some, nat_lt}
use Rattle.std.specs.List.{Contains}
use Rattle.std.specs.Option.{option_and_then}
use Rattle.std.proofs.lemmas.Bool.{lt-ltb}
use Rattle.ls_board.specs.declared.world.World.{World}
use Rattle.ls_board.specs.Effect.{file_at}
use Rattle.ls_formats.specs.declared.part.FilePart.{FilePart}
use Rattle.ls_formats.specs.declared.part.FilePart.TheVariants.{Weaver}
use Rattle.ls_naming.specs.Named.{row_files, NamesFile}
use Rattle.ls_record.specs.Rows.{Rec}
use Rattle.ls_sealing.specs.Building.{FitsSlots}
use Rattle.ls_sealing.specs.Protectors.{Protector, parts_for, has_weaver, has_part, held_number, slot_number, where_it_has, file_name}
use Rattle.ls_standing.specs.NamedProtectors.{NamesProtector, row_protectors}
use Rattle.ls_standing.specs.Same.{SameNamed}
use Rattle.ls_standing.proofs.ContainsLemmas.{in_map, in_flat, of_flat}
use Rattle.ls_standing.proofs.FrameLemmas.{weaver_same, where_same}
use Rattle.ls_standing.proofs.NamedLemmas.{name_of, part_found}
use Rattle.ls_standing.proofs.ProtectorLemmas.{in_row}
use Rattle.ls_turn.specs.Serving.{FitsBoard}

-- ---- slots of a board

pub fits_slots : (slots : ℕ) (w : World) (o : Option ℕ) → slots ≡ length w.slots → slots ≤ 256 → FitsBoard slots o → FitsSlots o w
fits_slots slots w None same few fits = sym same ∙ fits
fits_slots slots w (Some k) same few fits = (omega (arith, same, few, fits), omega (arith, few, fits))

-- the board has Weaver exactly where a slot is given
pub weaver_by : (slot : Option ℕ) (w : World) → FitsSlots slot w → has_weaver w ≡ is_some slot
weaver_by None w fits = ap (nat_lt 0) fits
weaver_by (Some k) w fits = lt-ltb 0 (length w.slots) (let small = fits.0 in omega (arith, small))

-- ---- a protector that is named

-- its files are named
pub protector_file : (b : Bool) (r : Rec) (p : Protector) → NamesProtector r p → (part : FilePart) → has_part b p.purpose part ≡ true → NamesFile b r (name_of p.user p.id part)
protector_file b r p has part within =
    let row = of_flat row_protectors r.users p has in
    in_flat (row_files b r.armed) r.users row.0 (name_of p.user p.id part) row.1
    (in_row b r.armed row.0 p (name_of p.user p.id part) row.2 (in_map (λ (q : FilePart). name_of p.user p.id q) (parts_for b p.purpose) part (part_found part (parts_for b p.purpose) within)))

-- it has the slot that it had
pub number_stays : (r : Rec) (w end : World) → SameNamed r w end → (z : Protector) → NamesProtector r z → held_number end z ≡ held_number w z
number_stays r w end same z named =
    ap (λ (b : Bool). option_and_then slot_number (where_it_has (has_part b z.purpose Weaver) (file_at end (file_name z Weaver)))) (weaver_same r w end same)
    ∙ ap (λ (o : Option (List ℕ)). option_and_then slot_number o)
    (where_same (has_part (has_weaver w) z.purpose Weaver) (file_at end (file_name z Weaver)) (file_at w (file_name z Weaver))
    (λ has. same.file (name_of z.user z.id Weaver) (protector_file (has_weaver w) r z named Weaver has)))
