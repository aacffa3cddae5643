-- In a world whose files have no fault, what is kept of the named protectors is what the world has.
use Rattle.std.proofs.Common.{◌≡◌, ℕ, zero, suc, Bool, true, false, List, [], ◌∷◌, ◌++◌, length, Option, None, Some, cond, append_assoc, refl, sym, ◌∙◌, ap, subst, arith}
use Rattle.std.specs.Prelude.{map, nat_lt, unwrap_or, is_some, Ok}
use Rattle.std.specs.List.{Contains}
use Rattle.std.specs.Option.{option_and_then}
use Rattle.std.proofs.lemmas.Bool.{lt-ltb, ne_eqb}
use Rattle.std.proofs.lemmas.List.{append-nil}
use Rattle.ls_credential.specs.declared.kind.Kind.TheVariants.{Empty, Pattern, Pin, Password}
use Rattle.ls_formats.specs.declared.part.FilePart.TheVariants.{Weaver}
use Rattle.ls_formats.specs.declared.parts.Parts.{Parts}
use Rattle.ls_formats.specs.PartNames.{PartOf, part_name_text}
use Rattle.ls_record.specs.declared.row.UserRow.{UserRow}
use Rattle.ls_record.specs.Rows.{Rec}
use Rattle.ls_board.specs.declared.world.World.{World}
use Rattle.ls_board.specs.Effect.{file_at}
use Rattle.ls_naming.specs.Named.{row_files}
use Rattle.ls_sealing.specs.declared.pushing.Place.{Place}
use Rattle.ls_sealing.specs.Protectors.{Purpose, credential, token, Protector, has_weaver, has_part, held_number, slot_number, where_it_has}
use Rattle.ls_sealing.proofs.WritingLemmas.{number_again_slot}
use Rattle.ls_standing.specs.NamedProtectors.{row_protectors, named_protectors}
use Rattle.ls_standing.specs.Opening.{first_foreign, content_at, beside}
use Rattle.ls_standing.proofs.CheckLemmas.{alone}
use Rattle.ls_standing.proofs.ContainsLemmas.{at_first, behind_first, of_flat}
use Rattle.ls_standing.proofs.SlotFileLemmas.{of_slot, slot_file}
use Rattle.ls_standing.proofs.ProtectorLemmas.{protector_files, in_row}
use Rattle.ls_protector.specs.Parts.{parts_of}
use Rattle.ls_turn.specs.Agreeing.{parts_in}
use Rattle.ls_session.specs.Keeping.{number_in, placed, place_in, with_one, kept_behind}

-- each of these has its place, which is the one that the world has of it
pub record HasPlace (w : World) (p : Protector) : Type 0 where
  pub place : place_in (length w.slots) p.user p.id w ≡ Some (record { user = p.user; id = p.id; slot = held_number w p })
  pub with_slots : is_some (held_number w p) ≡ has_weaver w

abbrev pub HavePlaces : World → List Protector → Type 0
HavePlaces w protectors = (p : Protector) → Contains protectors p → HasPlace w p

pub kept_placed : (w : World) (protectors : List Protector) (kept : List Parts) → HavePlaces w protectors
    → kept_behind (length w.slots) protectors (Ok kept) w ≡ Ok (kept ++ map (parts_in w) protectors)
kept_placed w [] kept placed = ap Ok (sym (append-nil kept))
kept_placed w (p ∷ protectors) kept placed =
    let its = placed p (at_first p protectors) in
    ap (λ (place : Option Place). kept_behind (length w.slots) protectors (with_one p (Ok kept) place) w) its.place
    ∙ ap (λ (b : Bool). kept_behind (length w.slots) protectors (Ok (kept ++ parts_of b p (held_number w p) ∷ [])) w) its.with_slots
    ∙ kept_placed w protectors (kept ++ parts_in w p ∷ []) (λ q within. placed q (behind_first p protectors q within))
    ∙ ap Ok (append_assoc kept (parts_in w p ∷ []) (map (parts_in w) protectors))

-- ---- the place of one

pub no_weaver : (purpose : Purpose) → has_part false purpose Weaver ≡ false
no_weaver (credential Empty) = refl
no_weaver (credential Pattern) = refl
no_weaver (credential Pin) = refl
no_weaver (credential Password) = refl
no_weaver token = refl

a_weaver : (purpose : Purpose) → has_part true purpose Weaver ≡ true
a_weaver (credential Empty) = refl
a_weaver (credential Pattern) = refl
a_weaver (credential Pin) = refl
a_weaver (credential Password) = refl
a_weaver token = refl

pub its_file : (p : Protector) → Contains (protector_files true p) (record { user = p.user; id = p.id; part = Weaver })
its_file p = by p.purpose
  where
    by : (purpose : Purpose) → Contains (protector_files true (record p { purpose = purpose })) (record { user = p.user; id = p.id; part = Weaver })
    by (credential Empty) = (1, omega arith, refl)
    by (credential Pattern) = (2, omega arith, refl)
    by (credential Pin) = (2, omega arith, refl)
    by (credential Password) = (2, omega arith, refl)
    by token = (2, omega arith, refl)

-- a file that holds something is there
there : (file : Option (List ℕ)) (n : ℕ) → unwrap_or file [] ≡ of_slot n → file ≡ Some (of_slot n)
there None n is = absurd (cc)
there (Some bytes) n is = ap Some is

module _ (w : World) (r : Rec) (fine : first_foreign w r ≡ None) (row : UserRow) (named : Contains r.users row) (p : Protector) (own : Contains (row_protectors row) p) where
  abbrev name : PartOf
  name = record { user = p.user; id = p.id; part = Weaver }

  without_slots : length w.slots ≡ 0 → HasPlace w p
  without_slots none =
      let weaver : has_weaver w ≡ false = ap (nat_lt 0) none in
      let number : held_number w p ≡ None =
      ap (λ (b : Bool). option_and_then slot_number (where_it_has (has_part b p.purpose Weaver) (file_at w (part_name_text name)))) weaver
      ∙ ap (λ (b : Bool). option_and_then slot_number (where_it_has b (file_at w (part_name_text name)))) (no_weaver p.purpose) in
      record {
        place = ap (λ (n : ℕ). place_in n p.user p.id w) none ∙ ap (λ (o : Option ℕ). Some (record { user = p.user; id = p.id; slot = o })) (sym number);
        with_slots = ap is_some number ∙ sym weaver;
      }

  with_slots_at : (n : ℕ) → length w.slots ≡ suc n → HasPlace w p
  with_slots_at n some =
      let weaver : has_weaver w ≡ true = lt-ltb 0 (length w.slots) (omega (arith, some)) in
      let within : Contains (row_files (has_weaver w) r.armed row) name = in_row (has_weaver w) r.armed row p name own (subst (λ (b : Bool). Contains (protector_files b p) name) (sym weaver) (its_file p)) in
      let s = slot_file (beside w [] row) row name (content_at w name) refl (alone w r fine row name named within) in
      let number : number_in p.user p.id w ≡ Some s.slot = ap (option_and_then slot_number) (there (file_at w (part_name_text name)) s.slot s.spelled) ∙ number_again_slot s.slot s.small in
      let held : held_number w p ≡ Some s.slot =
      ap (λ (b : Bool). option_and_then slot_number (where_it_has (has_part b p.purpose Weaver) (file_at w (part_name_text name)))) weaver
      ∙ ap (λ (b : Bool). option_and_then slot_number (where_it_has b (file_at w (part_name_text name)))) (a_weaver p.purpose)
      ∙ number in
      record {
        place = ap (λ (b : Bool). cond b (Some (record { user = p.user; id = p.id; slot = None })) (placed (length w.slots) p.user p.id (number_in p.user p.id w))) (ne_eqb (length w.slots) 0 (λ e. omega (arith, e, some)))
            ∙ ap (placed (length w.slots) p.user p.id) number
            ∙ ap (λ (b : Bool). cond b (Some (record { user = p.user; id = p.id; slot = Some s.slot })) None) (lt-ltb s.slot (length w.slots) s.within)
            ∙ ap (λ (o : Option ℕ). Some (record { user = p.user; id = p.id; slot = o })) (sym held);
        with_slots = ap is_some held ∙ sym weaver;
      }

  pub has_place : HasPlace w p
  has_place = by (length w.slots) refl
    where
      by : (n : ℕ) → length w.slots ≡ n → HasPlace w p
      by zero is = without_slots is
      by (suc n) is = with_slots_at n is

-- all that the record names
pub named_places : (w : World) (r : Rec) → first_foreign w r ≡ None
    → kept_behind (length w.slots) (named_protectors r) (Ok []) w ≡ Ok (map (parts_in w) (named_protectors r))
named_places w r fine = kept_placed w (named_protectors r) [] (λ p within.
    let found = of_flat row_protectors r.users p within in has_place w r fine found.0 found.1 p found.2)
