-- What reaches the parts of a protector, and what a world holds of them once they were erased.
use Rattle.std.proofs.Common.{◌≡◌, ◌<◌, ◌≤◌, ℕ, Bool, true, false, List, [], ◌∷◌, ◌++◌, replicate, length, get_or-set_same, Option, None, Some, refl, sym, subst, arith}
use Rattle.std.specs.Prelude.{IfSome, is_some, sum_by}
use Rattle.std.specs.List.{Contains}
use Rattle.std.specs.Ordering.{nat_cmp}
use Rattle.std.proofs.lemmas.Cmp.{nat_cmp_total}
use Rattle.ls_weaver.specs.Slots.{written, blank_slot}
use Rattle.ls_board.specs.declared.action.Action.{Action}
use Rattle.ls_board.specs.declared.action.Action.TheVariants.{GkEnroll, GkForget, KeyDrop}
use Rattle.ls_board.specs.declared.world.World.{World}
use Rattle.ls_board.specs.Acts.{Sight}
use Rattle.ls_board.specs.Effect.{slot_at, weight_of}
use Rattle.ls_board.specs.Gatekeeper.{record_at}
use Rattle.ls_board.specs.Keys.{key_at}
use Rattle.ls_board.specs.Reach.{Reach, AllTouchOnly}
use Rattle.ls_board.specs.Runs.{AllApply, AllSound, CanRun, after_all}
use Rattle.ls_board.proofs.LookupLemmas.{without_same}
use Rattle.ls_formats.specs.declared.part.FilePart.{FilePart}
use Rattle.ls_naming.specs.Named.{only_if}
use Rattle.ls_sealing.specs.Building.{Writing, writing_actions, slot_writes, puts}
use Rattle.ls_sealing.specs.Protectors.{Protector, parts_for, is_enrolled, file_name}
use Rattle.ls_record.specs.Rows.{Rec, IsRecord}
use Rattle.ls_standing.specs.Quiet.{IsUnnamed, IsUnnamedProtector}
use Rattle.ls_standing.proofs.ContainsLemmas.{in_map, of_map, at_first, behind_first}
use Rattle.ls_standing.proofs.TouchLemmas.{files_unnamed}
use Rattle.ls_formats.specs.declared.parts.Parts.{Parts}
use Rattle.ls_protector.specs.Clear.{IsClear}
use Rattle.ls_protector.specs.Parts.{parts_of, reach_of_names, reach_of_parts, erasing_of, first_removed}
use Rattle.ls_protector.specs.Settled.{IsErased}

-- ---- what erases, by the slot, the key and the Gatekeeper's record

abbrev pub blanking : Option ℕ → List Action
blanking slot = slot_writes slot (replicate 16 0) (replicate 16 0)

abbrev pub forgetting : Bool → ℕ → List Action
forgetting gk id = only_if gk (GkForget id ∷ [])

abbrev erasing : Option ℕ → ℕ → Bool → List Action
erasing slot id gk = blanking slot ++ (KeyDrop id ∷ forgetting gk id)

erasing_length : (slot : Option ℕ) (id : ℕ) (gk : Bool) → length (erasing slot id gk) ≤ 3
erasing_length None id false = omega arith
erasing_length None id true = omega arith
erasing_length (Some n) id false = omega arith
erasing_length (Some n) id true = omega arith

pub erasing_few : (p : Parts) → length (erasing_of p) ≤ 3
erasing_few p = erasing_length p.slot p.id p.gk

erasing_weight : (slot : Option ℕ) (id : ℕ) (gk : Bool) → sum_by weight_of (erasing slot id gk) ≡ 0
erasing_weight None id false = refl
erasing_weight None id true = refl
erasing_weight (Some n) id false = refl
erasing_weight (Some n) id true = refl

erasing_sound : (slots : ℕ) (slot : Option ℕ) (id : ℕ) (gk : Bool) → IfSome slot (λ n. n < slots) → AllSound slots (erasing slot id gk)
erasing_sound slots None id false within = (tt, tt)
erasing_sound slots None id true within = (tt, (tt, tt))
erasing_sound slots (Some n) id false within = (within, (tt, tt))
erasing_sound slots (Some n) id true within = (within, (tt, (tt, tt)))

erasing_applies : (w : World) (slot : Option ℕ) (id : ℕ) (gk : Bool) → AllApply w (erasing slot id gk)
erasing_applies w None id false = (tt, tt)
erasing_applies w None id true = (tt, (tt, tt))
erasing_applies w (Some n) id false = (tt, (tt, tt))
erasing_applies w (Some n) id true = (tt, (tt, (tt, tt)))

pub can_erase : (s : Sight) (p : Parts) → IfSome p.slot (λ n. n < s.slots) → length (erasing_of p) ≤ s.actions → CanRun s (erasing_of p)
can_erase s p within room = record {
  actions = room;
  bytes = let none = erasing_weight p.slot p.id p.gk in omega (arith, none);
  sound = erasing_sound s.slots p.slot p.id p.gk within;
  applies = λ told. erasing_applies s.world p.slot p.id p.gk;
}

module _ (p : Parts) where
  blanks_its : (slot : Option ℕ) → p.slot ≡ slot → (rest : List Action) → AllTouchOnly (reach_of_parts p) rest → AllTouchOnly (reach_of_parts p) (blanking slot ++ rest)
  blanks_its None is rest only = only
  blanks_its (Some n) is rest only = (is, only)

  forgets_its : (gk : Bool) → p.gk ≡ gk → AllTouchOnly (reach_of_parts p) (forgetting gk p.id)
  forgets_its false is = tt
  forgets_its true is = ((is, refl), tt)

  pub erasing_touch : AllTouchOnly (reach_of_parts p) (erasing_of p)
  erasing_touch = blanks_its p.slot refl (KeyDrop p.id ∷ forgetting p.gk p.id) (refl, forgets_its p.gk refl)

-- ---- what is held then

key_gone : (w : World) (slot : Option ℕ) (id : ℕ) (gk : Bool) → key_at (after_all w (erasing slot id gk)).keys id ≡ None
key_gone w None id false = without_same nat_cmp nat_cmp_total w.keys id
key_gone w None id true = without_same nat_cmp nat_cmp_total w.keys id
key_gone w (Some n) id false = without_same nat_cmp nat_cmp_total w.keys id
key_gone w (Some n) id true = without_same nat_cmp nat_cmp_total w.keys id

counter_gone : (w : World) (slot : Option ℕ) (id : ℕ) → record_at (after_all w (erasing slot id true)).gk id ≡ None
counter_gone w None id = without_same nat_cmp nat_cmp_total w.gk id
counter_gone w (Some n) id = without_same nat_cmp nat_cmp_total w.gk id

slot_blank : (w : World) (n id : ℕ) (gk : Bool) → n < length w.slots → slot_at (after_all w (erasing (Some n) id gk)) n ≡ blank_slot
slot_blank w n id false within = get_or-set_same w.slots n (written (replicate 16 0) (replicate 16 0)) blank_slot within
slot_blank w n id true within = get_or-set_same w.slots n (written (replicate 16 0) (replicate 16 0)) blank_slot within

pub is_erased : (w : World) (p : Parts) → IfSome p.slot (λ n. n < length w.slots) → IsErased (after_all w (erasing_of p)) p
is_erased w p within = record {
  slot = λ n is.
      let its : n < length w.slots = subst (λ (o : Option ℕ). IfSome o (λ n. n < length w.slots)) is within in
      subst (λ (o : Option ℕ). slot_at (after_all w (erasing o p.id p.gk)) n ≡ blank_slot) (sym is) (slot_blank w n p.id p.gk its);
  key = key_gone w p.slot p.id p.gk;
  counter = λ is. subst (λ (gk : Bool). record_at (after_all w (erasing p.slot p.id gk)).gk p.id ≡ None) (sym is) (counter_gone w p.slot p.id);
}

-- ---- what is removed

pub first_touch : (names : List (List ℕ)) → AllTouchOnly (reach_of_names names) (first_removed names)
first_touch [] = tt
first_touch (n ∷ names) = (at_first n names, tt)

-- ---- what is written

touch_both : (reach : Reach) (xs ys : List Action) → AllTouchOnly reach xs → AllTouchOnly reach ys → AllTouchOnly reach (xs ++ ys)
touch_both reach [] ys first second = second
touch_both reach (a ∷ xs) ys first second = (first.0, touch_both reach xs ys first.1 second)

module _ (p : Protector) (slot : Option ℕ) (m : Writing) where
  abbrev reach : Reach
  reach = reach_of_parts (parts_of (is_some slot) p slot)

  put_touch : (parts : List FilePart) → ((part : FilePart) → Contains parts part → Contains (parts_for (is_some slot) p.purpose) part) → AllTouchOnly reach (puts p m.content parts)
  put_touch [] there = tt
  put_touch (part ∷ parts) there =
      (in_map (file_name p) (parts_for (is_some slot) p.purpose) part (there part (at_first part parts)), put_touch parts (λ x has. there x (behind_first part parts x has)))

  enroll_touch : (b : Bool) → is_enrolled (is_some slot) p.purpose ≡ b → AllTouchOnly reach (only_if b (GkEnroll p.id ∷ []))
  enroll_touch true is = ((is, refl), tt)
  enroll_touch false is = tt

  slot_touch : (o : Option ℕ) → o ≡ slot → AllTouchOnly reach (slot_writes o m.slot_key m.value)
  slot_touch None is = tt
  slot_touch (Some n) is = (sym is, tt)

  pub written_touch : AllTouchOnly reach (writing_actions p slot m)
  written_touch = (
    refl,
    touch_both reach (only_if (is_enrolled (is_some slot) p.purpose) (GkEnroll p.id ∷ [])) _ (enroll_touch (is_enrolled (is_some slot) p.purpose) refl)
        (touch_both reach (slot_writes slot m.slot_key m.value) (puts p m.content (parts_for (is_some slot) p.purpose)) (slot_touch slot refl) (put_touch (parts_for (is_some slot) p.purpose) (λ part has. has))),
  )

-- ---- what isn't named

pub unnamed_clear : (w : World) (r : Rec) (p : Protector) (slot : Option ℕ) → IsRecord r → IsUnnamedProtector w r p slot → IsClear w r (parts_of (is_some slot) p slot)
unnamed_clear w r p slot is un = record {
  files = λ n has.
      let part = of_map (file_name p) (parts_for (is_some slot) p.purpose) n has in
      subst (IsUnnamed w r) part.2 (files_unnamed w r p slot is un part.0);
  slot = un.its_slot;
  key = un.key;
  counter = un.counter;
}
