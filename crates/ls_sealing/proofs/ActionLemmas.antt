-- The actions that write a protector touch its parts alone, and can be planned.
use Rattle.std.proofs.Common.{◌<◌, ℕ, Bool, true, false, List, [], ◌∷◌, ◌++◌, replicate, Option, None, Some, refl}
use Rattle.std.specs.Prelude.{is_some, IfSome}
use Rattle.ls_formats.specs.declared.part.FilePart.{FilePart}
use Rattle.ls_naming.specs.Named.{only_if}
use Rattle.ls_board.specs.declared.action.Action.{Action}
use Rattle.ls_board.specs.declared.action.Action.TheVariants.{Put, Remove, GkEnroll, GkForget, KeyDrop}
use Rattle.ls_board.specs.declared.world.World.{World}
use Rattle.ls_board.specs.Effect.{after}
use Rattle.ls_board.specs.Reach.{Reach, AllTouchOnly}
use Rattle.ls_board.specs.Runs.{after_all, AllPlanned, AllApply, AllSound}
use Rattle.ls_sealing.specs.Protectors.{Protector, parts_for, is_enrolled, file_name}
use Rattle.ls_sealing.specs.Sparing.{reach_of}
use Rattle.ls_sealing.specs.Building.{Writing, slot_writes, puts, removes, writing_actions, erasing_actions, retiring_actions}

-- ---- joined lists

touch_append : (reach : Reach) (xs ys : List Action) → AllTouchOnly reach xs → AllTouchOnly reach ys → AllTouchOnly reach (xs ++ ys)
touch_append reach [] ys first second = second
touch_append reach (x ∷ xs) ys first second = (first.0, touch_append reach xs ys first.1 second)

planned_append : (xs ys : List Action) → AllPlanned xs → AllPlanned ys → AllPlanned (xs ++ ys)
planned_append [] ys first second = second
planned_append (x ∷ xs) ys first second = (first.0, planned_append xs ys first.1 second)

sound_append : (slots : ℕ) (xs ys : List Action) → AllSound slots xs → AllSound slots ys → AllSound slots (xs ++ ys)
sound_append slots [] ys first second = second
sound_append slots (x ∷ xs) ys first second = (first.0, sound_append slots xs ys first.1 second)

apply_append : (w : World) (xs ys : List Action) → AllApply w xs → AllApply (after_all w xs) ys → AllApply w (xs ++ ys)
apply_append w [] ys first second = second
apply_append w (x ∷ xs) ys first second = (first.0, apply_append (after w x 0) xs ys first.1 second)

module _ (p : Protector) (m : Writing) where
  -- ---- touches

  puts_touch : (slot : Option ℕ) (parts : List FilePart) → AllTouchOnly (reach_of p slot) (puts p m.content parts)
  puts_touch slot [] = tt
  puts_touch slot (part ∷ parts) = ((part, refl), puts_touch slot parts)

  slot_touch : (slot : Option ℕ) → AllTouchOnly (reach_of p slot) (slot_writes slot m.slot_key m.value)
  slot_touch None = tt
  slot_touch (Some n) = (refl, tt)

  enrol_touch : (slot : Option ℕ) (en : Bool) → AllTouchOnly (reach_of p slot) (only_if en (GkEnroll p.id ∷ []))
  enrol_touch slot true = (refl, tt)
  enrol_touch slot false = tt

  pub touches : (slot : Option ℕ) → AllTouchOnly (reach_of p slot) (writing_actions p slot m)
  touches slot =
      let reach = reach_of p slot in
      let parts = puts p m.content (parts_for (is_some slot) p.purpose) in (
        refl,
        touch_append reach (only_if (is_enrolled (is_some slot) p.purpose) (GkEnroll p.id ∷ [])) (slot_writes slot m.slot_key m.value ++ parts) (enrol_touch slot (is_enrolled (is_some slot) p.purpose))
            (touch_append reach (slot_writes slot m.slot_key m.value) parts (slot_touch slot) (puts_touch slot (parts_for (is_some slot) p.purpose))),
      )

  -- ---- plans

  puts_planned : (parts : List FilePart) → AllPlanned (puts p m.content parts)
  puts_planned [] = tt
  puts_planned (part ∷ parts) = (tt, puts_planned parts)

  slot_planned : (slot : Option ℕ) → AllPlanned (slot_writes slot m.slot_key m.value)
  slot_planned None = tt
  slot_planned (Some n) = (tt, tt)

  enrol_planned : (en : Bool) → AllPlanned (only_if en (GkEnroll p.id ∷ []))
  enrol_planned true = (tt, tt)
  enrol_planned false = tt

  pub planned : (slot : Option ℕ) → AllPlanned (writing_actions p slot m)
  planned slot =
      let parts = puts p m.content (parts_for (is_some slot) p.purpose) in (
        tt,
        planned_append (only_if (is_enrolled (is_some slot) p.purpose) (GkEnroll p.id ∷ [])) (slot_writes slot m.slot_key m.value ++ parts) (enrol_planned (is_enrolled (is_some slot) p.purpose))
            (planned_append (slot_writes slot m.slot_key m.value) parts (slot_planned slot) (puts_planned (parts_for (is_some slot) p.purpose))),
      )

  puts_sound : (slots : ℕ) (parts : List FilePart) → AllSound slots (puts p m.content parts)
  puts_sound slots [] = tt
  puts_sound slots (part ∷ parts) = (tt, puts_sound slots parts)

  slot_sound : (slots : ℕ) (slot : Option ℕ) → IfSome slot (λ n. n < slots) → AllSound slots (slot_writes slot m.slot_key m.value)
  slot_sound slots None fits = tt
  slot_sound slots (Some n) fits = (fits, tt)

  enrol_sound : (slots : ℕ) (en : Bool) → AllSound slots (only_if en (GkEnroll p.id ∷ []))
  enrol_sound slots true = (tt, tt)
  enrol_sound slots false = tt

  pub sound : (slots : ℕ) (slot : Option ℕ) → IfSome slot (λ n. n < slots) → AllSound slots (writing_actions p slot m)
  sound slots slot fits =
      let parts = puts p m.content (parts_for (is_some slot) p.purpose) in (
        tt,
        sound_append slots (only_if (is_enrolled (is_some slot) p.purpose) (GkEnroll p.id ∷ [])) (slot_writes slot m.slot_key m.value ++ parts) (enrol_sound slots (is_enrolled (is_some slot) p.purpose))
            (sound_append slots (slot_writes slot m.slot_key m.value) parts (slot_sound slots slot fits) (puts_sound slots (parts_for (is_some slot) p.purpose))),
      )

  puts_apply : (w : World) (parts : List FilePart) → AllApply w (puts p m.content parts)
  puts_apply w [] = tt
  puts_apply w (part ∷ parts) = (tt, puts_apply (after w (Put (file_name p part) (m.content part)) 0) parts)

  slot_apply : (w : World) (slot : Option ℕ) (parts : List FilePart) → AllApply w (slot_writes slot m.slot_key m.value ++ puts p m.content parts)
  slot_apply w None parts = puts_apply w parts
  slot_apply w (Some n) parts = (tt, puts_apply _ parts)

  enrol_apply : (w : World) (en : Bool) (slot : Option ℕ) (parts : List FilePart) → AllApply w (only_if en (GkEnroll p.id ∷ []) ++ (slot_writes slot m.slot_key m.value ++ puts p m.content parts))
  enrol_apply w true slot parts = (tt, slot_apply _ slot parts)
  enrol_apply w false slot parts = slot_apply w slot parts

  pub applies : (w : World) (slot : Option ℕ) → AllApply w (writing_actions p slot m)
  applies w slot = (tt, enrol_apply _ (is_enrolled (is_some slot) p.purpose) slot (parts_for (is_some slot) p.purpose))

-- ---- the actions that take a protector away

module _ (p : Protector) where
  removes_touch : (slot : Option ℕ) (parts : List FilePart) → AllTouchOnly (reach_of p slot) (removes p parts)
  removes_touch slot [] = tt
  removes_touch slot (part ∷ parts) = ((part, refl), removes_touch slot parts)

  removes_planned : (parts : List FilePart) → AllPlanned (removes p parts)
  removes_planned [] = tt
  removes_planned (part ∷ parts) = (tt, removes_planned parts)

  -- ---- the actions that erase it

  abbrev erasing : Option ℕ → Bool → List Action
  erasing slot en = slot_writes slot (replicate 16 0) (replicate 16 0) ++ (KeyDrop p.id ∷ only_if en (GkForget p.id ∷ []))

  touches_by : (slot : Option ℕ) (en : Bool) → AllTouchOnly (reach_of p slot) (erasing slot en)
  touches_by None true = (refl, (refl, tt))
  touches_by None false = (refl, tt)
  touches_by (Some n) true = (refl, (refl, (refl, tt)))
  touches_by (Some n) false = (refl, (refl, tt))

  planned_by : (slot : Option ℕ) (en : Bool) → AllPlanned (erasing slot en)
  planned_by None true = (tt, (tt, tt))
  planned_by None false = (tt, tt)
  planned_by (Some n) true = (tt, (tt, (tt, tt)))
  planned_by (Some n) false = (tt, (tt, tt))

  sound_by : (slots : ℕ) (slot : Option ℕ) (en : Bool) → IfSome slot (λ n. n < slots) → AllSound slots (erasing slot en)
  sound_by slots None true fits = (tt, (tt, tt))
  sound_by slots None false fits = (tt, tt)
  sound_by slots (Some n) true fits = (fits, (tt, (tt, tt)))
  sound_by slots (Some n) false fits = (fits, (tt, tt))

  applies_by : (w : World) (slot : Option ℕ) (en : Bool) → AllApply w (erasing slot en)
  applies_by w None true = (tt, (tt, tt))
  applies_by w None false = (tt, tt)
  applies_by w (Some n) true = (tt, (tt, (tt, tt)))
  applies_by w (Some n) false = (tt, (tt, tt))

  pub erasing_touches : (slot : Option ℕ) → AllTouchOnly (reach_of p slot) (erasing_actions p slot)
  erasing_touches slot = touches_by slot (is_enrolled (is_some slot) p.purpose)

  pub erasing_planned : (slot : Option ℕ) → AllPlanned (erasing_actions p slot)
  erasing_planned slot = planned_by slot (is_enrolled (is_some slot) p.purpose)

  pub erasing_sound : (slots : ℕ) (slot : Option ℕ) → IfSome slot (λ n. n < slots) → AllSound slots (erasing_actions p slot)
  erasing_sound slots slot fits = sound_by slots slot (is_enrolled (is_some slot) p.purpose) fits

  pub erasing_applies : (w : World) (slot : Option ℕ) → AllApply w (erasing_actions p slot)
  erasing_applies w slot = applies_by w slot (is_enrolled (is_some slot) p.purpose)

  -- ---- and that remove its files

  removes_sound : (slots : ℕ) (parts : List FilePart) → AllSound slots (removes p parts)
  removes_sound slots [] = tt
  removes_sound slots (part ∷ parts) = (tt, removes_sound slots parts)

  removes_apply : (w : World) (parts : List FilePart) → AllApply w (removes p parts)
  removes_apply w [] = tt
  removes_apply w (part ∷ parts) = (tt, removes_apply (after w (Remove (file_name p part)) 0) parts)

  pub retiring_touches : (slot : Option ℕ) → AllTouchOnly (reach_of p slot) (retiring_actions p slot)
  retiring_touches slot =
      let parts = parts_for (is_some slot) p.purpose in
      touch_append (reach_of p slot) (erasing_actions p slot) (removes p parts) (erasing_touches slot) (removes_touch slot parts)

  pub retiring_planned : (slot : Option ℕ) → AllPlanned (retiring_actions p slot)
  retiring_planned slot =
      let parts = parts_for (is_some slot) p.purpose in
      planned_append (erasing_actions p slot) (removes p parts) (erasing_planned slot) (removes_planned parts)

  pub retiring_sound : (slots : ℕ) (slot : Option ℕ) → IfSome slot (λ n. n < slots) → AllSound slots (retiring_actions p slot)
  retiring_sound slots slot fits =
      let parts = parts_for (is_some slot) p.purpose in
      sound_append slots (erasing_actions p slot) (removes p parts) (erasing_sound slots slot fits) (removes_sound slots parts)

  pub retiring_applies : (w : World) (slot : Option ℕ) → AllApply w (retiring_actions p slot)
  retiring_applies w slot =
      let parts = parts_for (is_some slot) p.purpose in
      apply_append w (erasing_actions p slot) (removes p parts) (erasing_applies w slot) (removes_apply (after_all w (erasing_actions p slot)) parts)
