-- What a world holds of a protector after the actions that take it away.
use Rattle.std.proofs.Common.{◌≡◌, ◌<◌, ◌⊎◌, inl, inr, ℕ, Bool, true, false, cond, List, [], ◌∷◌, length, replicate, Option, None, Some, refl, sym, ap, ◌∙◌, arith, length-set, get_or, get_or-set_same}
use Rattle.std.specs.Prelude.{is_some, slice_get, slice_set, nat_lt}
use Rattle.std.specs.Option.{option_map, option_and_then}
use Rattle.std.specs.FinMap.Entries.{find}
use Rattle.std.proofs.lemmas.Option.{slice_get-get_or}
use Rattle.ls_board.specs.Order.{byte_cmp}
use Rattle.std.specs.List.{list_any}
use Rattle.std.specs.Ordering.{nat_cmp}
use Rattle.std.proofs.lemmas.Bool.{cases_Bool, lt-ltb}
use Rattle.std.proofs.lemmas.Cmp.{nat_cmp_total}
use Rattle.ls_formats.specs.declared.part.FilePart.{FilePart}
use Rattle.ls_formats.specs.declared.part.FilePart.TheVariants.{Weaver}
use Rattle.ls_naming.specs.Named.{only_if}
use Rattle.ls_naming.specs.Membership.{same_part}
use Rattle.ls_weaver.specs.declared.slot.Slot.{Slot}
use Rattle.ls_weaver.specs.Slots.{written, blank_slot}
use Rattle.ls_board.specs.declared.action.Action.TheVariants.{Remove, GkForget, KeyDrop}
use Rattle.ls_board.specs.declared.world.World.{World}
use Rattle.ls_board.specs.Effect.{file_at, slot_at, remove_mark, after}
use Rattle.ls_board.specs.Gatekeeper.{record_at}
use Rattle.ls_board.specs.Keys.{key_at}
use Rattle.ls_board.specs.Runs.{after_all}
use Rattle.ls_board.proofs.FileLemmas.{file_marked_same, file_marked_other}
use Rattle.ls_board.proofs.LookupLemmas.{without_same}
use Rattle.ls_board.proofs.RunLemmas.{after_all-append}
use Rattle.ls_sealing.specs.Protectors.{Protector, parts_for, has_part, is_enrolled, file_name, has_weaver, held_file, held_number, slot_number, where_it_has, nothing_held, held}
use Rattle.ls_sealing.specs.Building.{slot_writes, removes, erasing_actions, erased, retiring_actions, FitsSlots}
use Rattle.ls_sealing.proofs.WritingLemmas.{same_is, names_same, cond_or}
use Rattle.ls_sealing.proofs.HeldLemmas.{held_at}

module _ (p : Protector) where
  removes_rest : (v : World) (parts : List FilePart) → after_all v (removes p parts) ≡ record v { files = (after_all v (removes p parts)).files; touched = (after_all v (removes p parts)).touched }
  removes_rest v [] = refl
  removes_rest v (q ∷ parts) = removes_rest (after v (Remove (file_name p q)) 0) parts

  remove_one : (v : World) (q part : FilePart) → file_at (after v (Remove (file_name p q)) 0) (file_name p part) ≡ cond (same_part part q) None (file_at v (file_name p part))
  remove_one v q part = by (cases_Bool (same_part part q))
    where
      by : (same_part part q ≡ true) ⊎ (same_part part q ≡ false) → file_at (after v (Remove (file_name p q)) 0) (file_name p part) ≡ cond (same_part part q) None (file_at v (file_name p part))
      by (inl hit) =
          ap (λ (r : FilePart). file_at (after v (Remove (file_name p q)) 0) (file_name p r)) (same_is part q hit)
          ∙ file_marked_same v (remove_mark v (file_name p q))
          ∙ ap (λ (b : Bool). cond b None (file_at v (file_name p part))) (sym hit)
      by (inr other) =
          file_marked_other v (remove_mark v (file_name p q)) (file_name p part)
          (λ e. let no_way : true ≡ false = sym (names_same p part q e) ∙ other in cc)
          ∙ ap (λ (b : Bool). cond b None (file_at v (file_name p part))) (sym other)

  removes_file : (v : World) (parts : List FilePart) (part : FilePart) → file_at (after_all v (removes p parts)) (file_name p part) ≡ cond (list_any (same_part part) parts) None (file_at v (file_name p part))
  removes_file v [] part = refl
  removes_file v (q ∷ parts) part =
      removes_file (after v (Remove (file_name p q)) 0) parts part
      ∙ ap (λ (f : Option (List ℕ)). cond (list_any (same_part part) parts) None f) (remove_one v q part)
      ∙ cond_or (same_part part q) (list_any (same_part part) parts) None (file_at v (file_name p part))

  front : World → Bool → Option ℕ → World
  front w en slot = after_all (after (after_all w (slot_writes slot (replicate 16 0) (replicate 16 0))) (KeyDrop p.id) 0) (only_if en (GkForget p.id ∷ []))

  front_counter : (w : World) (en : Bool) (slot : Option ℕ) → where_it_has en (record_at (front w en slot).gk p.id) ≡ None
  unfolding front
  front_counter w true None = without_same nat_cmp nat_cmp_total w.gk p.id
  front_counter w true (Some slot) = without_same nat_cmp nat_cmp_total w.gk p.id
  front_counter w false None = refl
  front_counter w false (Some slot) = refl

  front_key : (w : World) (en : Bool) (slot : Option ℕ) → key_at (front w en slot).keys p.id ≡ None
  unfolding front
  front_key w true None = without_same nat_cmp nat_cmp_total w.keys p.id
  front_key w true (Some slot) = without_same nat_cmp nat_cmp_total w.keys p.id
  front_key w false None = without_same nat_cmp nat_cmp_total w.keys p.id
  front_key w false (Some slot) = without_same nat_cmp nat_cmp_total w.keys p.id

  front_device : (w : World) (en : Bool) (slot : Option ℕ) → (front w en slot).gk_key ≡ w.gk_key
  unfolding front
  front_device w true None = refl
  front_device w true (Some slot) = refl
  front_device w false None = refl
  front_device w false (Some slot) = refl

  front_count : (w : World) (en : Bool) (slot : Option ℕ) → length (front w en slot).slots ≡ length w.slots
  unfolding front
  front_count w true None = refl
  front_count w true (Some n) = length-set w.slots n (written (replicate 16 0) (replicate 16 0))
  front_count w false None = refl
  front_count w false (Some n) = length-set w.slots n (written (replicate 16 0) (replicate 16 0))

  erased_is : (w : World) (slot : Option ℕ) → after_all w (erasing_actions p slot) ≡ front w (is_enrolled (is_some slot) p.purpose) slot
  unfolding front
  erased_is w slot =
      after_all-append w (slot_writes slot (replicate 16 0) (replicate 16 0)) (KeyDrop p.id ∷ only_if (is_enrolled (is_some slot) p.purpose) (GkForget p.id ∷ []))

  whole_is : (w : World) (slot : Option ℕ) → after_all w (retiring_actions p slot) ≡ after_all (front w (is_enrolled (is_some slot) p.purpose) slot) (removes p (parts_for (is_some slot) p.purpose))
  whole_is w slot =
      after_all-append w (erasing_actions p slot) (removes p (parts_for (is_some slot) p.purpose))
      ∙ ap (λ (v : World). after_all v (removes p (parts_for (is_some slot) p.purpose))) (erased_is w slot)

  none_there : (b : Bool) (y : Option (List ℕ)) → where_it_has b (cond b None y) ≡ None
  none_there true y = refl
  none_there false y = refl

  with_slots : (w : World) (slot : Option ℕ) → FitsSlots slot w → nat_lt 0 (length w.slots) ≡ is_some slot
  with_slots w None fits = ap (nat_lt 0) fits
  with_slots w (Some n) fits = lt-ltb 0 (length w.slots) (let lt = fits.0 in omega arith)

  pub nothing_is_held : (w : World) (slot : Option ℕ) → FitsSlots slot w → held (after_all w (retiring_actions p slot)) p ≡ nothing_held (is_some slot) w.gk_key
  nothing_is_held w slot fits =
      let b = is_some slot in
      let en = is_enrolled b p.purpose in
      let parts = parts_for b p.purpose in
      let f = front w en slot in
      let new = after_all f (removes p parts) in
      let rest = removes_rest f parts in
      let weaver : has_weaver new ≡ b = ap (λ (v : World). nat_lt 0 (length v.slots)) rest ∙ ap (nat_lt 0) (front_count w en slot) ∙ with_slots w slot fits in
      let file : (part : FilePart) → where_it_has (has_part b p.purpose part) (file_at new (file_name p part)) ≡ None =
      λ part. ap (where_it_has (has_part b p.purpose part)) (removes_file f parts part) ∙ none_there (list_any (same_part part) parts) (file_at f (file_name p part)) in
      let slot_none = ap (λ (o : Option (List ℕ)). option_and_then (slice_get new.slots) (option_and_then slot_number o)) (file Weaver) in
      let counter = ap (λ (v : World). where_it_has en (record_at v.gk p.id)) rest ∙ front_counter w en slot in
      let device = ap (λ (v : World). v.gk_key) rest ∙ front_device w en slot in
      let key = ap (λ (v : World). key_at v.keys p.id) rest ∙ front_key w en slot in
      ap (λ (v : World). held v p) (whole_is w slot)
      ∙ ap (λ (x : Bool). held_at p x new) weaver
      ∙ (λ i. record { weaver = b; files = λ part. file part i; slot = slot_none i; counter = counter i; device = device i; key = key i })

  front_slots : (w : World) (en : Bool) (n : ℕ) → (front w en (Some n)).slots ≡ slice_set w.slots n (written (replicate 16 0) (replicate 16 0))
  unfolding front
  front_slots w true n = refl
  front_slots w false n = refl

  -- and its slot is blank
  pub slot_is_blank : (w : World) (n : ℕ) → n < length w.slots → slot_at (after_all w (retiring_actions p (Some n))) n ≡ blank_slot
  slot_is_blank w n lt =
      let en = is_enrolled true p.purpose in
      ap (λ (v : World). slot_at v n) (whole_is w (Some n) ∙ removes_rest (front w en (Some n)) (parts_for true p.purpose))
      ∙ ap (λ (l : List Slot). get_or l n blank_slot) (front_slots w en n)
      ∙ get_or-set_same w.slots n (written (replicate 16 0) (replicate 16 0)) blank_slot lt

  pub erased_slot_is_blank : (w : World) (n : ℕ) → n < length w.slots → slot_at (after_all w (erasing_actions p (Some n))) n ≡ blank_slot
  erased_slot_is_blank w n lt =
      ap (λ (v : World). slot_at v n) (erased_is w (Some n))
      ∙ ap (λ (l : List Slot). get_or l n blank_slot) (front_slots w (is_enrolled true p.purpose) n)
      ∙ get_or-set_same w.slots n (written (replicate 16 0) (replicate 16 0)) blank_slot lt

  -- ---- what is left where the files stay

  front_files : (w : World) (en : Bool) (slot : Option ℕ) → (front w en slot).files ≡ w.files
  unfolding front
  front_files w true None = refl
  front_files w true (Some n) = refl
  front_files w false None = refl
  front_files w false (Some n) = refl

  blanked : (w : World) (slot : Option ℕ) → FitsSlots slot w
      → option_and_then (slice_get (front w (is_enrolled (is_some slot) p.purpose) slot).slots) slot ≡ option_map (λ _. blank_slot) (option_and_then (slice_get w.slots) slot)
  blanked w None fits = refl
  blanked w (Some n) fits =
      let lt : n < length w.slots = fits.0 in
      let blank = written (replicate 16 0) (replicate 16 0) in
      let long : n < length (slice_set w.slots n blank) = omega (arith, length-set w.slots n blank) in
      ap (λ (l : List Slot). slice_get l n) (front_slots w (is_enrolled true p.purpose) n)
      ∙ slice_get-get_or (slice_set w.slots n blank) n blank_slot long
      ∙ ap Some (get_or-set_same w.slots n blank blank_slot lt)
      ∙ sym (ap (option_map (λ _. blank_slot)) (slice_get-get_or w.slots n blank_slot lt))

  pub erased_is_held : (w : World) (slot : Option ℕ) → FitsSlots slot w → held_number w p ≡ slot → held (after_all w (erasing_actions p slot)) p ≡ erased (held w p)
  erased_is_held w slot fits number =
      let en = is_enrolled (is_some slot) p.purpose in
      let b = has_weaver w in
      let f = front w en slot in
      let weaver : has_weaver f ≡ b = ap (nat_lt 0) (front_count w en slot) in
      let file : (part : FilePart) → where_it_has (has_part b p.purpose part) (file_at f (file_name p part)) ≡ held_file w p part =
      λ part. ap (λ (files : List (List ℕ × List ℕ)). where_it_has (has_part b p.purpose part) (find byte_cmp (file_name p part) files)) (front_files w en slot) in
      let slot_left = ap (λ (o : Option (List ℕ)). option_and_then (slice_get f.slots) (option_and_then slot_number o)) (file Weaver)
      ∙ ap (option_and_then (slice_get f.slots)) number ∙ blanked w slot fits
      ∙ sym (ap (λ (o : Option ℕ). option_map (λ _. blank_slot) (option_and_then (slice_get w.slots) o)) number) in
      let counter = ap (λ (x : Bool). where_it_has (is_enrolled x p.purpose) (record_at f.gk p.id)) (with_slots w slot fits) ∙ front_counter w en slot in
      ap (λ (v : World). held v p) (erased_is w slot)
      ∙ ap (λ (x : Bool). held_at p x f) weaver
      ∙ (λ i. record { weaver = b; files = λ part. file part i; slot = slot_left i; counter = counter i; device = front_device w en slot i; key = front_key w en slot i })
