-- What a world holds of a protector depends on its parts alone.
use Rattle.std.proofs.Common.{◌≡◌, ◌≤◌, ◌<◌, ◌⊎◌, inl, inr, ℕ, Bool, true, false, List, length, get_or, Option, None, Some, refl, sym, ap, ◌∙◌, arith}
use Rattle.std.specs.Prelude.{slice_get, nat_lt}
use Rattle.std.specs.Option.{option_and_then}
use Rattle.std.proofs.Math.Dec.{ltb}
use Rattle.std.proofs.lemmas.Bool.{cases_Bool, ltb-true, ltb-false}
use Rattle.std.proofs.lemmas.Option.{slice_get-get_or, slice_get_past}
use Rattle.ls_formats.specs.declared.part.FilePart.{FilePart}
use Rattle.ls_formats.specs.declared.part.FilePart.TheVariants.{Weaver}
use Rattle.ls_weaver.specs.declared.slot.Slot.{Slot}
use Rattle.ls_weaver.specs.Slots.{blank_slot}
use Rattle.ls_board.specs.declared.world.World.{World}
use Rattle.ls_board.specs.Effect.{file_at, touch_at, slot_at}
use Rattle.ls_board.specs.Gatekeeper.{record_at}
use Rattle.ls_board.specs.Images.{Leaves}
use Rattle.ls_board.specs.Keys.{key_at}
use Rattle.ls_board.specs.Reach.{Reach, SameBut, LeavesBut}
use Rattle.ls_board.proofs.CrashLemmas.{untouched}
use Rattle.ls_board.proofs.FrameLemmas.{left_untouched, left_slot, left_counter, left_key}
use Rattle.ls_sealing.specs.Protectors.{Protector, has_part, is_enrolled, file_name, Held, has_weaver, slot_number, where_it_has, held_number, held}
use Rattle.ls_sealing.specs.Sparing.{SameParts, IsUntouched, Spares}

where_same : {X : Type 0} (b : Bool) (x y : Option X) → (b ≡ true → x ≡ y) → where_it_has b x ≡ where_it_has b y
where_same true x y same = same refl
where_same false x y same = refl

-- the same slot, looked up
same_get : (old new : List Slot) (n : ℕ) → length new ≡ length old → get_or new n blank_slot ≡ get_or old n blank_slot → slice_get new n ≡ slice_get old n
same_get old new n long same = by (cases_Bool (ltb n (length old)))
  where
    by : (ltb n (length old) ≡ true) ⊎ (ltb n (length old) ≡ false) → slice_get new n ≡ slice_get old n
    by (inl inside) =
        let lt : n < length old = ltb-true n (length old) inside in
        slice_get-get_or new n blank_slot (omega arith) ∙ ap Some same ∙ sym (slice_get-get_or old n blank_slot lt)
    by (inr past) =
        let le : length old ≤ n = ltb-false n (length old) past in
        slice_get_past new n (omega arith) ∙ sym (slice_get_past old n le)

same_slot : (old new : List Slot) (o : Option ℕ) → ((n : ℕ) → o ≡ Some n → slice_get new n ≡ slice_get old n) → option_and_then (slice_get new) o ≡ option_and_then (slice_get old) o
same_slot old new None same = refl
same_slot old new (Some n) same = same n refl

module _ (p : Protector) where
  abbrev pub held_at : Bool → World → Held
  held_at b v = record {
    weaver = b;
    files = λ part. where_it_has (has_part b p.purpose part) (file_at v (file_name p part));
    slot = option_and_then (slice_get v.slots) (option_and_then slot_number (where_it_has (has_part b p.purpose Weaver) (file_at v (file_name p Weaver))));
    counter = where_it_has (is_enrolled b p.purpose) (record_at v.gk p.id);
    device = v.gk_key;
    key = key_at v.keys p.id;
  }

  pub held_same : (old new : World) → SameParts p old new → held new p ≡ held old p
  held_same old new same =
      let b = has_weaver old in
      let weaver : has_weaver new ≡ b = ap (nat_lt 0) same.count in
      let file : (part : FilePart) → where_it_has (has_part b p.purpose part) (file_at new (file_name p part)) ≡ where_it_has (has_part b p.purpose part) (file_at old (file_name p part))
      = λ part. where_same (has_part b p.purpose part) (file_at new (file_name p part)) (file_at old (file_name p part)) (same.file part) in
      let counter = where_same (is_enrolled b p.purpose) (record_at new.gk p.id) (record_at old.gk p.id) same.counter in
      let slot = ap (λ (f : Option (List ℕ)). option_and_then (slice_get new.slots) (option_and_then slot_number f)) (file Weaver)
      ∙ same_slot old.slots new.slots (held_number old p) (λ n is. same_get old.slots new.slots n same.count (same.slot n is)) in
      ap (λ (x : Bool). held_at x new) weaver
      ∙ (λ i. record {
        weaver = b;
        files = λ part. file part i;
        slot = slot i;
        counter = counter i;
        device = same.device i;
        key = same.key i;
      })

  -- a crash leaves what wasn't touched
  pub held_left : (w image : World) → IsUntouched w p → Leaves w image → held image p ≡ held w p
  held_left w image still left = held_same w image (record {
    count = ap (λ (v : World). length v.slots) left.rest;
    file = λ part has. untouched w image (file_name p part) (still part has) left;
    slot = λ n is. ap (λ (v : World). slot_at v n) left.rest;
    counter = λ en. ap (λ (v : World). record_at v.gk p.id) left.rest;
    device = ap (λ (v : World). v.gk_key) left.rest;
    key = ap (λ (v : World). key_at v.keys p.id) left.rest;
  })

  -- what is spared stays
  pub held_but : (reach : Reach) (old new : World) → Spares reach old p → SameBut reach old new → held new p ≡ held old p
  held_but reach old new spares same = held_same old new (record {
    count = same.count;
    file = λ part has. same.file (file_name p part) (spares.file part has);
    slot = λ n is. same.slot n (spares.slot n is);
    counter = λ en. same.counter p.id (spares.counter en);
    device = ap (λ (v : World). v.gk_key) same.rest;
    key = same.key p.id spares.key;
  })

  pub held_left_but : (reach : Reach) (w image : World) → Spares reach w p → IsUntouched w p → LeavesBut reach w image → held image p ≡ held w p
  held_left_but reach w image spares still left =
      held_same w image (record {
        count = ap (λ (v : World). length v.slots) left.2.rest ∙ left.1.count;
        file = λ part has. left_untouched reach w image (file_name p part) (spares.file part has) (still part has) left;
        slot = λ n is. left_slot reach w image n (spares.slot n is) left;
        counter = λ en. left_counter reach w image p.id (spares.counter en) left;
        device = ap (λ (v : World). v.gk_key) left.2.rest ∙ ap (λ (v : World). v.gk_key) left.1.rest;
        key = left_key reach w image p.id spares.key left;
      })

  -- what is untouched stays so where it is spared
  pub still_but : (reach : Reach) (old new : World) → Spares reach old p → SameBut reach old new → IsUntouched old p → IsUntouched new p
  still_but reach old new spares same still part has =
      let b : has_weaver new ≡ has_weaver old = ap (nat_lt 0) same.count in
      let was : has_part (has_weaver old) p.purpose part ≡ true = ap (λ (x : Bool). has_part x p.purpose part) (sym b) ∙ has in
      by (same.touch (file_name p part) (spares.file part was)) (still part was)
    where
      by : (touch_at new (file_name p part) ≡ touch_at old (file_name p part)) ⊎ (touch_at new (file_name p part) ≡ None) → touch_at old (file_name p part) ≡ None → touch_at new (file_name p part) ≡ None
      by (inl as_before) none = as_before ∙ none
      by (inr none) before = none
