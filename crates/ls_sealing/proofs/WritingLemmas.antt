-- What a world holds of a protector after the actions that write it.
use Rattle.std.proofs.Common.{◌≡◌, ◌<◌, ◌^◌, ◌+◌, ◌||◌, ◌⊎◌, inl, inr, ℕ, Bool, true, false, cond, List, [], ◌∷◌, ◌++◌, length, get_or, Option, None, Some, refl, sym, ap, subst, ◌∙◌, arith, eq-eqb, length-set, get_or-set_same}
use Rattle.std.specs.Prelude.{is_some, bytes_eq, slice_get, slice_set, nat_lt}
use Rattle.std.specs.Option.{option_map, option_and_then}
use Rattle.std.specs.List.{list_any}
use Rattle.std.specs.Ordering.{nat_cmp}
use Rattle.std.proofs.Math.Dec.{eqb, ltb}
use Rattle.std.proofs.lemmas.Bool.{cases_Bool, eqb-true, lt-ltb}
use Rattle.std.proofs.lemmas.Cmp.{nat_cmp_total}
use Rattle.std.proofs.lemmas.List.{append-nil}
use Rattle.std.proofs.lemmas.Option.{slice_get-get_or}
use Rattle.std.proofs.lemmas.Slice.Eq.{bytes_eq-Decides}
use Rattle.byteorder.specs.Endian.{big_number}
use Rattle.ls_bytes.specs.Fields.{be32}
use Rattle.ls_bytes.proofs.FieldLemmas.{big_number-be32}
use Rattle.ls_credential.specs.declared.kind.Kind.TheVariants.{Empty, Pattern, Pin, Password}
use Rattle.ls_formats.specs.declared.part.FilePart.{FilePart}
use Rattle.ls_formats.specs.declared.part.FilePart.TheVariants.{SpBlob, Pwd, Secdis, Weaver, Metrics, Handle, E0, P1, Resume}
use Rattle.ls_formats.specs.Contents.{slot_bytes}
use Rattle.ls_formats.specs.PartNames.{PartOf, part_text}
use Rattle.ls_formats.proofs.NameLemmas.{part_letters}
use Rattle.ls_naming.specs.Named.{only_if}
use Rattle.ls_naming.specs.Membership.{part_number, same_part}
use Rattle.ls_weaver.specs.declared.slot.Slot.{Slot}
use Rattle.ls_weaver.specs.Slots.{written, blank_slot}
use Rattle.ls_board.specs.declared.action.Action.TheVariants.{Put, GkEnroll, KeyPut}
use Rattle.ls_board.specs.declared.world.World.{World}
use Rattle.ls_board.specs.Effect.{file_at, put_mark, after}
use Rattle.ls_board.specs.Gatekeeper.{no_fails, record_at}
use Rattle.ls_board.specs.Keys.{key_at}
use Rattle.ls_board.specs.Runs.{after_all}
use Rattle.ls_board.proofs.FileLemmas.{file_marked_same, file_marked_other}
use Rattle.ls_board.proofs.LookupLemmas.{put_same}
use Rattle.ls_board.proofs.RunLemmas.{after_all-append}
use Rattle.ls_sealing.specs.Protectors.{Purpose, credential, token, Protector, parts_for, has_part, is_enrolled, file_name, has_weaver, slot_number, where_it_has, held}
use Rattle.ls_sealing.proofs.HeldLemmas.{held_at}
use Rattle.ls_sealing.specs.Building.{Writing, slot_writes, puts, writing_actions, held_of, slot_file, FitsSlots}

-- ---- parts and names

part_at : ℕ → FilePart
part_at n =
    cond (eqb n 0) SpBlob
    (cond (eqb n 1) Pwd
    (cond (eqb n 2) Secdis
    (cond (eqb n 3) Weaver
    (cond (eqb n 4) Metrics
    (cond (eqb n 5) Handle
    (cond (eqb n 6) E0
    (cond (eqb n 7) P1 Resume)))))))

part_again : (p : FilePart) → part_at (part_number p) ≡ p
unfolding part_at
part_again SpBlob = refl
part_again Pwd = refl
part_again Secdis = refl
part_again Weaver = refl
part_again Metrics = refl
part_again Handle = refl
part_again E0 = refl
part_again P1 = refl
part_again Resume = refl

pub same_is : (p q : FilePart) → same_part p q ≡ true → p ≡ q
same_is p q e = sym (part_again p) ∙ ap part_at (eqb-true (part_number p) (part_number q) e) ∙ part_again q

-- the sum of the second letter and the third of a part's name tells its number
number_of : List ℕ → ℕ
number_of text =
    let n = get_or text 1 0 + get_or text 2 0 in
    cond (eqb n 210) 0
    (cond (eqb n 219) 1
    (cond (eqb n 200) 2
    (cond (eqb n 198) 3
    (cond (eqb n 217) 4
    (cond (eqb n 207) 5
    (cond (eqb n 48) 6
    (cond (eqb n 49) 7 8)))))))

number_again : (p : FilePart) → number_of (part_text p) ≡ part_number p
unfolding number_of
number_again SpBlob = refl
number_again Pwd = refl
number_again Secdis = refl
number_again Weaver = refl
number_again Metrics = refl
number_again Handle = refl
number_again E0 = refl
number_again P1 = refl
number_again Resume = refl

-- one protector's files of two parts have two names
pub names_same : (p : Protector) (a b : FilePart) → file_name p a ≡ file_name p b → same_part a b ≡ true
names_same p a b e =
    let part_of : FilePart → PartOf = λ part. record { user = p.user; id = p.id; part = part } in
    let letters : part_text a ≡ part_text b = part_letters (part_of a) (file_name p b) e ∙ sym (part_letters (part_of b) (file_name p b) refl) in
    eq-eqb (part_number a) (part_number b) (sym (number_again a) ∙ ap number_of letters ∙ number_again b)

-- ---- slots

-- a protector has a `weaver` file exactly with Weaver
weaver_part : (weaver : Bool) (purpose : Purpose) → has_part weaver purpose Weaver ≡ weaver
weaver_part true (credential Empty) = refl
weaver_part true (credential Pattern) = refl
weaver_part true (credential Pin) = refl
weaver_part true (credential Password) = refl
weaver_part true token = refl
weaver_part false (credential Empty) = refl
weaver_part false (credential Pattern) = refl
weaver_part false (credential Pin) = refl
weaver_part false (credential Password) = refl
weaver_part false token = refl

-- the file of a slot names it
pub number_again_slot : (n : ℕ) → n < 2 ^ 32 → slot_number (slot_bytes (record { slot = n })) ≡ Some n
number_again_slot n small =
    let file = slot_bytes (record { slot = n }) in
    let again : big_number 4 (be32 n) ≡ n = ap (big_number 4) (sym (append-nil (be32 n))) ∙ big_number-be32 n [] small in
    ap (λ (k : ℕ). cond (bytes_eq file (slot_bytes (record { slot = k }))) (Some k) None) again
    ∙ ap (λ (b : Bool). cond b (Some n) None) ((bytes_eq-Decides file file).1 refl)

-- of two tests, either chooses the first
pub cond_or : {X : Type 0} (a b : Bool) (x y : X) → cond b x (cond a x y) ≡ cond (a || b) x y
cond_or true true x y = refl
cond_or true false x y = refl
cond_or false true x y = refl
cond_or false false x y = refl

module _ (p : Protector) (m : Writing) where
  -- ---- putting files

  -- it changes files alone
  puts_rest : (v : World) (parts : List FilePart) → after_all v (puts p m.content parts) ≡ record v { files = (after_all v (puts p m.content parts)).files; touched = (after_all v (puts p m.content parts)).touched }
  puts_rest v [] = refl
  puts_rest v (q ∷ parts) = puts_rest (after v (Put (file_name p q) (m.content q)) 0) parts

  put_one : (v : World) (q part : FilePart)
      → file_at (after v (Put (file_name p q) (m.content q)) 0) (file_name p part) ≡ cond (same_part part q) (Some (m.content part)) (file_at v (file_name p part))
  put_one v q part = by (cases_Bool (same_part part q))
    where
      by : (same_part part q ≡ true) ⊎ (same_part part q ≡ false)
          → file_at (after v (Put (file_name p q) (m.content q)) 0) (file_name p part) ≡ cond (same_part part q) (Some (m.content part)) (file_at v (file_name p part))
      by (inl hit) =
          let is : part ≡ q = same_is part q hit in
          ap (λ (r : FilePart). file_at (after v (Put (file_name p q) (m.content q)) 0) (file_name p r)) is
          ∙ file_marked_same v (put_mark v (file_name p q) (m.content q))
          ∙ ap (λ (r : FilePart). Some (m.content r)) (sym is)
          ∙ ap (λ (b : Bool). cond b (Some (m.content part)) (file_at v (file_name p part))) (sym hit)
      by (inr other) =
          file_marked_other v (put_mark v (file_name p q) (m.content q)) (file_name p part)
          (λ e. let no_way : true ≡ false = sym (names_same p part q e) ∙ other in cc)
          ∙ ap (λ (b : Bool). cond b (Some (m.content part)) (file_at v (file_name p part))) (sym other)

  -- each part that is put is there, and each other file is as it was
  puts_file : (v : World) (parts : List FilePart) (part : FilePart)
      → file_at (after_all v (puts p m.content parts)) (file_name p part) ≡ cond (list_any (same_part part) parts) (Some (m.content part)) (file_at v (file_name p part))
  puts_file v [] part = refl
  puts_file v (q ∷ parts) part =
      puts_file (after v (Put (file_name p q) (m.content q)) 0) parts part
      ∙ ap (λ (f : Option (List ℕ)). cond (list_any (same_part part) parts) (Some (m.content part)) f) (put_one v q part)
      ∙ cond_or (same_part part q) (list_any (same_part part) parts) (Some (m.content part)) (file_at v (file_name p part))

  -- ---- the devices before them

  front : World → Bool → Option ℕ → World
  front w en slot = after_all (after_all (after w (KeyPut p.id m.key) 0) (only_if en (GkEnroll p.id ∷ []))) (slot_writes slot m.slot_key m.value)

  front_counter : (w : World) (en : Bool) (slot : Option ℕ) → where_it_has en (record_at (front w en slot).gk p.id) ≡ where_it_has en (Some no_fails)
  unfolding front
  front_counter w true None = put_same nat_cmp nat_cmp_total w.gk p.id no_fails
  front_counter w true (Some slot) = put_same nat_cmp nat_cmp_total w.gk p.id no_fails
  front_counter w false None = refl
  front_counter w false (Some slot) = refl

  front_key : (w : World) (en : Bool) (slot : Option ℕ) → key_at (front w en slot).keys p.id ≡ Some m.key
  unfolding front
  front_key w true None = put_same nat_cmp nat_cmp_total w.keys p.id m.key
  front_key w true (Some slot) = put_same nat_cmp nat_cmp_total w.keys p.id m.key
  front_key w false None = put_same nat_cmp nat_cmp_total w.keys p.id m.key
  front_key w false (Some slot) = put_same nat_cmp nat_cmp_total w.keys p.id m.key

  front_device : (w : World) (en : Bool) (slot : Option ℕ) → (front w en slot).gk_key ≡ w.gk_key
  unfolding front
  front_device w true None = refl
  front_device w true (Some slot) = refl
  front_device w false None = refl
  front_device w false (Some slot) = refl

  slots_after : World → Option ℕ → List Slot
  slots_after w None = w.slots
  slots_after w (Some slot) = slice_set w.slots slot (written m.slot_key m.value)

  front_slots : (w : World) (en : Bool) (slot : Option ℕ) → (front w en slot).slots ≡ slots_after w slot
  unfolding front slots_after
  front_slots w true None = refl
  front_slots w true (Some slot) = refl
  front_slots w false None = refl
  front_slots w false (Some slot) = refl

  -- ---- all of them

  whole : (w : World) (slot : Option ℕ) → World
  whole w slot = after_all w (writing_actions p slot m)

  whole_is : (w : World) (slot : Option ℕ)
      → whole w slot ≡ after_all (front w (is_enrolled (is_some slot) p.purpose) slot) (puts p m.content (parts_for (is_some slot) p.purpose))
  unfolding front whole
  whole_is w slot =
      let w1 = after w (KeyPut p.id m.key) 0 in
      let en = only_if (is_enrolled (is_some slot) p.purpose) (GkEnroll p.id ∷ []) in
      after_all-append w1 en (slot_writes slot m.slot_key m.value ++ puts p m.content (parts_for (is_some slot) p.purpose))
      ∙ after_all-append (after_all w1 en) (slot_writes slot m.slot_key m.value) (puts p m.content (parts_for (is_some slot) p.purpose))

  -- what each part of the world is then
  record IsWritten (w : World) (slot : Option ℕ) (new : World) : Type 0 where
    pub slots : new.slots ≡ slots_after w slot
    pub device : new.gk_key ≡ w.gk_key
    pub counter : where_it_has (is_enrolled (is_some slot) p.purpose) (record_at new.gk p.id) ≡ where_it_has (is_enrolled (is_some slot) p.purpose) (Some no_fails)
    pub key : key_at new.keys p.id ≡ Some m.key
    pub file : (part : FilePart) → where_it_has (has_part (is_some slot) p.purpose part) (file_at new (file_name p part)) ≡ where_it_has (has_part (is_some slot) p.purpose part) (Some (m.content part))

  where_cond : {X : Type 0} (b : Bool) (x y : Option X) → where_it_has b (cond b x y) ≡ where_it_has b x
  where_cond true x y = refl
  where_cond false x y = refl

  is_written : (w : World) (slot : Option ℕ) → IsWritten w slot (whole w slot)
  is_written w slot =
      let en = is_enrolled (is_some slot) p.purpose in
      let parts = parts_for (is_some slot) p.purpose in
      let f = front w en slot in
      let rest = puts_rest f parts in
      subst (IsWritten w slot) (sym (whole_is w slot)) (record {
        slots = ap (λ (v : World). v.slots) rest ∙ front_slots w en slot;
        device = ap (λ (v : World). v.gk_key) rest ∙ front_device w en slot;
        counter = ap (λ (v : World). where_it_has en (record_at v.gk p.id)) rest ∙ front_counter w en slot;
        key = ap (λ (v : World). key_at v.keys p.id) rest ∙ front_key w en slot;
        file = λ part. ap (where_it_has (has_part (is_some slot) p.purpose part)) (puts_file f parts part)
            ∙ where_cond (list_any (same_part part) parts) (Some (m.content part)) (file_at f (file_name p part));
      })

  -- ---- what the world holds then

  with_slots : (w : World) (slot : Option ℕ) → FitsSlots slot w → nat_lt 0 (length (slots_after w slot)) ≡ is_some slot
  unfolding slots_after
  with_slots w None fits = ap (nat_lt 0) fits
  with_slots w (Some n) fits =
      lt-ltb 0 (length (slice_set w.slots n (written m.slot_key m.value))) (let lt = fits.0 in omega (arith, length-set w.slots n (written m.slot_key m.value)))

  held_slot : (w : World) (slot : Option ℕ) (slots : List Slot) (file : Option (List ℕ)) → FitsSlots slot w → m.content Weaver ≡ slot_file slot → slots ≡ slots_after w slot
      → file ≡ where_it_has (has_part (is_some slot) p.purpose Weaver) (Some (m.content Weaver))
      → option_and_then (slice_get slots) (option_and_then slot_number file) ≡ option_map (λ _. written m.slot_key m.value) slot
  unfolding slots_after
  held_slot w None slots file fits spelled es ef =
      ap (λ (f : Option (List ℕ)). option_and_then (slice_get slots) (option_and_then slot_number f))
      (ef ∙ ap (λ (b : Bool). where_it_has b (Some (m.content Weaver))) (weaver_part false p.purpose))
  held_slot w (Some n) slots file fits spelled es ef =
      let new = written m.slot_key m.value in
      let lt : n < length w.slots = fits.0 in
      let long : n < length (slice_set w.slots n new) = omega (arith, length-set w.slots n new) in
      ap (λ (f : Option (List ℕ)). option_and_then (slice_get slots) (option_and_then slot_number f))
      (ef ∙ ap (λ (b : Bool). where_it_has b (Some (m.content Weaver))) (weaver_part true p.purpose) ∙ ap Some spelled)
      ∙ ap (option_and_then (slice_get slots)) (number_again_slot n fits.1)
      ∙ ap (λ (l : List Slot). slice_get l n) es
      ∙ slice_get-get_or (slice_set w.slots n new) n blank_slot long
      ∙ ap Some (get_or-set_same w.slots n new blank_slot lt)

  pub is_held : (w : World) (slot : Option ℕ) → FitsSlots slot w → m.content Weaver ≡ slot_file slot → held (after_all w (writing_actions p slot m)) p ≡ held_of p.purpose slot m w.gk_key
  unfolding whole
  is_held w slot fits spelled =
      let new = after_all w (writing_actions p slot m) in
      let is = is_written w slot in
      let weaver : has_weaver new ≡ is_some slot = ap (λ (l : List Slot). nat_lt 0 (length l)) is.slots ∙ with_slots w slot fits in
      let first : held new p ≡ held_at p (has_weaver new) new = refl in
      let number = held_slot w slot new.slots (where_it_has (has_part (is_some slot) p.purpose Weaver) (file_at new (file_name p Weaver))) fits spelled is.slots (is.file Weaver) in
      first ∙ ap (λ (b : Bool). held_at p b new) weaver
      ∙ (λ i. record {
        weaver = is_some slot;
        files = λ part. is.file part i;
        slot = number i;
        counter = is.counter i;
        device = is.device i;
        key = is.key i;
      })
