-- The slots that a record names are those of the protectors that it names.
use Rattle.std.proofs.Common.{◌≡◌, ◌≢◌, ◌<◌, ◌^◌, ◌⊎◌, inl, inr, ◌%◌, not, ℕ, zero, suc, Bool, true, false, cond, List, [], ◌∷◌, ◌++◌, drop, Option, None, Some, refl, sym, ap, subst, ◌∙◌, arith}
use Rattle.std.specs.Prelude.{map, bytes_eq}
use Rattle.std.specs.List.{AllByRecursion, list_any, Contains}
use Rattle.std.specs.Option.{option_and_then}
use Rattle.std.proofs.Math.Dec.{eqb}
use Rattle.std.proofs.lemmas.Bool.{and_parts, not-true, eq-eqb, eqb-false}
use Rattle.std.proofs.lemmas.List.Elements.{All-from_recursion, Contains-append_left, Contains-append_right, Contains-append_cases}
use Rattle.std.proofs.lemmas.Slice.Eq.{bytes_eq-Decides}
use Rattle.byteorder.specs.Endian.{big_number}
use Rattle.byteorder.specs.Numbers.{big_from-lt}
use Rattle.ls_bytes.specs.Fields.{be32}
use Rattle.ls_credential.specs.declared.kind.Kind.TheVariants.{Empty, Pattern, Pin, Password}
use Rattle.ls_formats.specs.declared.part.FilePart.{FilePart}
use Rattle.ls_formats.specs.declared.part.FilePart.TheVariants.{SpBlob, Pwd, Secdis, Weaver, Metrics, Handle, E0, P1, Resume}
use Rattle.ls_formats.specs.PartNames.{PartOf, part_name_text}
use Rattle.ls_formats.proofs.ContentLemmas.{big_are_bytes}
use Rattle.ls_record.specs.declared.row.UserRow.{UserRow}
use Rattle.ls_arming.specs.declared.arming.Arming.{Arming}
use Rattle.ls_record.specs.Rows.{Rec, IsRow, IsRecord, is_odd}
use Rattle.ls_naming.specs.Membership.{same_part, part_number}
use Rattle.ls_naming.specs.Named.{only_if, is_armed, has_credential, has_secure, user_parts, credential_parts, token_parts, parts_of, token_files, row_files, NamesSlot}
use Rattle.ls_board.specs.declared.world.World.{World}
use Rattle.ls_board.specs.Effect.{file_at}
use Rattle.ls_sealing.specs.Protectors.{Purpose, credential, token, Protector, HasNumbers, parts_for, has_part, file_name, has_weaver, slot_number, where_it_has, held_number}
use Rattle.ls_sealing.specs.Sparing.{Spares, reach_of}
use Rattle.ls_sealing.proofs.ApartLemmas.{spare}
use Rattle.ls_sealing.proofs.WritingLemmas.{number_again_slot}
use Rattle.ls_standing.specs.Named.{credential_of, token_of}
use Rattle.ls_standing.specs.NamedProtectors.{row_protectors, NamesProtector}
use Rattle.ls_standing.specs.Opening.{first_foreign}
use Rattle.ls_standing.proofs.ContainsLemmas.{none_in, at_first, behind_first, first_or_behind, in_map, of_map, in_flat, of_flat, any_contained}
use Rattle.ls_standing.proofs.IdLemmas.{one_protector}
use Rattle.ls_standing.proofs.SlotFileLemmas.{of_slot}
use Rattle.ls_standing.proofs.SlotLemmas.{one_name}

-- ---- the slot of a protector

-- what a slot's number is read of
slot_read : (file : List ℕ) (slot : ℕ) → slot_number file ≡ Some slot → (slot < 2 ^ 32) × (file ≡ of_slot slot)
slot_read file slot e = by (bytes_eq file (of_slot n)) refl e
  where
    n : ℕ
    n = big_number 4 (drop 1 file)

    spelled : file ≡ of_slot n → n < 2 ^ 32
    spelled is = subst (λ (l : List ℕ). big_number 4 (drop 1 l) < 2 ^ 32) (sym is) (big_from-lt 0 4 (be32 n) (big_are_bytes 4 n).each)

    by : (b : Bool) → bytes_eq file (of_slot n) ≡ b → cond b (Some n) None ≡ Some slot → (slot < 2 ^ 32) × (file ≡ of_slot slot)
    by true same found =
        let is : n ≡ slot = cc in
        let spelling : file ≡ of_slot n = (bytes_eq-Decides file (of_slot n)).0 same in
        (subst (λ (m : ℕ). m < 2 ^ 32) is (spelled spelling), spelling ∙ ap of_slot is)
    by false same found = absurd (cc)

-- what a protector has whose slot has a number
pub record HasSlot (has : Bool) (file : Option (List ℕ)) (slot : ℕ) : Type 0 where
  pub has_it : has ≡ true
  pub small : slot < 2 ^ 32
  pub holds : file ≡ Some (of_slot slot)

pub has_slot : (has : Bool) (file : Option (List ℕ)) (slot : ℕ) → option_and_then slot_number (where_it_has has file) ≡ Some slot → HasSlot has file slot
has_slot false file slot e = absurd (cc)
has_slot true None slot e = absurd (cc)
has_slot true (Some file) slot e = let read = slot_read file slot e in record { has_it = refl; small = read.0; holds = ap Some read.1 }

-- ---- its `weaver` file

-- a protector with such a file
has_weaver_part : (b : Bool) (purpose : Purpose) → has_part b purpose Weaver ≡ true → Contains (parts_for b purpose) Weaver
has_weaver_part true (credential kind) has =
    let back = only_if (has_credential kind) (Metrics ∷ []) in
    let front = only_if (has_credential kind) (Pwd ∷ []) in
    behind_first SpBlob (front ++ (Weaver ∷ back)) Weaver (Contains-append_right front (Weaver ∷ back) Weaver (at_first Weaver back))
has_weaver_part false (credential Empty) has = absurd (cc)
has_weaver_part false (credential Pattern) has = absurd (cc)
has_weaver_part false (credential Pin) has = absurd (cc)
has_weaver_part false (credential Password) has = absurd (cc)
has_weaver_part true token has = behind_first SpBlob (Secdis ∷ Weaver ∷ []) Weaver (behind_first Secdis (Weaver ∷ []) Weaver (at_first Weaver []))
has_weaver_part false token has = absurd (cc)

pub any_part : (parts : List FilePart) (part : FilePart) → Contains parts part → list_any (same_part part) parts ≡ true
any_part parts part h = any_contained (same_part part) parts part h (eq-eqb (part_number part) (part_number part) refl)

-- the files of a protector
abbrev pub protector_files : Bool → Protector → List PartOf
protector_files b p = parts_of p.user p.id (parts_for b p.purpose)

-- its `weaver` file names its slot
pub number_held : (w : World) (p : Protector) (name : PartOf) (slot : ℕ) → Contains (protector_files (has_weaver w) p) name → name.part ≡ Weaver
    → slot < 2 ^ 32 → file_at w (part_name_text name) ≡ Some (of_slot slot) → held_number w p ≡ Some slot
number_held w p name slot within part small holds =
    let b = has_weaver w in
    let found = of_map (λ (x : FilePart). record { user = p.user; id = p.id; part = x }) (parts_for b p.purpose) name within in
    let is : found.0 ≡ Weaver = ap (λ (n : PartOf). n.part) found.2 ∙ part in
    let has = any_part (parts_for b p.purpose) Weaver (subst (Contains (parts_for b p.purpose)) is found.1) in
    let named : part_name_text name ≡ file_name p Weaver = ap part_name_text (sym found.2) ∙ ap (file_name p) is in
    ap (λ (x : Bool). option_and_then slot_number (where_it_has x (file_at w (file_name p Weaver)))) has
    ∙ ap (λ (n : List ℕ). option_and_then slot_number (file_at w n)) (sym named)
    ∙ ap (option_and_then slot_number) holds
    ∙ number_again_slot slot small

-- ---- rows

-- no part of these is a slot
abbrev pub NoneIsWeaver : List FilePart → Type 0
NoneIsWeaver parts = AllByRecursion (λ p. p ≢ Weaver) parts

none_is : (parts : List FilePart) → NoneIsWeaver parts → ¬ Contains parts Weaver
none_is parts all (k, within, is) = All-from_recursion (λ p. p ≢ Weaver) parts all k Weaver within is

pub none_only_if : (b : Bool) (parts : List FilePart) → NoneIsWeaver parts → ¬ Contains (only_if b parts) Weaver
none_only_if true parts all h = none_is parts all h
none_only_if false parts all h = none_in Weaver h

-- a user has no slot beside its protectors
user_has_none : (armed : Option Arming) (row : UserRow) → ¬ Contains (user_parts armed row) Weaver
user_has_none armed row h =
    let secure = only_if (has_secure row) (Handle ∷ []) in
    let escrow = only_if row.escrow (E0 ∷ P1 ∷ []) in
    let resume = only_if (is_armed armed row.user) (Resume ∷ []) in
    by (Contains-append_cases secure (escrow ++ resume) Weaver h) (Contains-append_cases escrow resume Weaver)
  where
    by : Contains (only_if (has_secure row) (Handle ∷ [])) Weaver ⊎ Contains (only_if row.escrow (E0 ∷ P1 ∷ []) ++ only_if (is_armed armed row.user) (Resume ∷ [])) Weaver
        → (Contains (only_if row.escrow (E0 ∷ P1 ∷ []) ++ only_if (is_armed armed row.user) (Resume ∷ [])) Weaver → Contains (only_if row.escrow (E0 ∷ P1 ∷ [])) Weaver ⊎ Contains (only_if (is_armed armed row.user) (Resume ∷ [])) Weaver) → ⊥
    by (inl k) rest = none_only_if (has_secure row) (Handle ∷ []) (λ e. absurd (cc), tt) k
    by (inr k) rest = behind (rest k)
      where
        behind : Contains (only_if row.escrow (E0 ∷ P1 ∷ [])) Weaver ⊎ Contains (only_if (is_armed armed row.user) (Resume ∷ [])) Weaver → ⊥
        behind (inl m) = none_only_if row.escrow (E0 ∷ P1 ∷ []) (λ e. absurd (cc), (λ e. absurd (cc), tt)) m
        behind (inr m) = none_only_if (is_armed armed row.user) (Resume ∷ []) (λ e. absurd (cc), tt) m

-- the files of the user itself
abbrev pub own_files : Option Arming → UserRow → List PartOf
own_files armed row = parts_of row.user 0 (user_parts armed row)

pub own_has_none : (armed : Option Arming) (row : UserRow) (name : PartOf) → name.part ≡ Weaver → ¬ Contains (own_files armed row) name
own_has_none armed row name part k =
    let found = of_map (λ (x : FilePart). record { user = row.user; id = 0; part = x }) (user_parts armed row) name k in
    let is : found.0 ≡ Weaver = ap (λ (n : PartOf). n.part) found.2 ∙ part in
    user_has_none armed row (subst (Contains (user_parts armed row)) is found.1)

module _ (b : Bool) (armed : Option Arming) (row : UserRow) where
  abbrev credential_files : List PartOf
  credential_files = parts_of row.user row.protector (credential_parts b row.kind)

  -- the files of a row's protectors are files of the row
  pub in_row : (p : Protector) (name : PartOf) → Contains (row_protectors row) p → Contains (protector_files b p) name → Contains (row_files b armed row) name
  in_row p name own within = Contains-append_right (own_files armed row) (credential_files ++ token_files b row) name (by (first_or_behind (credential_of row) (map (token_of row) row.tokens) p own))
    where
      by : (credential_of row ≡ p) ⊎ Contains (map (token_of row) row.tokens) p → Contains (credential_files ++ token_files b row) name
      by (inl e) = Contains-append_left credential_files (token_files b row) name (subst (λ (x : Protector). Contains (protector_files b x) name) (sym e) within)
      by (inr k) =
          let found = of_map (token_of row) row.tokens p k in
          Contains-append_right credential_files (token_files b row) name
          (in_flat (λ (t : ℕ). parts_of row.user t (token_parts b)) row.tokens found.0 name found.1 (subst (λ (x : Protector). Contains (protector_files b x) name) (sym found.2) within))

  -- a `weaver` file of the row is one of a protector of it
  pub record IsOfProtector (name : PartOf) : Type 0 where
    pub of : Protector
    pub own : Contains (row_protectors row) of
    pub within : Contains (protector_files b of) name

  pub of_row : (name : PartOf) → name.part ≡ Weaver → Contains (row_files b armed row) name → IsOfProtector name
  of_row name part h = by (Contains-append_cases (own_files armed row) (credential_files ++ token_files b row) name h) (Contains-append_cases credential_files (token_files b row) name)
    where
      of_protector : Contains credential_files name ⊎ Contains (token_files b row) name → IsOfProtector name
      of_protector (inl k) = record { of = credential_of row; own = at_first (credential_of row) (map (token_of row) row.tokens); within = k }
      of_protector (inr k) =
          let found = of_flat (λ (t : ℕ). parts_of row.user t (token_parts b)) row.tokens name k in
          record {
            of = token_of row found.0;
            own = behind_first (credential_of row) (map (token_of row) row.tokens) (token_of row found.0) (in_map (token_of row) row.tokens found.0 found.1);
            within = found.2;
          }

      by : Contains (own_files armed row) name ⊎ Contains (credential_files ++ token_files b row) name
          → (Contains (credential_files ++ token_files b row) name → Contains credential_files name ⊎ Contains (token_files b row) name) → IsOfProtector name
      by (inl k) rest = absurd (own_has_none armed row name part k)
      by (inr k) rest = of_protector (rest k)

-- ---- records

module _ (w : World) (r : Rec) where
  pub owned : (slot : ℕ) → NamesSlot (has_weaver w) r (file_at w) slot → (p : Protector) × NamesProtector r p × (held_number w p ≡ Some slot)
  owned slot h =
      let b = has_weaver w in
      let found = of_flat (row_files b r.armed) r.users h.name h.named in
      let row = found.0 in
      let is = of_row b r.armed row h.name h.part found.2 in
      (is.of, in_flat row_protectors r.users row is.of found.1 is.own, number_held w is.of h.name slot is.within h.part h.small h.holds)

  abbrev weaver_name : Protector → PartOf
  weaver_name p = record { user = p.user; id = p.id; part = Weaver }

  pub named : (p : Protector) (slot : ℕ) → NamesProtector r p → held_number w p ≡ Some slot → NamesSlot (has_weaver w) r (file_at w) slot
  named p slot h number =
      let b = has_weaver w in
      let found = of_flat row_protectors r.users p h in
      let row = found.0 in
      let has = has_slot (has_part b p.purpose Weaver) (file_at w (file_name p Weaver)) slot number in
      let within = in_map (λ (x : FilePart). record { user = p.user; id = p.id; part = x }) (parts_for b p.purpose) Weaver (has_weaver_part b p.purpose has.has_it) in
      record {
        name = weaver_name p;
        named = in_flat (row_files b r.armed) r.users row (weaver_name p) found.1 (in_row b r.armed row p (weaver_name p) found.2 within);
        part = refl;
        small = has.small;
        holds = has.holds;
      }

-- ---- numbers

odd_some : (t : ℕ) → is_odd t ≡ true → 0 < t
odd_some zero odd = absurd (cc)
odd_some (suc t) odd = omega arith

row_numbers : (row : UserRow) → IsRow row → (p : Protector) → Contains (row_protectors row) p → HasNumbers p
row_numbers row is p h = by (first_or_behind (credential_of row) (map (token_of row) row.tokens) p h)
  where
    even : HasNumbers (credential_of row)
    even =
        let parts = and_parts (eqb (row.protector % 2) 0) (not (eqb row.protector 0)) is.protector.0 in
        let some = eqb-false row.protector 0 (not-true (eqb row.protector 0) parts.1) in
        record { user = is.user; some = omega (arith, some); id = is.protector.1 }

    odd : (t : ℕ) → Contains row.tokens t → HasNumbers (token_of row t)
    odd t (k, within, same) =
        let token = subst (λ (n : ℕ). (is_odd n ≡ true) × (n < 2 ^ 64)) same (All-from_recursion (λ n. (is_odd n ≡ true) × (n < 2 ^ 64)) row.tokens is.tokens k t within) in
        record { user = is.user; some = odd_some t token.0; id = token.1 }

    by : (credential_of row ≡ p) ⊎ Contains (map (token_of row) row.tokens) p → HasNumbers p
    by (inl e) = subst HasNumbers e even
    by (inr k) = let found = of_map (token_of row) row.tokens p k in subst HasNumbers found.2 (odd found.0 found.1)

pub numbers : (r : Rec) → IsRecord r → (p : Protector) → NamesProtector r p → HasNumbers p
numbers r is p h = by (of_flat row_protectors r.users p h)
  where
    row_of : (row : UserRow) → Contains r.users row → IsRow row
    row_of row (k, within, same) = subst IsRow same (All-from_recursion IsRow r.users is.rows k row within)

    by : (row : UserRow) × Contains r.users row × Contains (row_protectors row) p → HasNumbers p
    by (row, within, own) = row_numbers row (row_of row within) p own

-- ---- in a world that stands for a vault

module _ (w : World) (r : Rec) (fine : first_foreign w r ≡ None) where
  -- protectors with one slot have one id
  pub one_id : (p q : Protector) (slot : ℕ) → NamesProtector r p → NamesProtector r q → held_number w p ≡ Some slot → held_number w q ≡ Some slot → p.id ≡ q.id
  unfolding named
  one_id p q slot hp hq np nq =
      ap (λ (n : PartOf). n.id) (one_name w r fine slot (named w r p slot hp np) (named w r q slot hq nq))

  pub spared : IsRecord r → (p q : Protector) → NamesProtector r p → NamesProtector r q → p ≢ q → Spares (reach_of p (held_number w p)) w q
  spared is p q hp hq apart =
      let other : p.id ≢ q.id = λ same. apart (one_protector r is p q hp hq same) in
      spare p q (held_number w p) w (numbers r is p hp) (numbers r is q hq) other
      (λ n nq np. other (one_id p q n hp hq np nq))
