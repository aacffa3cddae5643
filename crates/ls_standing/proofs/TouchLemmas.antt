-- Actions that touch nothing that a record names.
use Rattle.std.proofs.Common.{◌≡◌, ◌≢◌, ◌⊎◌, inl, inr, ⊎_elim, ◌<◌, ◌^◌, ℕ, Bool, true, false, List, [], ◌∷◌, ◌++◌, map, replicate, Option, None, Some, refl, sym, ap, subst, ◌∙◌, arith}
use Rattle.std.specs.Prelude.{is_some}
use Rattle.std.specs.List.{Contains}
use Rattle.std.proofs.lemmas.List.Elements.{Contains-append_cases}
use Rattle.hex.specs.Hex.{encode_lower, decode_sized}
use Rattle.hex.proofs.HexLemmas.{decode_sized-encode_lower}
use Rattle.byteorder.specs.Endian.{big_number}
use Rattle.ls_bytes.specs.Fields.{be64}
use Rattle.ls_bytes.proofs.FieldLemmas.{big_number-be64}
use Rattle.ls_formats.specs.declared.part.FilePart.{FilePart}
use Rattle.ls_formats.specs.declared.name.FileName.{FileName}
use Rattle.ls_formats.specs.declared.name.FileName.TheVariants.{Settings, Protector as ProtectorName}
use Rattle.ls_formats.proofs.ApartLemmas.{names_apart}
use Rattle.ls_formats.specs.PartNames.{PartOf, IsPartOf, part_name_text}
use Rattle.ls_formats.proofs.ContentLemmas.{big_are_bytes}
use Rattle.ls_formats.proofs.NameLemmas.{id_digits}
use Rattle.ls_record.specs.declared.row.UserRow.{UserRow}
use Rattle.ls_record.specs.Rows.{Rec, IsRecord}
use Rattle.ls_naming.specs.Named.{only_if, user_parts, credential_parts, token_parts, parts_of, token_files, row_files, NamesFile, NamesKey, NamesEnrolled}
use Rattle.ls_naming.proofs.NamingLemmas.{record_named}
use Rattle.ls_board.specs.declared.action.Action.{Action}
use Rattle.ls_board.specs.declared.action.Action.TheVariants.{Make, Put, Poke, Remove, WeaverWrite, WeaverRead, GkEnroll, GkVerify, GkForget, KeyPut, KeyDrop, ResumeStore, ResumeTake, Hear, Say, Now, Draw}
use Rattle.ls_board.specs.declared.world.World.{World}
use Rattle.ls_board.specs.Effect.{after}
use Rattle.ls_board.specs.Gatekeeper.{sid_of}
use Rattle.ls_board.specs.Reach.{Reach, TouchesOnly, AllTouchOnly}
use Rattle.ls_sealing.specs.Protectors.{Protector, HasNumbers, parts_for, is_enrolled, file_name, has_weaver}
use Rattle.ls_sealing.specs.Building.{Writing, slot_writes, writing_actions, removes, erasing_actions, retiring_actions}
use Rattle.ls_standing.specs.Quiet.{IsUnnamed, unnamed, IsUnnamedProtector, IsQuiet, AllQuiet}
use Rattle.ls_standing.specs.Same.{SameNamed}
use Rattle.ls_standing.proofs.NamedLemmas.{name_of, credential_key, token_key}
use Rattle.ls_standing.proofs.ContainsLemmas.{of_map, of_flat}
use Rattle.ls_standing.proofs.SameLemmas.{no_settings, names_back, slots_back, enrolled_back}
use Rattle.ls_standing.proofs.QuietLemmas.{done_kept}

-- ---- one reach within another

pub record Inside (small big : Reach) : Type 0 where
  pub file : (n : List ℕ) → small.files n → big.files n
  pub slot : (n : ℕ) → small.slots n → big.slots n
  pub sid : (n : ℕ) → small.sids n → big.sids n
  pub alias : (n : ℕ) → small.aliases n → big.aliases n
  pub cell : small.cell → big.cell

module _ (small big : Reach) (inside : Inside small big) where
  touches_more : (a : Action) → TouchesOnly small a → TouchesOnly big a
  touches_more (Make n len) only = inside.file n only
  touches_more (Put n bytes) only = inside.file n only
  touches_more (Poke n at bytes) only = inside.file n only
  touches_more (Remove n) only = inside.file n only
  touches_more (WeaverWrite slot key value) only = inside.slot slot only
  touches_more (WeaverRead slot key moment) only = inside.slot slot only
  touches_more (GkEnroll sid) only = inside.sid sid only
  touches_more (GkVerify handle password moment) only = inside.sid (sid_of handle) only
  touches_more (GkForget sid) only = inside.sid sid only
  touches_more (KeyPut alias key) only = inside.alias alias only
  touches_more (KeyDrop alias) only = inside.alias alias only
  touches_more (ResumeStore key) only = inside.cell only
  touches_more ResumeTake only = inside.cell only
  touches_more a only = only

  pub all_touch_more : (plan : List Action) → AllTouchOnly small plan → AllTouchOnly big plan
  all_touch_more [] only = tt
  all_touch_more (a ∷ plan) only = (touches_more a only.0, all_touch_more plan only.1)

-- ---- what isn't named

still_unnamed : (w mid : World) (r : Rec) → SameNamed r w mid → Inside (unnamed w r) (unnamed mid r)
still_unnamed w mid r same = record {
  file = λ n un. record { settings = un.settings; named = λ name named. un.named name (names_back r w mid same name named) };
  slot = λ slot un named. un (slots_back r w mid same slot named);
  sid = λ sid un named. un (enrolled_back r w mid same sid named);
  alias = λ alias un. un;
  cell = λ none. none;
}

pub later_touch : (w mid : World) (r : Rec) (plan : List Action) → SameNamed r w mid → AllTouchOnly (unnamed w r) plan → AllTouchOnly (unnamed mid r) plan
later_touch w mid r plan same only = all_touch_more (unnamed w r) (unnamed mid r) (still_unnamed w mid r same) plan only

pub one_quiet : (w : World) (r : Rec) (a : Action) → TouchesOnly (unnamed w r) a → IsQuiet w r a
one_quiet w r (WeaverRead slot key moment) only = inl only
one_quiet w r (GkVerify handle password moment) only = inl only
one_quiet w r ResumeTake only = inl only
one_quiet w r (Hear max) only = absurd only
one_quiet w r (Say bytes) only = absurd only
one_quiet w r Now only = absurd only
one_quiet w r (Draw len) only = absurd only
one_quiet w r a only = only

pub all_quiet : (w : World) (r : Rec) (plan : List Action) → AllTouchOnly (unnamed w r) plan → AllQuiet w r plan
all_quiet w r [] only = tt
all_quiet w r (a ∷ plan) only =
    let quiet = one_quiet w r a only.0 in
    (quiet, all_quiet (after w a 0) r plan (later_touch w (after w a 0) r plan (done_kept r w a 0 quiet).named only.1))

-- ---- a file that isn't named

name_in : PartOf → FileName → PartOf
name_in name (Settings side) = name
name_in name (ProtectorName other) = other

-- files with one text are one
pub same_name : (name other : PartOf) → IsPartOf name → IsPartOf other → part_name_text name ≡ part_name_text other → name ≡ other
unfolding name_in
same_name name other part also text = ap (name_in name) (names_apart (ProtectorName name) (ProtectorName other) part also text)

pub file_unnamed : (w : World) (r : Rec) (name : PartOf) → IsRecord r → IsPartOf name → ¬ (NamesFile (has_weaver w) r name) → IsUnnamed w r (part_name_text name)
file_unnamed w r name is part none = record {
  settings = no_settings name;
  named = λ other named text.
      none (subst (NamesFile (has_weaver w) r) (sym (same_name name other part (record_named (has_weaver w) r is other named) text)) named);
}

-- ---- a protector that isn't named

id_apart : (m n : ℕ) → m < 2 ^ 64 → n < 2 ^ 64 → encode_lower (be64 m) ≡ encode_lower (be64 n) → m ≡ n
id_apart m n km kn e =
    let a = big_are_bytes 8 m in
    let b = big_are_bytes 8 n in
    let one = decode_sized-encode_lower (be64 m) 8 a.long a.each in
    let two = decode_sized-encode_lower (be64 n) 8 b.long b.each in
    let read : decode_sized (encode_lower (be64 m)) 8 ≡ decode_sized (encode_lower (be64 n)) 8 = ap (λ (t : List ℕ). decode_sized t 8) e in
    let same : be64 m ≡ be64 n = cc in
    sym (big_number-be64 m [] km) ∙ ap (λ (t : List ℕ). big_number 8 (t ++ [])) same ∙ big_number-be64 n [] kn

-- a named file has the id 0, or that of a key that is named
named_id : (weaver : Bool) (r : Rec) (name : PartOf) → NamesFile weaver r name → (name.id ≡ 0) ⊎ NamesKey r name.id
named_id weaver r name named = by (Contains-append_cases one (two ++ three) name found.2)
  where
    found : (row : UserRow) × Contains r.users row × Contains (row_files weaver r.armed row) name
    found = of_flat (row_files weaver r.armed) r.users name named

    row : UserRow
    row = found.0

    one : List PartOf
    one = parts_of row.user 0 (user_parts r.armed row)

    two : List PartOf
    two = parts_of row.user row.protector (credential_parts weaver row.kind)

    three : List PartOf
    three = token_files weaver row

    of_token : Contains three name → NamesKey r name.id
    of_token within =
        let token = of_flat (λ t. parts_of row.user t (token_parts weaver)) row.tokens name within in
        let part = of_map (λ p. name_of row.user token.0 p) (token_parts weaver) name token.2 in
        subst (NamesKey r) (ap (λ (n : PartOf). n.id) part.2) (token_key weaver r row found.1 token.0 token.1)

    of_credential : Contains two name → NamesKey r name.id
    of_credential within =
        let part = of_map (λ p. name_of row.user row.protector p) (credential_parts weaver row.kind) name within in
        subst (NamesKey r) (ap (λ (n : PartOf). n.id) part.2) (credential_key weaver r row found.1)

    by : Contains one name ⊎ Contains (two ++ three) name → (name.id ≡ 0) ⊎ NamesKey r name.id
    by (inl user) = let part = of_map (λ p. name_of row.user 0 p) (user_parts r.armed row) name user in inl (ap (λ (n : PartOf). n.id) (sym part.2))
    by (inr other) = inr (⊎_elim of_credential of_token (Contains-append_cases two three name other))

-- a file of an id that no named key has
module _ (w : World) (r : Rec) (p : Protector) (is : IsRecord r) (has : HasNumbers p) (none : ¬ NamesKey r p.id) where
  pub other_file : (part : FilePart) → IsUnnamed w r (file_name p part)
  other_file part = record {
    settings = no_settings (name_of p.user p.id part);
    named = λ name named text. apart name named (id_apart p.id name.id has.id (record_named (has_weaver w) r is name named).id
        (id_digits (name_of p.user p.id part) (part_name_text name) text ∙ sym (id_digits name (part_name_text name) refl)));
  }
    where
      apart : (name : PartOf) → NamesFile (has_weaver w) r name → p.id ≢ name.id
      apart name named same =
          let some = has.some in
          ⊎_elim (λ zero_id. omega (arith, zero_id, same)) (λ key. none (subst (NamesKey r) (sym same) key)) (named_id (has_weaver w) r name named)

module _ (w : World) (r : Rec) (p : Protector) (slot : Option ℕ) (is : IsRecord r) (un : IsUnnamedProtector w r p slot) where
  pub files_unnamed : (part : FilePart) → IsUnnamed w r (file_name p part)
  files_unnamed = other_file w r p is un.numbers un.key

  touch_append : (xs ys : List Action) → AllTouchOnly (unnamed w r) xs → AllTouchOnly (unnamed w r) ys → AllTouchOnly (unnamed w r) (xs ++ ys)
  touch_append [] ys first second = second
  touch_append (x ∷ xs) ys first second = (first.0, touch_append xs ys first.1 second)

  slot_touch : (key value : List ℕ) → AllTouchOnly (unnamed w r) (slot_writes slot key value)
  slot_touch key value = by slot refl
    where
      by : (o : Option ℕ) → slot ≡ o → AllTouchOnly (unnamed w r) (slot_writes o key value)
      by None e = tt
      by (Some n) e = (un.its_slot n e, tt)

  abbrev en : Bool
  en = is_enrolled (is_some slot) p.purpose

  enrol_touch : (b : Bool) → (b ≡ true → ¬ (NamesEnrolled (has_weaver w) r p.id)) → AllTouchOnly (unnamed w r) (only_if b (GkEnroll p.id ∷ []))
  enrol_touch true none = (none refl, tt)
  enrol_touch false none = tt

  forget_touch : (b : Bool) → (b ≡ true → ¬ (NamesEnrolled (has_weaver w) r p.id)) → AllTouchOnly (unnamed w r) (only_if b (GkForget p.id ∷ []))
  forget_touch true none = (none refl, tt)
  forget_touch false none = tt

  module _ (m : Writing) where
    abbrev puts : List FilePart → List Action
    puts parts = map (λ part. Put (file_name p part) (m.content part)) parts

    puts_touch : (parts : List FilePart) → AllTouchOnly (unnamed w r) (puts parts)
    puts_touch [] = tt
    puts_touch (part ∷ parts) = (files_unnamed part, puts_touch parts)

    pub writing_touch : AllTouchOnly (unnamed w r) (writing_actions p slot m)
    writing_touch =
        let files = puts (parts_for (is_some slot) p.purpose) in (
          un.key,
          touch_append (only_if en (GkEnroll p.id ∷ [])) (slot_writes slot m.slot_key m.value ++ files) (enrol_touch en un.counter)
              (touch_append (slot_writes slot m.slot_key m.value) files (slot_touch m.slot_key m.value) (puts_touch (parts_for (is_some slot) p.purpose))),
        )

  pub erasing_touch : AllTouchOnly (unnamed w r) (erasing_actions p slot)
  erasing_touch =
      let forget = only_if en (GkForget p.id ∷ []) in
      touch_append (slot_writes slot (replicate 16 0) (replicate 16 0)) (KeyDrop p.id ∷ forget)
      (slot_touch (replicate 16 0) (replicate 16 0))
      (un.key, forget_touch en un.counter)

  pub removing_touch : (parts : List FilePart) → AllTouchOnly (unnamed w r) (removes p parts)
  removing_touch [] = tt
  removing_touch (part ∷ parts) = (files_unnamed part, removing_touch parts)

  pub retiring_touch : AllTouchOnly (unnamed w r) (retiring_actions p slot)
  retiring_touch =
      touch_append (erasing_actions p slot) (removes p (parts_for (is_some slot) p.purpose)) erasing_touch
      (removing_touch (parts_for (is_some slot) p.purpose))
