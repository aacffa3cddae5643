-- Each file that a record names has a name.
use Rattle.std.proofs.Common.{◌≡◌, ◌<◌, ◌^◌, ℕ, ◌%◌, not, Bool, true, false, cond, List, [], ◌∷◌, ◌++◌, Option, refl, sym, subst, ◌∙◌, arith}
use Rattle.std.specs.List.{AllByRecursion, flat_map, Contains}
use Rattle.std.proofs.Math.Dec.{eqb}
use Rattle.std.proofs.lemmas.Bool.{and_parts, not-true, ne_eqb}
use Rattle.std.proofs.lemmas.List.Concat.{flat_map-cons}
use Rattle.std.proofs.lemmas.List.Elements.{All-from_recursion}
use Rattle.ls_credential.specs.declared.kind.Kind.{Kind}
use Rattle.ls_formats.specs.declared.part.FilePart.{FilePart}
use Rattle.ls_formats.specs.declared.part.FilePart.TheVariants.{Pwd, Secdis, Weaver, Metrics, Handle, E0, P1, Resume}
use Rattle.ls_formats.specs.PartNames.{PartOf, IsPartOf, is_of_user, part_name_text}
use Rattle.ls_record.specs.declared.row.UserRow.{UserRow}
use Rattle.ls_arming.specs.declared.arming.Arming.{Arming}
use Rattle.ls_record.specs.Rows.{Rec, IsRow, IsRecord, is_odd}
use Rattle.ls_naming.specs.Named.{only_if, is_armed, has_credential, has_secure, user_parts, credential_parts, token_parts, parts_of, token_files, row_files, named_files, NamesFile, NamesSlot, Files}

-- ---- lists

all_joined : {X : Type 0} (P : X → Type 0) (xs ys : List X) → AllByRecursion P xs → AllByRecursion P ys → AllByRecursion P (xs ++ ys)
all_joined P [] ys h k = k
all_joined P (x ∷ xs) ys h k = (h.0, all_joined P xs ys h.1 k)

all_only_if : {X : Type 0} (P : X → Type 0) (b : Bool) (xs : List X) → AllByRecursion P xs → AllByRecursion P (only_if b xs)
all_only_if P true xs h = h
all_only_if P false xs h = tt

all_flat : {X Y : Type 0} (Q : X → Type 0) (P : Y → Type 0) (f : X → List Y) → ((x : X) → Q x → AllByRecursion P (f x)) → (xs : List X) → AllByRecursion Q xs → AllByRecursion P (flat_map f xs)
all_flat Q P f each [] h = tt
all_flat Q P f each (x ∷ xs) h =
    subst (AllByRecursion P) (sym (flat_map-cons f x xs)) (all_joined P (f x) (flat_map f xs) (each x h.0) (all_flat Q P f each xs h.1))

contained : {X : Type 0} (P : X → Type 0) (xs : List X) (x : X) → AllByRecursion P xs → Contains xs x → P x
contained P xs x all (k, within, is) = subst P is (All-from_recursion P xs all k x within)

-- ---- parts

-- the part may stand with this id
abbrev Stands : ℕ → FilePart → Type 0
Stands id p = eqb id 0 ≡ is_of_user p

all_named : (user id : ℕ) → user < 2 ^ 32 → id < 2 ^ 64 → (parts : List FilePart) → AllByRecursion (Stands id) parts → AllByRecursion IsPartOf (parts_of user id parts)
all_named user id u i [] h = tt
all_named user id u i (p ∷ parts) h = (record { user = u; id = i; part = h.0 }, all_named user id u i parts h.1)

module _ (id : ℕ) (some : eqb id 0 ≡ false) where
  kept_by : (weaver : Bool) → Stands id (cond weaver Weaver Secdis)
  kept_by true = some
  kept_by false = some

  credential_named : (weaver : Bool) (kind : Kind) → AllByRecursion (Stands id) (credential_parts weaver kind)
  credential_named weaver kind = (
    some,
    all_joined (Stands id) (only_if (has_credential kind) (Pwd ∷ [])) (cond weaver Weaver Secdis ∷ only_if (has_credential kind) (Metrics ∷ []))
        (all_only_if (Stands id) (has_credential kind) (Pwd ∷ []) (some, tt))
        (kept_by weaver, all_only_if (Stands id) (has_credential kind) (Metrics ∷ []) (some, tt)),
  )

  token_named : (weaver : Bool) → AllByRecursion (Stands id) (token_parts weaver)
  token_named weaver = (some, (some, all_only_if (Stands id) weaver (Weaver ∷ []) (some, tt)))

abbrev OfUser : FilePart → Type 0
OfUser p = true ≡ is_of_user p

user_named : (armed : Option Arming) (row : UserRow) → AllByRecursion OfUser (user_parts armed row)
user_named armed row =
    all_joined OfUser (only_if (has_secure row) (Handle ∷ [])) (only_if row.escrow (E0 ∷ P1 ∷ []) ++ only_if (is_armed armed row.user) (Resume ∷ []))
    (all_only_if OfUser (has_secure row) (Handle ∷ []) (refl, tt))
    (all_joined OfUser (only_if row.escrow (E0 ∷ P1 ∷ [])) (only_if (is_armed armed row.user) (Resume ∷ []))
    (all_only_if OfUser row.escrow (E0 ∷ P1 ∷ []) (refl, (refl, tt)))
    (all_only_if OfUser (is_armed armed row.user) (Resume ∷ []) (refl, tt)))

-- ---- rows

odd_some : (t : ℕ) → is_odd t ≡ true → eqb t 0 ≡ false
odd_some t odd = ne_eqb t 0 (λ e. let bad : false ≡ true = subst (λ (n : ℕ). is_odd n ≡ true) e odd in cc)

row_named : (weaver : Bool) (armed : Option Arming) (row : UserRow) → IsRow row → AllByRecursion IsPartOf (row_files weaver armed row)
row_named weaver armed row is =
    let even = and_parts (eqb (row.protector % 2) 0) (not (eqb row.protector 0)) is.protector.0 in
    all_joined IsPartOf (parts_of row.user 0 (user_parts armed row)) (parts_of row.user row.protector (credential_parts weaver row.kind) ++ token_files weaver row)
    (all_named row.user 0 is.user (omega arith) (user_parts armed row) (user_named armed row))
    (all_joined IsPartOf (parts_of row.user row.protector (credential_parts weaver row.kind)) (token_files weaver row)
    (all_named row.user row.protector is.user is.protector.1 (credential_parts weaver row.kind) (credential_named row.protector (not-true (eqb row.protector 0) even.1) weaver row.kind))
    (all_flat (λ t. (is_odd t ≡ true) × (t < 2 ^ 64)) IsPartOf (λ t. parts_of row.user t (token_parts weaver))
    (λ t h. all_named row.user t is.user h.1 (token_parts weaver) (token_named t (odd_some t h.0) weaver)) row.tokens is.tokens))

pub record_named : (weaver : Bool) (r : Rec) → IsRecord r → (name : PartOf) → NamesFile weaver r name → IsPartOf name
record_named weaver r is name = contained IsPartOf (named_files weaver r) name (all_flat IsRow IsPartOf (row_files weaver r.armed) (row_named weaver r.armed) r.users is.rows)

-- ---- slots

pub slots_follow : (weaver : Bool) (r : Rec) (old new : Files) → ((name : PartOf) → NamesFile weaver r name → new (part_name_text name) ≡ old (part_name_text name))
    → (slot : ℕ) → NamesSlot weaver r old slot → NamesSlot weaver r new slot
slots_follow weaver r old new same slot h = record {
  name = h.name;
  named = h.named;
  part = h.part;
  small = h.small;
  holds = same h.name h.named ∙ h.holds;
}
