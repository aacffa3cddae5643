-- Tests that find what a record names.
use Rattle.std.proofs.Common.{◌≡◌, ◌≢◌, ℕ, zero, suc, ◌&&◌, ◌||◌, not, Bool, true, false, cond, List, [], ◌∷◌, ◌++◌, Option, refl, sym, ap, subst, ◌∙◌, arith}
use Rattle.std.specs.Prelude.{MatchBool, is_some}
use Rattle.std.specs.List.{flat_map, list_any, Contains}
use Rattle.std.proofs.Math.Dec.{eqb}
use Rattle.std.proofs.lemmas.Bool.{and_parts, and_from, eqb-true, eqb-false, eq-eqb}
use Rattle.std.proofs.lemmas.List.Concat.{flat_map-cons}
use Rattle.std.proofs.lemmas.List.Folds.{list_any-append}
use Rattle.ls_credential.specs.declared.kind.Kind.{Kind}
use Rattle.ls_formats.specs.declared.part.FilePart.{FilePart}
use Rattle.ls_formats.specs.declared.part.FilePart.TheVariants.{SpBlob, Pwd, Secdis, Weaver, Metrics, Handle, E0, P1, Resume}
use Rattle.ls_formats.specs.PartNames.{PartOf}
use Rattle.ls_record.specs.declared.row.UserRow.{UserRow}
use Rattle.ls_arming.specs.declared.arming.Arming.{Arming}
use Rattle.ls_record.specs.Rows.{Rec, has}
use Rattle.ls_naming.specs.Named.{only_if, is_armed, has_credential, has_secure, user_parts, credential_parts, token_parts, parts_of, token_files, row_files, named_files, NamesFile, row_keys, named_keys, row_enrolled, named_enrolled, NamesKey, NamesEnrolled}
use Rattle.ls_naming.specs.Membership.{part_number, same_part, same_name, is_user_part, is_credential_part, is_token_part, row_names, has_enrolled, file_is_named, key_is_named, enrolled_is_named}

-- ---- a test of each element

module _ {X : Type 0} (same : X → X → Bool) (decides : (a b : X) → MatchBool (same a b) (a ≡ b) (a ≢ b)) where
  abbrev Found : Bool → List X → X → Type 0
  Found b xs x = MatchBool b (Contains xs x) (¬ Contains xs x)

  none_in : (x : X) → ¬ Contains [] x
  none_in x (k, within, is) = omega arith

  behind : (y : X) (xs : List X) (x : X) → Contains xs x → Contains (y ∷ xs) x
  behind y xs x (k, within, is) = (suc k, omega arith, is)

  not_behind : (y : X) (xs : List X) (x : X) → y ≢ x → ¬ Contains xs x → ¬ Contains (y ∷ xs) x
  not_behind y xs x other none (zero, within, is) = other is
  not_behind y xs x other none (suc k, within, is) = none (k, omega arith, is)

  more : (y : X) (xs : List X) (x : X) (here rest : Bool) → MatchBool here (y ≡ x) (y ≢ x) → Found rest xs x → Found (here || rest) (y ∷ xs) x
  more y xs x true rest h k = (0, omega arith, h)
  more y xs x false true h k = behind y xs x k
  more y xs x false false h k = not_behind y xs x h k

  pub any_finds : (xs : List X) (x : X) → Found (list_any (λ y. same y x) xs) xs x
  any_finds [] x = none_in x
  any_finds (y ∷ xs) x = more y xs x (same y x) (list_any (λ z. same z x) xs) (decides y x) (any_finds xs x)

pub numbers_decide : (a b : ℕ) → MatchBool (eqb a b) (a ≡ b) (a ≢ b)
numbers_decide a b = by (eqb a b) refl
  where
    by : (t : Bool) → eqb a b ≡ t → MatchBool t (a ≡ b) (a ≢ b)
    by true e = eqb-true a b e
    by false e = eqb-false a b e

-- ---- tests of lists that are made of others

pub any_flat : {X Y : Type 0} (q : Y → Bool) (f : X → List Y) (xs : List X) → list_any q (flat_map f xs) ≡ list_any (λ x. list_any q (f x)) xs
any_flat q f [] = refl
any_flat q f (x ∷ xs) =
    ap (list_any q) (flat_map-cons f x xs) ∙ list_any-append q (f x) (flat_map f xs) ∙ ap (λ b. list_any q (f x) || b) (any_flat q f xs)

pub any_only_if : {X : Type 0} (q : X → Bool) (b : Bool) (xs : List X) → list_any q (only_if b xs) ≡ (b && list_any q xs)
any_only_if q true xs = refl
any_only_if q false xs = refl

or_false : (b : Bool) → (b || false) ≡ b
or_false true = refl
or_false false = refl

pub any_one : {X : Type 0} (q : X → Bool) (b : Bool) (x : X) → list_any q (only_if b (x ∷ [])) ≡ (b && q x)
any_one q true x = or_false (q x)
any_one q false x = refl

pub any_two : {X : Type 0} (q : X → Bool) (b : Bool) (x y : X) → list_any q (only_if b (x ∷ y ∷ [])) ≡ (b && (q x || q y))
any_two q true x y = ap (λ r. q x || r) (or_false (q y))
any_two q false x y = refl

-- the part is one of these
abbrev has_part : List FilePart → FilePart → Bool
has_part parts part = list_any (λ p. same_part p part) parts

-- the name is one of these
abbrev has_name : List PartOf → PartOf → Bool
has_name names name = list_any (λ n. same_name n name) names

-- ---- names

-- parts of one user and one id
factor : (u i p r : Bool) → ((u && (i && p)) || (u && (i && r))) ≡ (u && (i && (p || r)))
factor true true p r = refl
factor true false p r = refl
factor false i p r = refl

nothing : (u i : Bool) → false ≡ (u && (i && false))
nothing true true = refl
nothing true false = refl
nothing false i = refl

pub parts_test : (user id : ℕ) (parts : List FilePart) (name : PartOf)
    → has_name (parts_of user id parts) name ≡ (eqb user name.user && (eqb id name.id && has_part parts name.part))
parts_test user id [] name = nothing (eqb user name.user) (eqb id name.id)
parts_test user id (p ∷ parts) name =
    ap (λ r. (eqb user name.user && (eqb id name.id && same_part p name.part)) || r) (parts_test user id parts name)
    ∙ factor (eqb user name.user) (eqb id name.id) (same_part p name.part) (has_part parts name.part)

-- the same parts of one user and several ids
factor_ids : (u e h p : Bool) → ((u && (e && p)) || (u && (h && p))) ≡ (u && ((e || h) && p))
factor_ids false e h p = refl
factor_ids true true true true = refl
factor_ids true true true false = refl
factor_ids true true false true = refl
factor_ids true true false false = refl
factor_ids true false h p = refl

tokens_test : (user : ℕ) (tokens : List ℕ) (parts : List FilePart) (name : PartOf)
    → has_name (flat_map (λ t. parts_of user t parts) tokens) name ≡ (eqb user name.user && (has tokens name.id && has_part parts name.part))
tokens_test user [] parts name = by (eqb user name.user)
  where
    by : (b : Bool) → false ≡ (b && false)
    by true = refl
    by false = refl
tokens_test user (t ∷ tokens) parts name =
    ap (λ l. has_name l name) (flat_map-cons (λ i. parts_of user i parts) t tokens)
    ∙ list_any-append (λ n. same_name n name) (parts_of user t parts) (flat_map (λ i. parts_of user i parts) tokens)
    ∙ (λ i. parts_test user t parts name i || tokens_test user tokens parts name i)
    ∙ factor_ids (eqb user name.user) (eqb t name.id) (has tokens name.id) (has_part parts name.part)

-- three of one user
factor_three : (u a b c : Bool) → ((u && a) || ((u && b) || (u && c))) ≡ (u && (a || (b || c)))
factor_three true a b c = refl
factor_three false a b c = refl

row_test : (weaver : Bool) (armed : Option Arming) (row : UserRow) (name : PartOf)
    → has_name (row_files weaver armed row) name
    ≡ (eqb row.user name.user
    && ((eqb 0 name.id && has_part (user_parts armed row) name.part)
    || ((eqb row.protector name.id && has_part (credential_parts weaver row.kind) name.part)
    || (has row.tokens name.id && has_part (token_parts weaver) name.part))))
row_test weaver armed row name =
    let one = parts_of row.user 0 (user_parts armed row) in
    let two = parts_of row.user row.protector (credential_parts weaver row.kind) in
    let three = token_files weaver row in
    let q = λ (n : PartOf). same_name n name in
    list_any-append q one (two ++ three) ∙ ap (λ b. has_name one name || b) (list_any-append q two three)
    ∙ (λ i. parts_test row.user 0 (user_parts armed row) name i
    || (parts_test row.user row.protector (credential_parts weaver row.kind) name i || tokens_test row.user row.tokens (token_parts weaver) name i))
    ∙ factor_three (eqb row.user name.user) (eqb 0 name.id && has_part (user_parts armed row) name.part)
    (eqb row.protector name.id && has_part (credential_parts weaver row.kind) name.part) (has row.tokens name.id && has_part (token_parts weaver) name.part)

-- ---- names are equal where the test says so

part_by : ℕ → FilePart
part_by n =
    cond (eqb n 0) SpBlob
    (cond (eqb n 1) Pwd
    (cond (eqb n 2) Secdis
    (cond (eqb n 3) Weaver
    (cond (eqb n 4) Metrics
    (cond (eqb n 5) Handle
    (cond (eqb n 6) E0
    (cond (eqb n 7) P1 Resume)))))))

part_again : (p : FilePart) → part_by (part_number p) ≡ p
unfolding part_by
part_again SpBlob = refl
part_again Pwd = refl
part_again Secdis = refl
part_again Weaver = refl
part_again Metrics = refl
part_again Handle = refl
part_again E0 = refl
part_again P1 = refl
part_again Resume = refl

part_same : (p q : FilePart) → part_number p ≡ part_number q → p ≡ q
part_same p q e = sym (part_again p) ∙ ap part_by e ∙ part_again q

name_same : (m n : PartOf) → same_name m n ≡ true → m ≡ n
name_same m n h =
    let a = and_parts (eqb m.user n.user) (eqb m.id n.id && same_part m.part n.part) h in
    let b = and_parts (eqb m.id n.id) (same_part m.part n.part) a.1 in
    let user = eqb-true m.user n.user a.0 in
    let id = eqb-true m.id n.id b.0 in
    let part = part_same m.part n.part (eqb-true (part_number m.part) (part_number n.part) b.1) in
    λ i. record { user = user i; id = id i; part = part i }

own_name : (m : PartOf) → same_name m m ≡ true
own_name m =
    and_from (eqb m.user m.user) (eqb m.id m.id && same_part m.part m.part) (eq-eqb m.user m.user refl)
    (and_from (eqb m.id m.id) (same_part m.part m.part) (eq-eqb m.id m.id refl) (eq-eqb (part_number m.part) (part_number m.part) refl))

names_decide : (m n : PartOf) → MatchBool (same_name m n) (m ≡ n) (m ≢ n)
names_decide m n = by (same_name m n) refl
  where
    by : (b : Bool) → same_name m n ≡ b → MatchBool b (m ≡ n) (m ≢ n)
    by true e = name_same m n e
    by false e = λ same. let bad : true ≡ false = sym (own_name m) ∙ ap (λ (x : PartOf). same_name m x) same ∙ e in cc

-- ---- parts

user_part_test : (armed : Option Arming) (row : UserRow) (part : FilePart)
    → has_part (user_parts armed row) part
    ≡ is_user_part armed row part
user_part_test armed row part =
    let q = λ (p : FilePart). same_part p part in
    let two = only_if row.escrow (E0 ∷ P1 ∷ []) in
    let three = only_if (is_armed armed row.user) (Resume ∷ []) in
    list_any-append q (only_if (has_secure row) (Handle ∷ [])) (two ++ three)
    ∙ (λ i. any_one q (has_secure row) Handle i || list_any-append q two three i)
    ∙ (λ i. (has_secure row && same_part Handle part) || (any_two q row.escrow E0 P1 i || any_one q (is_armed armed row.user) Resume i))

credential_part_test : (weaver : Bool) (kind : Kind) (part : FilePart)
    → has_part (credential_parts weaver kind) part
    ≡ is_credential_part weaver kind part
credential_part_test weaver kind part =
    let q = λ (p : FilePart). same_part p part in
    let back = only_if (has_credential kind) (Metrics ∷ []) in
    ap (λ b. same_part SpBlob part || b) (list_any-append q (only_if (has_credential kind) (Pwd ∷ [])) (cond weaver Weaver Secdis ∷ back)
    ∙ (λ i. any_one q (has_credential kind) Pwd i || (same_part (cond weaver Weaver Secdis) part || any_one q (has_credential kind) Metrics i)))

token_part_test : (weaver : Bool) (part : FilePart) → has_part (token_parts weaver) part ≡ is_token_part weaver part
token_part_test weaver part =
    ap (λ b. same_part SpBlob part || (same_part Secdis part || b)) (any_one (λ p. same_part p part) weaver Weaver)

-- ---- what is answered of a record

names_row : (weaver : Bool) (armed : Option Arming) (row : UserRow) (name : PartOf) → has_name (row_files weaver armed row) name ≡ row_names weaver armed row name
names_row weaver armed row name =
    row_test weaver armed row name
    ∙ (λ i. eqb row.user name.user
    && ((eqb 0 name.id && user_part_test armed row name.part i)
    || ((eqb row.protector name.id && credential_part_test weaver row.kind name.part i)
    || (has row.tokens name.id && token_part_test weaver name.part i))))

file_test : (weaver : Bool) (r : Rec) (name : PartOf) → has_name (named_files weaver r) name ≡ file_is_named weaver r name
file_test weaver r name =
    any_flat (λ n. same_name n name) (row_files weaver r.armed) r.users ∙ (λ i. list_any (λ row. names_row weaver r.armed row name i) r.users)

key_test : (r : Rec) (alias : ℕ) → has (named_keys r) alias ≡ key_is_named r alias
key_test r alias =
    list_any-append (λ i. eqb i alias) (flat_map row_keys r.users) (only_if (is_some r.armed) (0 ∷ []))
    ∙ (λ i. any_flat (λ k. eqb k alias) row_keys r.users i || any_one (λ k. eqb k alias) (is_some r.armed) 0 i)

enrolled_row : (weaver : Bool) (row : UserRow) (id : ℕ) → has (row_enrolled weaver row) id ≡ has_enrolled weaver row id
enrolled_row weaver row id =
    list_any-append (λ i. eqb i id) (only_if (has_secure row) (row.secure ∷ [])) (only_if (not weaver && has_credential row.kind) (row.protector ∷ []))
    ∙ (λ i. any_one (λ k. eqb k id) (has_secure row) row.secure i || any_one (λ k. eqb k id) (not weaver && has_credential row.kind) row.protector i)

enrolled_test : (weaver : Bool) (r : Rec) (id : ℕ) → has (named_enrolled weaver r) id ≡ enrolled_is_named weaver r id
enrolled_test weaver r id = any_flat (λ i. eqb i id) (row_enrolled weaver) r.users ∙ (λ i. list_any (λ row. enrolled_row weaver row id i) r.users)

pub file_found : (weaver : Bool) (r : Rec) (name : PartOf) (b : Bool) → b ≡ file_is_named weaver r name → MatchBool b (NamesFile weaver r name) (¬ NamesFile weaver r name)
file_found weaver r name b e =
    subst (λ (t : Bool). MatchBool t (NamesFile weaver r name) (¬ NamesFile weaver r name)) (file_test weaver r name ∙ sym e) (any_finds same_name names_decide (named_files weaver r) name)

number_found : (ids : List ℕ) (id : ℕ) (b : Bool) → has ids id ≡ b → MatchBool b (Contains ids id) (¬ Contains ids id)
number_found ids id b e = subst (λ (t : Bool). MatchBool t (Contains ids id) (¬ Contains ids id)) e (any_finds eqb numbers_decide ids id)

pub key_found : (r : Rec) (alias : ℕ) (b : Bool) → b ≡ key_is_named r alias → MatchBool b (NamesKey r alias) (¬ NamesKey r alias)
key_found r alias b e = number_found (named_keys r) alias b (key_test r alias ∙ sym e)

pub enrolled_found : (weaver : Bool) (r : Rec) (id : ℕ) (b : Bool) → b ≡ enrolled_is_named weaver r id → MatchBool b (NamesEnrolled weaver r id) (¬ NamesEnrolled weaver r id)
enrolled_found weaver r id b e = number_found (named_enrolled weaver r) id b (enrolled_test weaver r id ∙ sym e)
