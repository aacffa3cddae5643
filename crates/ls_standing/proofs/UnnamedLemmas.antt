-- A record names nothing of a protector that is elsewhere, or that it leaves out.
use Rattle.std.proofs.Common.{◌≡◌, ◌≢◌, ◌<◌, ◌⊎◌, inl, inr, ◌&&◌, not, ℕ, Bool, true, false, [], ◌∷◌, Option, None, Some, refl, sym, ap, subst, ◌∙◌, arith}
use Rattle.std.specs.Prelude.{map, is_some}
use Rattle.std.specs.List.{flat_map, Contains}
use Rattle.std.proofs.Math.Dec.{eqb}
use Rattle.std.proofs.lemmas.List.Elements.{Contains-append_cases}
use Rattle.ls_credential.specs.declared.kind.Kind.{Kind}
use Rattle.ls_credential.specs.declared.kind.Kind.TheVariants.{Empty, Pattern, Pin, Password}
use Rattle.ls_record.specs.declared.row.UserRow.{UserRow}
use Rattle.ls_record.specs.Rows.{Rec, IsRecord, is_odd, is_secure_id, is_protector_id}
use Rattle.ls_naming.specs.Named.{only_if, has_credential, has_secure, row_keys, NamesKey, row_enrolled, NamesEnrolled, NamesSlot}
use Rattle.ls_board.specs.declared.world.World.{World}
use Rattle.ls_board.specs.Effect.{file_at}
use Rattle.ls_sealing.specs.Protectors.{token, Protector, HasNumbers, is_enrolled, has_weaver, held_number}
use Rattle.ls_standing.specs.Named.{credential_of, token_of}
use Rattle.ls_standing.specs.NamedProtectors.{row_protectors, NamesProtector, IsElsewhere}
use Rattle.ls_standing.specs.Opening.{first_foreign}
use Rattle.ls_standing.specs.Quiet.{IsUnnamedProtector}
use Rattle.ls_standing.proofs.ContainsLemmas.{none_in, at_first, behind_first, first_or_behind, in_map, of_map, in_flat, of_flat}
use Rattle.ls_standing.proofs.IdLemmas.{even_not_odd, is_row, one_protector}
use Rattle.ls_standing.proofs.ProtectorLemmas.{owned, numbers, one_id}

-- the one element of a list that may be empty
pub of_only_if : {X : Type 0} (b : Bool) (x y : X) → Contains (only_if b (x ∷ [])) y → (b ≡ true) × (x ≡ y)
of_only_if false x y h = absurd (none_in y h)
of_only_if true x y h = by (first_or_behind x [] y h)
  where
    by : (x ≡ y) ⊎ Contains [] y → (true ≡ true) × (x ≡ y)
    by (inl e) = (refl, e)
    by (inr k) = absurd (none_in y k)

-- ---- what a record names by the ids of its protectors

module _ (r : Rec) where
  -- a named protector has this id
  abbrev pub HasProtector : ℕ → Type 0
  HasProtector id = (p : Protector) × NamesProtector r p × (p.id ≡ id)

  pub protector_of : (row : UserRow) → Contains r.users row → HasProtector row.protector
  protector_of row h = (credential_of row, in_flat row_protectors r.users row (credential_of row) h (at_first (credential_of row) (map (token_of row) row.tokens)), refl)

  pub token_protector : (row : UserRow) → Contains r.users row → (t : ℕ) → Contains row.tokens t → HasProtector t
  token_protector row h t k = (
    token_of row t,
    in_flat row_protectors r.users row (token_of row t) h
        (behind_first (credential_of row) (map (token_of row) row.tokens) (token_of row t) (in_map (token_of row) row.tokens t k)),
    refl,
  )

  -- a key of a row is that of a protector
  id_of_row : (alias : ℕ) → Contains (flat_map row_keys r.users) alias → HasProtector alias
  id_of_row alias k = let row = of_flat row_keys r.users alias k in in_row row.0 row.1 (first_or_behind row.0.protector row.0.tokens alias row.2)
    where
      in_row : (row : UserRow) → Contains r.users row → (row.protector ≡ alias) ⊎ Contains row.tokens alias → HasProtector alias
      in_row row within (inl e) = subst HasProtector e (protector_of row within)
      in_row row within (inr t) = token_protector row within alias t

  -- a named key is that of a protector, or of an arming
  pub key_cases : (alias : ℕ) → NamesKey r alias → HasProtector alias ⊎ ((is_some r.armed ≡ true) × (0 ≡ alias))
  key_cases alias h = by (Contains-append_cases (flat_map row_keys r.users) (only_if (is_some r.armed) (0 ∷ [])) alias h)
    where
      by : Contains (flat_map row_keys r.users) alias ⊎ Contains (only_if (is_some r.armed) (0 ∷ [])) alias → HasProtector alias ⊎ ((is_some r.armed ≡ true) × (0 ≡ alias))
      by (inl k) = inl (id_of_row alias k)
      by (inr k) = inr (of_only_if (is_some r.armed) 0 alias k)

  -- a secure id is odd
  secure_odd : (kind : Kind) (id : ℕ) → is_secure_id kind id ≡ true → not (eqb id 0) ≡ true → is_odd id ≡ true
  secure_odd Empty id is some = let bad : false ≡ true = ap not (sym is) ∙ some in absurd (cc)
  secure_odd Pattern id is some = is
  secure_odd Pin id is some = is
  secure_odd Password id is some = is

  -- a named Gatekeeper record has the id of a protector, or one that is odd
  record_of : IsRecord r → (weaver : Bool) (sid : ℕ) → NamesEnrolled weaver r sid → HasProtector sid ⊎ (is_odd sid ≡ true)
  record_of is weaver sid h = by (of_flat (row_enrolled weaver) r.users sid h)
    where
      in_row : (row : UserRow) → Contains r.users row
          → Contains (only_if (has_secure row) (row.secure ∷ [])) sid ⊎ Contains (only_if (not weaver && has_credential row.kind) (row.protector ∷ [])) sid
          → HasProtector sid ⊎ (is_odd sid ≡ true)
      in_row row within (inl k) =
          let only = of_only_if (has_secure row) row.secure sid k in
          inr (subst (λ (n : ℕ). is_odd n ≡ true) only.1 (secure_odd row.kind row.secure (is_row r is row within).secure.0 only.0))
      in_row row within (inr k) = inl (subst HasProtector (of_only_if (not weaver && has_credential row.kind) row.protector sid k).1 (protector_of row within))

      by : (row : UserRow) × Contains r.users row × Contains (row_enrolled weaver row) sid → HasProtector sid ⊎ (is_odd sid ≡ true)
      by (row, within, own) =
          in_row row within (Contains-append_cases (only_if (has_secure row) (row.secure ∷ [])) (only_if (not weaver && has_credential row.kind) (row.protector ∷ [])) sid own)

  -- a protector that is enrolled is that of a credential, and has an even id
  even_id : IsRecord r → (b : Bool) (p : Protector) → NamesProtector r p → is_enrolled b p.purpose ≡ true → is_protector_id p.id ≡ true
  even_id is b p h enrolled = by (of_flat row_protectors r.users p h)
    where
      in_row : (row : UserRow) → Contains r.users row → (credential_of row ≡ p) ⊎ Contains (map (token_of row) row.tokens) p → is_protector_id p.id ≡ true
      in_row row within (inl e) = subst (λ (q : Protector). is_protector_id q.id ≡ true) e (is_row r is row within).protector.0
      in_row row within (inr k) =
          let found = of_map (token_of row) row.tokens p k in
          let bad : is_enrolled b token ≡ true = ap (λ (q : Protector). is_enrolled b q.purpose) found.2 ∙ enrolled in
          absurd (cc)

      by : (row : UserRow) × Contains r.users row × Contains (row_protectors row) p → is_protector_id p.id ≡ true
      by (row, within, own) = in_row row within (first_or_behind (credential_of row) (map (token_of row) row.tokens) p own)

-- ---- ids that none of them has

pub other_key : (r : Rec) (alias : ℕ) → 0 < alias → ((q : Protector) → NamesProtector r q → q.id ≢ alias) → ¬ NamesKey r alias
other_key r alias some others h = by (key_cases r alias h)
  where
    by : HasProtector r alias ⊎ ((is_some r.armed ≡ true) × (0 ≡ alias)) → ⊥
    by (inl (q, named, same)) = others q named same
    by (inr (armed, zero)) = omega (arith, some, zero)

-- alias 0 is that of the arming alone
pub zero_key : (r : Rec) → IsRecord r → r.armed ≡ None → ¬ NamesKey r 0
zero_key r is none h = by (key_cases r 0 h)
  where
    by : HasProtector r 0 ⊎ ((is_some r.armed ≡ true) × (◌≡◌ {A = ℕ} 0 0)) → ⊥
    by (inl (q, named, same)) = let some = (numbers r is q named).some in omega (arith, some, same)
    by (inr (armed, zero)) = let bad : false ≡ true = sym (ap is_some none) ∙ armed in cc

pub other_slot : (w : World) (r : Rec) (slot : ℕ) → ((q : Protector) → NamesProtector r q → held_number w q ≢ Some slot) → ¬ NamesSlot (has_weaver w) r (file_at w) slot
other_slot w r slot others h = let found = owned w r slot h in others found.0 found.1 found.2

module _ (weaver : Bool) (r : Rec) (sid : ℕ) (apart : (row : UserRow) → Contains r.users row → row.secure ≢ sid) where
  -- a named record is that of a credential's protector, where it is none of a secure id
  of_credential : (row : UserRow) → Contains r.users row → Contains (row_enrolled weaver row) sid → row.protector ≡ sid
  of_credential row within own =
      by (Contains-append_cases (only_if (has_secure row) (row.secure ∷ [])) (only_if (not weaver && has_credential row.kind) (row.protector ∷ [])) sid own)
    where
      by : Contains (only_if (has_secure row) (row.secure ∷ [])) sid ⊎ Contains (only_if (not weaver && has_credential row.kind) (row.protector ∷ [])) sid → row.protector ≡ sid
      by (inl k) = absurd (apart row within (of_only_if (has_secure row) row.secure sid k).1)
      by (inr k) = (of_only_if (not weaver && has_credential row.kind) row.protector sid k).1

  named_record : NamesEnrolled weaver r sid → (row : UserRow) × Contains r.users row × (row.protector ≡ sid)
  named_record h = let found = of_flat (row_enrolled weaver) r.users sid h in (found.0, found.1, of_credential found.0 found.1 found.2)

pub other_record : (weaver : Bool) (r : Rec) (sid : ℕ) → ((q : Protector) → NamesProtector r q → q.id ≢ sid) → ((row : UserRow) → Contains r.users row → row.secure ≢ sid) → ¬ NamesEnrolled weaver r sid
other_record weaver r sid others apart h =
    let found = named_record weaver r sid apart h in
    let p = protector_of r found.0 found.1 in
    others p.0 p.1 (p.2 ∙ found.2)

pub other_secure : (weaver : Bool) (r : Rec) (sid : ℕ) → IsRecord r → is_odd sid ≡ true → ((row : UserRow) → Contains r.users row → row.secure ≢ sid) → ¬ NamesEnrolled weaver r sid
other_secure weaver r sid is odd apart h =
    let found = named_record weaver r sid apart h in
    even_not_odd found.0.protector sid (is_row r is found.0 found.1).protector.0 odd found.2

-- ---- a protector that isn't named

module _ (w : World) (r : Rec) (is : IsRecord r) (p : Protector) (slot : Option ℕ) (has : HasNumbers p)
    (even : is_enrolled (is_some slot) p.purpose ≡ true → is_protector_id p.id ≡ true)
    (others : (q : Protector) → NamesProtector r q → IsElsewhere w p.id slot q) where
  no_id : ¬ HasProtector r p.id
  no_id (q, h, same) = (others q h).id_apart same

  no_key : ¬ NamesKey r p.id
  no_key = other_key r p.id has.some (λ q h. (others q h).id_apart)

  no_record : (weaver : Bool) → is_enrolled (is_some slot) p.purpose ≡ true → ¬ NamesEnrolled weaver r p.id
  no_record weaver enrolled h = by (record_of r is weaver p.id h)
    where
      by : HasProtector r p.id ⊎ (is_odd p.id ≡ true) → ⊥
      by (inl k) = no_id k
      by (inr odd) = even_not_odd p.id p.id (even enrolled) odd refl

  no_slot : (n : ℕ) → slot ≡ Some n → ¬ NamesSlot (has_weaver w) r (file_at w) n
  no_slot n same = other_slot w r n (λ q h number. (others q h).slot_apart n number same)

  pub unnamed_protector : IsUnnamedProtector w r p slot
  unnamed_protector = record { numbers = has; key = no_key; its_slot = no_slot; counter = no_record (has_weaver w) }

-- ---- a protector that is left out

module _ (w : World) (r : Rec) (is : IsRecord r) (less : Rec) (also : IsRecord less) (p : Protector) (named : NamesProtector r p)
    (others : (q : Protector) → NamesProtector less q → (NamesProtector r q × (q ≢ p)) ⊎ IsElsewhere w p.id (held_number w p) q)
    (fine : first_foreign w r ≡ None) where
  -- the others that the record names are elsewhere
  elsewhere : (q : Protector) → NamesProtector r q → q ≢ p → IsElsewhere w p.id (held_number w p) q
  elsewhere q kept other = record {
    id_apart = λ same. other (one_protector r is q p kept named same);
    slot_apart = λ n its own. other (one_protector r is q p kept named (one_id w r fine q p n kept named its own));
  }

  each_elsewhere : (q : Protector) → NamesProtector less q → IsElsewhere w p.id (held_number w p) q
  each_elsewhere q h = by (others q h)
    where
      by : (NamesProtector r q × (q ≢ p)) ⊎ IsElsewhere w p.id (held_number w p) q → IsElsewhere w p.id (held_number w p) q
      by (inl (kept, other)) = elsewhere q kept other
      by (inr new) = new

  pub left_out : IsUnnamedProtector w less p (held_number w p)
  left_out = unnamed_protector w less also p (held_number w p) (numbers r is p named) (even_id r is (is_some (held_number w p)) p named) each_elsewhere
