-- No two protectors of a record have one id.
use Rattle.std.proofs.Common.{◌≡◌, ◌≢◌, ◌<◌, ◌^◌, ◌⊎◌, inl, inr, ◌%◌, not, ℕ, true, false, sym, ap, subst, ◌∙◌, arith}
use Rattle.std.specs.Prelude.{map}
use Rattle.std.specs.List.{Contains}
use Rattle.std.proofs.Math.Dec.{eqb}
use Rattle.std.proofs.lemmas.Bool.{and_parts, eqb-true, eq-eqb}
use Rattle.ls_record.specs.declared.row.UserRow.{UserRow}
use Rattle.ls_record.specs.Rows.{Rec, IsRow, AreApart, IsBefore, IsRecord, Pairs, has, is_odd, is_protector_id}
use Rattle.ls_sealing.specs.Protectors.{Protector}
use Rattle.ls_standing.specs.Named.{credential_of, token_of}
use Rattle.ls_standing.specs.NamedProtectors.{row_protectors, named_protectors, NamesProtector}
use Rattle.ls_standing.proofs.ContainsLemmas.{first_or_behind, of_map, any_contained}
use Rattle.ls_standing.proofs.PairLemmas.{each_in, all_from, pairs_map, pairs_flat, pair_cases}

abbrev pub OtherId : Protector → Protector → Type 0
OtherId p q = p.id ≢ q.id

-- ---- ids of credentials and of tokens

pub even_not_odd : (m t : ℕ) → is_protector_id m ≡ true → is_odd t ≡ true → m ≢ t
even_not_odd m t even odd e =
    let none : m % 2 ≡ 0 = eqb-true (m % 2) 0 (and_parts (eqb (m % 2) 0) (not (eqb m 0)) even).0 in
    let one : t % 2 ≡ 1 = eqb-true (t % 2) 1 odd in
    let bad : 0 ≡ 1 = sym none ∙ ap (λ (n : ℕ). n % 2) e ∙ one in
    omega (arith, bad)

token_is_odd : (row : UserRow) → IsRow row → (t : ℕ) → Contains row.tokens t → is_odd t ≡ true
token_is_odd row is t h = (each_in (λ n. (is_odd n ≡ true) × (n < 2 ^ 64)) row.tokens t is.tokens h).0

-- the id of a row's protector is that of the credential or of a token
abbrev HasId : UserRow → ℕ → Type 0
HasId row id = (row.protector ≡ id) ⊎ Contains row.tokens id

own_id : (row : UserRow) (p : Protector) → Contains (row_protectors row) p → HasId row p.id
own_id row p h = by (first_or_behind (credential_of row) (map (token_of row) row.tokens) p h)
  where
    by : (credential_of row ≡ p) ⊎ Contains (map (token_of row) row.tokens) p → HasId row p.id
    by (inl e) = inl (ap (λ (q : Protector). q.id) e)
    by (inr k) = let found = of_map (token_of row) row.tokens p k in inr (subst (Contains row.tokens) (ap (λ (q : Protector). q.id) found.2) found.1)

-- ---- one row, and two

row_ids : (row : UserRow) → IsRow row → Pairs OtherId (row_protectors row)
row_ids row is = (
  all_from (OtherId (credential_of row)) (map (token_of row) row.tokens) (λ q m. by q (of_map (token_of row) row.tokens q m)),
  pairs_map OtherId (token_of row) row.tokens is.once,
)
  where
    by : (q : Protector) → (t : ℕ) × Contains row.tokens t × (token_of row t ≡ q) → OtherId (credential_of row) q
    by q (t, within, same) = subst (OtherId (credential_of row)) same (even_not_odd row.protector t is.protector.0 (token_is_odd row is t within))

ids_apart : (r s : UserRow) → IsRow r → IsRow s → AreApart r s → (m n : ℕ) → HasId r m → HasId s n → m ≢ n
ids_apart r s is also apart m n (inl e) (inl d) same = apart.protector (e ∙ same ∙ sym d)
ids_apart r s is also apart m n (inl e) (inr k) same = even_not_odd r.protector n is.protector.0 (token_is_odd s also n k) (e ∙ same)
ids_apart r s is also apart m n (inr k) (inl d) same = even_not_odd s.protector m also.protector.0 (token_is_odd r is m k) (d ∙ sym same)
ids_apart r s is also apart m n (inr k) (inr l) same =
    let none : has r.tokens n ≡ false = each_in (λ t. has r.tokens t ≡ false) s.tokens n apart.tokens l in
    let some : has r.tokens n ≡ true = any_contained (λ i. eqb i n) r.tokens m k (eq-eqb m n same) in
    let bad : true ≡ false = sym some ∙ none in
    cc

-- ---- records

module _ (r : Rec) (is : IsRecord r) where
  pub is_row : (row : UserRow) → Contains r.users row → IsRow row
  is_row row h = each_in IsRow r.users row is.rows h

  pub ids_of_row : (row : UserRow) → Contains r.users row → Pairs OtherId (row_protectors row)
  ids_of_row row h = row_ids row (is_row row h)

  pub ids_of_rows : (x z : UserRow) → Contains r.users x → Contains r.users z → IsBefore x z
      → (p q : Protector) → Contains (row_protectors x) p → Contains (row_protectors z) q → OtherId p q
  ids_of_rows x z hx hz before p q hp hq = ids_apart x z (is_row x hx) (is_row z hz) before.apart p.id q.id (own_id x p hp) (own_id z q hq)

  own_ids : Pairs OtherId (named_protectors r)
  own_ids = pairs_flat OtherId row_protectors IsBefore r.users is.pairs ids_of_row ids_of_rows

  pub one_protector : (p q : Protector) → NamesProtector r p → NamesProtector r q → p.id ≡ q.id → p ≡ q
  one_protector p q hp hq same = by (pair_cases OtherId (named_protectors r) own_ids p q hp hq)
    where
      by : (p ≡ q) ⊎ (OtherId p q ⊎ OtherId q p) → p ≡ q
      by (inl e) = e
      by (inr (inl other)) = absurd (other same)
      by (inr (inr other)) = absurd (other (sym same))
