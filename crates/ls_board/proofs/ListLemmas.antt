-- What a list of names or numbers says, and that it is what is there.
use Rattle.std.proofs.Common.{◌≡◌, ◌≢◌, ◌⊎◌, inl, inr, ⊎_elim, ◌<◌, ◌^◌, ℕ, zero, suc, Bool, true, false, cond, List, [], ◌∷◌, ◌++◌, map, length, drop, get_or, None, Some, refl, sym, ◌∙◌, ap, subst, arith}
use Rattle.std.specs.Prelude.{◌↔◌}
use Rattle.std.specs.Ordering.{nat_cmp, eq_by_cmp}
use Rattle.std.specs.Cmp.{IsTotalOrder}
use Rattle.std.specs.declared.cmp.Ordering.{Ordering}
use Rattle.std.specs.FinMap.Entries.{find}
use Rattle.std.specs.List.{AllByRecursion, Contains, flat_map}
use Rattle.std.proofs.lemmas.Cmp.{nat_cmp_total, nat_list_cmp_total}
use Rattle.std.proofs.lemmas.Map.Lookups.{CmpEqualImpliesEq, exact_bytes, exact_unsigned}
use Rattle.byteorder.specs.Endian.{big_number}
use Rattle.ls_bytes.specs.Fields.{be64}
use Rattle.ls_bytes.specs.Names.{is_name_byte, IsName}
use Rattle.ls_bytes.proofs.FieldLemmas.{big_number-be64}
use Rattle.ls_board.specs.declared.world.World.{World}
use Rattle.ls_board.specs.Effect.{file_at}
use Rattle.ls_board.specs.Gatekeeper.{record_at}
use Rattle.ls_board.specs.Keys.{key_at}
use Rattle.ls_board.specs.Listing.{line_of, IsListingOf, AreFieldsOf}
use Rattle.ls_board.specs.Order.{byte_cmp}
use Rattle.ls_board.proofs.LookupLemmas.{equal, same_key}

-- ---- lines

-- the first byte, and what follows it
abbrev first_of : List ℕ → ℕ
first_of [] = 0
first_of (b ∷ bs) = b

abbrev rest_of : List ℕ → List ℕ
rest_of [] = []
rest_of (b ∷ bs) = bs

abbrev NoFeed : List ℕ → Type 0
NoFeed text = AllByRecursion (λ b. b ≢ 10) text

-- a name has no line feed
no_feed_byte : (b : ℕ) → is_name_byte b ≡ true → b ≢ 10
no_feed_byte b is feed = let bad : false ≡ true = sym (ap is_name_byte feed) ∙ is in absurd (cc)

no_feed : (text : List ℕ) → ((k d : ℕ) → k < length text → is_name_byte (get_or text k d) ≡ true) → NoFeed text
no_feed [] each = tt
no_feed (b ∷ bs) each = (no_feed_byte b (each 0 0 (omega arith)), no_feed bs (λ k d within. each (suc k) d (omega arith)))

name_no_feed : (text : List ℕ) → IsName text → NoFeed text
name_no_feed text is = no_feed text (λ k d within. is.each k d within)

-- texts with no line feed, each ended, are read in one way
one_line : (x y r s : List ℕ) → NoFeed x → NoFeed y → x ++ 10 ∷ r ≡ y ++ 10 ∷ s → (x ≡ y) × (r ≡ s)
one_line [] [] r s nx ny e = (refl, ap rest_of e)
one_line [] (b ∷ y) r s nx ny e = absurd (ny.0 (sym (ap first_of e)))
one_line (a ∷ x) [] r s nx ny e = absurd (nx.0 (ap first_of e))
one_line (a ∷ x) (b ∷ y) r s nx ny e =
    let rest = one_line x y r s nx.1 ny.1 (ap rest_of e) in
    let first : a ≡ b = ap first_of e in
    ((λ i. first i ∷ rest.0 i), rest.1)

line_there : (x r : List ℕ) → (x ++ 10 ∷ []) ++ r ≡ x ++ 10 ∷ r
line_there [] r = refl
line_there (b ∷ x) r = ap (λ (l : List ℕ). b ∷ l) (line_there x r)

has_line : (x r : List ℕ) → ((x ++ 10 ∷ []) ++ r ≡ []) → ⊥
has_line [] r e = absurd (cc)
has_line (b ∷ x) r e = absurd (cc)

pub same_lines : (xs ys : List (List ℕ)) → AllByRecursion IsName xs → AllByRecursion IsName ys → flat_map line_of xs ≡ flat_map line_of ys → xs ≡ ys
same_lines [] [] nx ny e = refl
same_lines [] (y ∷ ys) nx ny e = absurd (has_line y (flat_map line_of ys) (sym e))
same_lines (x ∷ xs) [] nx ny e = absurd (has_line x (flat_map line_of xs) e)
same_lines (x ∷ xs) (y ∷ ys) nx ny e =
    let one = one_line x y (flat_map line_of xs) (flat_map line_of ys) (name_no_feed x nx.0) (name_no_feed y ny.0)
    (sym (line_there x (flat_map line_of xs)) ∙ (e ∙ line_there y (flat_map line_of ys))) in
    let rest = same_lines xs ys nx.1 ny.1 one.1 in
    λ i. one.0 i ∷ rest i

-- ---- numbers

abbrev Small : ℕ → Type 0
Small number = number < 2 ^ 64

one_number : (x y : ℕ) (r s : List ℕ) → Small x → Small y → be64 x ++ r ≡ be64 y ++ s → (x ≡ y) × (r ≡ s)
one_number x y r s small less e =
    (sym (big_number-be64 x r small) ∙ (ap (big_number 8) e ∙ big_number-be64 y s less), ap (λ (l : List ℕ). drop 8 l) e)

has_number : (x : ℕ) (r : List ℕ) → be64 x ++ r ≡ [] → ⊥
has_number x r e = absurd (cc)

pub same_numbers : (xs ys : List ℕ) → AllByRecursion Small xs → AllByRecursion Small ys → flat_map be64 xs ≡ flat_map be64 ys → xs ≡ ys
same_numbers [] [] nx ny e = refl
same_numbers [] (y ∷ ys) nx ny e = absurd (has_number y (flat_map be64 ys) (sym e))
same_numbers (x ∷ xs) [] nx ny e = absurd (has_number x (flat_map be64 xs) e)
same_numbers (x ∷ xs) (y ∷ ys) nx ny e =
    let one = one_number x y (flat_map be64 xs) (flat_map be64 ys) nx.0 ny.0 e in
    let rest = same_numbers xs ys nx.1 ny.1 one.1 in
    λ i. one.0 i ∷ rest i

-- ---- of the rows of a table

rows_texts : {K X : Type 0} (text : K → List ℕ) (rows : List (K × X)) → flat_map (λ row. text row.0) rows ≡ flat_map text (map (λ row. row.0) rows)
rows_texts text [] = refl
rows_texts text (r ∷ rows) = ap (λ (l : List ℕ). text r.0 ++ l) (rows_texts text rows)

pub names_read : (files : List (List ℕ × List ℕ)) (names : List (List ℕ)) (out : List ℕ) → IsListingOf files out → AllByRecursion IsName names → out ≡ flat_map line_of names → names ≡ map (λ file. file.0) files
names_read files names out lists each is =
    same_lines names (map (λ file. file.0) files) each lists.each (sym is ∙ (lists.is ∙ rows_texts line_of files))

pub numbers_read : {X : Type 0} (rows : List (ℕ × X)) (numbers out : List ℕ) → AreFieldsOf rows out → AllByRecursion (λ number. number < 2 ^ 64) numbers → out ≡ flat_map be64 numbers → numbers ≡ map (λ row. row.0) rows
numbers_read rows numbers out lists each is =
    same_numbers numbers (map (λ row. row.0) rows) each lists.each (sym is ∙ (lists.is ∙ rows_texts be64 rows))

-- ---- what is there

none_in : {K : Type 0} (k : K) → ¬ (Contains [] k)
none_in k (i, within, is) = omega arith

in_first : {K : Type 0} (k : K) (ks : List K) → Contains (k ∷ ks) k
in_first k ks = (0, omega arith, refl)

in_rest : {K : Type 0} (j : K) (ks : List K) (k : K) → Contains ks k → Contains (j ∷ ks) k
in_rest j ks k (i, within, is) = (suc i, omega arith, is)

in_either : {K : Type 0} (j : K) (ks : List K) (k : K) → Contains (j ∷ ks) k → (j ≡ k) ⊎ Contains ks k
in_either j ks k (zero, within, is) = inl is
in_either j ks k (suc i, within, is) = inr (i, omega arith, is)

module _ {K X : Type 0} (order : K → K → Ordering) (total : IsTotalOrder order) (exact : CmpEqualImpliesEq order) where
  pub key_found : (rows : List (K × X)) (k : K) → ¬ (find order k rows ≡ None) → Contains (map (λ row. row.0) rows) k
  key_found [] k there = absurd (there refl)
  key_found (e ∷ es) k there = by (eq_by_cmp order k e.0) refl (key_found es k)
    where
      by : (b : Bool) → eq_by_cmp order k e.0 ≡ b → (¬ (find order k es ≡ None) → Contains (map (λ row. row.0) es) k) → Contains (e.0 ∷ map (λ row. row.0) es) k
      by true is rest = subst (λ (j : K). Contains (j ∷ map (λ row. row.0) es) k) (exact k e.0 (equal _ is)) (in_first k (map (λ row. row.0) es))
      by false is rest = in_rest e.0 (map (λ row. row.0) es) k (rest (λ none. there (ap (λ (b : Bool). cond b (Some e.1) (find order k es)) is ∙ none)))

  pub found_key : (rows : List (K × X)) (k : K) → Contains (map (λ row. row.0) rows) k → ¬ (find order k rows ≡ None)
  found_key [] k has none = none_in k has
  found_key (e ∷ es) k has none = by (eq_by_cmp order k e.0) refl (found_key es k)
    where
      by : (b : Bool) → eq_by_cmp order k e.0 ≡ b → (Contains (map (λ row. row.0) es) k → ¬ (find order k es ≡ None)) → ⊥
      by true is rest = let bad : Some e.1 ≡ None = sym (ap (λ (b : Bool). cond b (Some e.1) (find order k es)) is) ∙ none in absurd (cc)
      by false is rest =
          ⊎_elim (λ same. let bad : true ≡ false = sym (same_key order total k) ∙ (ap (λ (j : K). eq_by_cmp order k j) (sym same) ∙ is) in absurd (cc))
          (λ later. rest later (sym (ap (λ (b : Bool). cond b (Some e.1) (find order k es)) is) ∙ none)) (in_either e.0 (map (λ row. row.0) es) k has)

pub files_there : (w : World) (n : List ℕ) → Contains (map (λ file. file.0) w.files) n ↔ (¬ (file_at w n ≡ None))
files_there w n = (found_key byte_cmp nat_list_cmp_total exact_bytes w.files n, key_found byte_cmp nat_list_cmp_total exact_bytes w.files n)

pub records_there : (w : World) (sid : ℕ) → Contains (map (λ row. row.0) w.gk) sid ↔ (¬ (record_at w.gk sid ≡ None))
records_there w sid = (found_key nat_cmp nat_cmp_total exact_unsigned w.gk sid, key_found nat_cmp nat_cmp_total exact_unsigned w.gk sid)

pub keys_there : (w : World) (alias : ℕ) → Contains (map (λ row. row.0) w.keys) alias ↔ (¬ (key_at w.keys alias ≡ None))
keys_there w alias = (found_key nat_cmp nat_cmp_total exact_unsigned w.keys alias, key_found nat_cmp nat_cmp_total exact_unsigned w.keys alias)
