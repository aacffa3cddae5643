-- Texts of rows, put one after the other as a loop does.
use Rattle.std.proofs.Common.{◌≡◌, ◌≤◌, ◌<◌, ℕ, ◌+◌, List, [], ◌∷◌, ◌++◌, length, get_or, take, sym, ap, ◌∙◌}
use Rattle.std.specs.List.{flat_map}
use Rattle.std.proofs.lemmas.List.{append_assoc, append-nil, take_more, take_all}
use Rattle.std.proofs.lemmas.Grind.{flat_map-append}
use Rattle.std.proofs.lemmas.List.Concat.{flat_map-cons}
use Rattle.ls_bytes.specs.Fields.{be32, be64}
use Rattle.ls_credential.specs.Codes.{code_of}
use Rattle.ls_record.specs.declared.row.UserRow.{UserRow}
use Rattle.ls_record.specs.Spelling.{flag, row_bytes}

module _ {A : Type 0} (spell : A → List ℕ) (start : List ℕ) (xs : List A) (i : ℕ) where
  -- one more
  pub put_more : (d : A) → i < length xs → (start ++ flat_map spell (take i xs)) ++ spell (get_or xs i d) ≡ start ++ flat_map spell (take (i + 1) xs)
  put_more d lt =
      let x = get_or xs i d in
      let one : flat_map spell (take i xs ++ x ∷ []) ≡ flat_map spell (take i xs) ++ spell x =
      flat_map-append spell (take i xs) (x ∷ []) ∙ ap (λ (t : List ℕ). flat_map spell (take i xs) ++ t) (flat_map-cons spell x [] ∙ append-nil (spell x)) in
      append_assoc start (flat_map spell (take i xs)) (spell x) ∙ ap (λ (t : List ℕ). start ++ t) (sym one ∙ ap (flat_map spell) (sym (take_more xs i d lt)))

  -- all
  pub put_all : length xs ≤ i → start ++ flat_map spell (take i xs) ≡ start ++ flat_map spell xs
  put_all le = ap (λ (ys : List A). start ++ flat_map spell ys) (take_all i xs le)

-- ---- one row

regroup : (a u f p s l t : List ℕ) → (((((a ++ u) ++ f) ++ p) ++ s) ++ l) ++ t ≡ a ++ (u ++ (f ++ (p ++ (s ++ (l ++ t)))))
regroup a u f p s l t = simp append_assoc

-- the fields of a row, put one behind the other
pub row_put : (start : List ℕ) (row : UserRow) (a b c d e f ids : List ℕ) (escrow kind auto n : ℕ)
    → a ≡ start ++ be32 row.user → b ≡ a ++ escrow ∷ kind ∷ auto ∷ row.pin ∷ [] → c ≡ b ++ be64 row.protector → d ≡ c ++ be64 row.secure → e ≡ d ++ n ∷ [] → f ≡ e ++ flat_map be64 ids
    → escrow ≡ flag row.escrow → kind ≡ code_of row.kind → auto ≡ flag row.auto → n ≡ length row.tokens → ids ≡ row.tokens → f ≡ start ++ row_bytes 2 row
row_put start row a b c d e f ids escrow kind auto n a_is b_is c_is d_is e_is f_is escrow_is kind_is auto_is n_is ids_is =
    let flags : List ℕ = flag row.escrow ∷ code_of row.kind ∷ flag row.auto ∷ row.pin ∷ [] in
    let b_all : b ≡ (start ++ be32 row.user) ++ flags = b_is ∙ (λ i. a_is i ++ escrow_is i ∷ kind_is i ∷ auto_is i ∷ row.pin ∷ []) in
    let d_all : d ≡ (((start ++ be32 row.user) ++ flags) ++ be64 row.protector) ++ be64 row.secure =
    d_is ∙ ap (λ (x : List ℕ). x ++ be64 row.secure) (c_is ∙ ap (λ (x : List ℕ). x ++ be64 row.protector) b_all) in
    let e_all : e ≡ ((((start ++ be32 row.user) ++ flags) ++ be64 row.protector) ++ be64 row.secure) ++ length row.tokens ∷ [] = e_is ∙ (λ i. d_all i ++ n_is i ∷ []) in
    f_is ∙ (λ i. e_all i ++ flat_map be64 (ids_is i)) ∙ regroup start (be32 row.user) flags (be64 row.protector) (be64 row.secure) (length row.tokens ∷ []) (flat_map be64 row.tokens)
