-- Pending tokens, one after another: each becomes active or stays.
use Rattle.std.proofs.Common.{◌≡◌, ◌⊎◌, inl, inr, ◌<◌, ◌+◌, ◌-◌, ℕ, zero, suc, Bool, true, false, cond, eqb, List, [], ◌∷◌, ◌++◌, length, map, take, drop, get_or, append_assoc, refl, sym, ◌∙◌, ap, arith}
use Rattle.std.proofs.lemmas.List.{drop_more}
use Rattle.ls_vault.specs.Tokens.{pending_of, without_first, activated}
use Rattle.ls_vault.specs.declared.token.PendingToken.{PendingToken}
use Rattle.ls_vault.specs.declared.token.Token.{Token}

pub without_first-nil : (k user : ℕ) → without_first k [] user ≡ []
without_first-nil zero user = refl
without_first-nil (suc k) user = refl

module _ (p : PendingToken) (rest : List PendingToken) (user : ℕ) where
  taken_head : (b : Bool) (left : ℕ) → b ≡ true → 0 < left → take left (cond b (p ∷ pending_of rest user) (pending_of rest user)) ≡ p ∷ take (left - 1) (pending_of rest user)
  taken_head true zero is some = absurd (omega (arith, some))
  taken_head true (suc left) is some = let less : suc left - 1 ≡ left = omega arith in ap (λ k. p ∷ take k (pending_of rest user)) (sym less)
  taken_head false left is some = absurd (cc)

  taken_rest : (left : ℕ) → eqb p.user user ≡ true → 0 < left → without_first left (p ∷ rest) user ≡ without_first (left - 1) rest user
  taken_rest zero is some = absurd (omega (arith, some))
  taken_rest (suc left) is some =
      let less : suc left - 1 ≡ left = omega arith in
      ap (λ b. cond b (without_first left rest user) (p ∷ without_first (suc left) rest user)) is ∙ ap (λ k. without_first k rest user) (sym less)

  kept_head : (b : Bool) (left : ℕ) → (b ≡ false) ⊎ (left ≡ 0) → take left (cond b (p ∷ pending_of rest user) (pending_of rest user)) ≡ take left (pending_of rest user)
  kept_head false left why = refl
  kept_head true zero why = refl
  kept_head true (suc left) (inl is) = absurd (cc)
  kept_head true (suc left) (inr is) = absurd (omega (arith, is))

  kept_rest : (left : ℕ) → (eqb p.user user ≡ false) ⊎ (left ≡ 0) → without_first left (p ∷ rest) user ≡ p ∷ without_first left rest user
  kept_rest zero why = refl
  kept_rest (suc left) (inl is) = ap (λ b. cond b (without_first left rest user) (p ∷ without_first (suc left) rest user)) is
  kept_rest (suc left) (inr is) = absurd (omega (arith, is))

-- p is the one at i
module _ (xs : List PendingToken) (i : ℕ) (p : PendingToken) (read : p ≡ get_or xs i p) (here : i < length xs) (user left : ℕ) where
  next : drop i xs ≡ p ∷ drop (i + 1) xs
  next = drop_more xs i p here ∙ ap (λ (q : PendingToken). q ∷ drop (i + 1) xs) (sym read)

  -- it becomes active
  module _ (is : eqb p.user user ≡ true) (some : 0 < left) (less : ℕ) (by : less ≡ left - 1) where
    pub active_more : (active more all : List Token) → more ≡ active ++ activated p ∷ [] → active ++ map activated (take left (pending_of (drop i xs) user)) ≡ all
        → more ++ map activated (take less (pending_of (drop (i + 1) xs) user)) ≡ all
    active_more active more all new was =
        ap (λ (ts : List Token). ts ++ map activated (take less (pending_of (drop (i + 1) xs) user))) new
        ∙ (append_assoc active (activated p ∷ []) (map activated (take less (pending_of (drop (i + 1) xs) user)))
        ∙ (ap (λ (ps : List PendingToken). active ++ map activated ps)
        (sym (ap (λ (ps : List PendingToken). take left (pending_of ps user)) next
        ∙ (taken_head p (drop (i + 1) xs) user (eqb p.user user) left is some ∙ ap (λ k. p ∷ take k (pending_of (drop (i + 1) xs) user)) (sym by))))
        ∙ was))

    pub others_same : (others same all : List PendingToken) → same ≡ others → others ++ without_first left (drop i xs) user ≡ all → same ++ without_first less (drop (i + 1) xs) user ≡ all
    others_same others same all old was =
        ap (λ (ps : List PendingToken). ps ++ without_first less (drop (i + 1) xs) user) old
        ∙ (ap (λ (ps : List PendingToken). others ++ ps)
        (sym (ap (λ (ps : List PendingToken). without_first left ps user) next
        ∙ (taken_rest p (drop (i + 1) xs) user left is some ∙ ap (λ k. without_first k (drop (i + 1) xs) user) (sym by))))
        ∙ was)

  -- it stays
  module _ (why : (eqb p.user user ≡ false) ⊎ (left ≡ 0)) (still : ℕ) (by : still ≡ left) where
    pub active_same : (active same all : List Token) → same ≡ active → active ++ map activated (take left (pending_of (drop i xs) user)) ≡ all
        → same ++ map activated (take still (pending_of (drop (i + 1) xs) user)) ≡ all
    active_same active same all old was =
        ap (λ (ts : List Token). ts ++ map activated (take still (pending_of (drop (i + 1) xs) user))) old
        ∙ (ap (λ (ps : List PendingToken). active ++ map activated ps)
        (sym (ap (λ (ps : List PendingToken). take left (pending_of ps user)) next
        ∙ (kept_head p (drop (i + 1) xs) user (eqb p.user user) left why ∙ ap (λ k. take k (pending_of (drop (i + 1) xs) user)) (sym by))))
        ∙ was)

    pub others_more : (others more all : List PendingToken) → more ≡ others ++ p ∷ [] → others ++ without_first left (drop i xs) user ≡ all → more ++ without_first still (drop (i + 1) xs) user ≡ all
    others_more others more all new was =
        ap (λ (ps : List PendingToken). ps ++ without_first still (drop (i + 1) xs) user) new
        ∙ (append_assoc others (p ∷ []) (without_first still (drop (i + 1) xs) user)
        ∙ (ap (λ (ps : List PendingToken). others ++ ps)
        (sym (ap (λ (ps : List PendingToken). without_first left ps user) next
        ∙ (kept_rest p (drop (i + 1) xs) user left why ∙ ap (λ k. p ∷ without_first k (drop (i + 1) xs) user) (sym by))))
        ∙ was))
