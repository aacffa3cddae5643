-- How long a prefix two texts share.
use Rattle.std.proofs.Common.{◌≡◌, ℕ, ◌+◌, ◌≤◌, ◌≢◌, List, [], ◌∷◌, ◌++◌, length, refl, sym, ap, subst, ◌∙◌, arith, inl, inr, ◌⊎◌}
use Rattle.std.specs.Prelude.{⊤, ◌==◌}
use Rattle.std.specs.List.{AllByRecursion}
use Rattle.std.proofs.lemmas.Bool.Decides.{nat_tests}
use Rattle.std.proofs.lemmas.Bool.{cases_eq}
use Rattle.std.proofs.lemmas.List.Sums.{common_prefix_len-le}
use Rattle.ls_grammar.specs.Reads.{shared}

pub shared-same : (b : ℕ) (xs ys : List ℕ) → shared (b ∷ xs) (b ∷ ys) ≡ 1 + shared xs ys
shared-same b xs ys = grind (arith, nat_tests)

pub shared-apart : (b c : ℕ) (xs ys : List ℕ) → b ≢ c → shared (b ∷ xs) (c ∷ ys) ≡ 0
shared-apart b c xs ys h = grind (arith, nat_tests)

pub shared-append : (p xs ys : List ℕ) → shared (p ++ xs) (p ++ ys) ≡ length p + shared xs ys
shared-append [] xs ys = omega arith
shared-append (b ∷ p) xs ys = let h = shared-append p xs ys in let e = shared-same b (p ++ xs) (p ++ ys) in omega arith

pub shared-self : (xs : List ℕ) → shared xs xs ≡ length xs
shared-self [] = refl
shared-self (b ∷ xs) = let h = shared-self xs in let e = shared-same b xs xs in omega arith

pub shared-le : (xs ys : List ℕ) → (shared xs ys ≤ length xs) × (shared xs ys ≤ length ys)
shared-le xs ys = common_prefix_len-le (λ x y. x == y) xs ys

pub shared-nil : (xs : List ℕ) → shared xs [] ≡ 0
shared-nil [] = refl
shared-nil (x ∷ xs) = refl

-- a text with no space
abbrev pub HasNoSpace : List ℕ → Type 0
HasNoSpace text = AllByRecursion (λ b. b ≢ 32) text

-- nothing, or a text that begins with a space
abbrev pub IsTail : List ℕ → Type 0
IsTail [] = ⊤
IsTail (b ∷ text) = b ≡ 32

-- two words that differ, and what follows them
pub shared-words : (a s b t : List ℕ) → HasNoSpace a → IsTail s → HasNoSpace b → IsTail t → a ≢ b
    → shared (a ++ s) (b ++ t) ≡ shared a b
shared-words [] s [] t na is nb it ne = absurd (ne refl)
shared-words [] [] (c ∷ b) t na is nb it ne = refl
shared-words [] (x ∷ s) (c ∷ b) t na is nb it ne = shared-apart x c s (b ++ t) (λ e. nb.0 (sym e ∙ is))
shared-words (c ∷ a) s [] [] na is nb it ne = shared-nil (c ∷ (a ++ s))
shared-words (c ∷ a) s [] (x ∷ t) na is nb it ne = shared-apart c x (a ++ s) t (λ e. na.0 (e ∙ it))
shared-words (c ∷ a) s (d ∷ b) t na is nb it ne =
    elim (cases_eq c d) [
      | inl e ↦
          subst (λ (x : ℕ). shared (c ∷ (a ++ s)) (x ∷ (b ++ t)) ≡ shared (c ∷ a) (x ∷ b)) e
          (shared-same c (a ++ s) (b ++ t) ∙ ap (λ (n : ℕ). 1 + n) (shared-words a s b t na.1 is nb.1 it (λ h. ne (cc (h, e)))) ∙ sym (shared-same c a b))
      | inr e ↦ shared-apart c d (a ++ s) (b ++ t) e ∙ sym (shared-apart c d a b e)
    ]

-- a word and what follows it are told by the first space
pub parted : (a s b t : List ℕ) → HasNoSpace a → IsTail s → HasNoSpace b → IsTail t
    → a ++ s ≡ b ++ t → (a ≡ b) × (s ≡ t)
parted [] s [] t na is nb it e = (refl, e)
parted [] [] (c ∷ b) t na is nb it e = absurd (cc e)
parted [] (x ∷ s) (c ∷ b) t na is nb it e = let h : x ≡ c = cc e in absurd (nb.0 (sym h ∙ is))
parted (c ∷ a) s [] [] na is nb it e = absurd (cc e)
parted (c ∷ a) s [] (x ∷ t) na is nb it e = let h : c ≡ x = cc e in absurd (na.0 (h ∙ it))
parted (c ∷ a) s (d ∷ b) t na is nb it e =
    let h : c ≡ d = cc e in
    let k : a ++ s ≡ b ++ t = cc e in
    let p = parted a s b t na.1 is nb.1 it k in
    (cc (h, p.0), p.1)

-- two texts are one or not
pub cases_list : (a b : List ℕ) → (a ≡ b) ⊎ (a ≢ b)
cases_list [] [] = inl refl
cases_list [] (y ∷ b) = inr (λ e. cc e)
cases_list (x ∷ a) [] = inr (λ e. cc e)
cases_list (x ∷ a) (y ∷ b) =
    elim (cases_eq x y) [
      | inl e ↦ elim (cases_list a b) [ inl k ↦ inl (cc (e, k)) | inr k ↦ inr (λ h. let j : a ≡ b = cc h in k j) ]
      | inr e ↦ inr (λ h. let j : x ≡ y = cc h in e j)
    ]
