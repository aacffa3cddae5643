-- How to show that a text is read exactly.
use Rattle.std.proofs.Common.{◌≡◌, ℕ, ◌+◌, ◌<◌, ◌≤◌, List, [], ◌∷◌, ◌++◌, length, refl, subst, arith, inl, inr}
use Rattle.ls_grammar.specs.Reads.{shared, IsFurthest}
use Rattle.ls_grammar.proofs.SharedLemmas.{shared-self, shared-same, shared-apart}
use Rattle.std.proofs.lemmas.Bool.{cases_eq}

-- One goes along for n bytes, none for more.
pub furthest_at : {V : Type 0} (Is : V → Type 0) (text_of : V → List ℕ) (text : List ℕ) (n : ℕ)
    → (v : V) → Is v → n ≤ shared (text_of v) text → ((w : V) → Is w → shared (text_of w) text ≤ n)
    → IsFurthest Is text_of text n
furthest_at Is text_of text n v is reached furthest =
    let h = furthest v is in
    record { reached = (v, is, omega arith); furthest = furthest }

-- where none goes along for the whole text, none has it
pub none_has : {V : Type 0} (Is : V → Type 0) (text_of : V → List ℕ) (text : List ℕ) (n : ℕ)
    → n < length text
    → ((w : V) → Is w → shared (text_of w) text ≤ n) → (w : V) → Is w → ¬ (text_of w ≡ text)
none_has Is text_of text n lt furthest w is e =
    let h : shared text text ≤ n = subst (λ (x : List ℕ). shared x text ≤ n) e (furthest w is) in
    absurd (omega (arith, shared-self text, h))

-- a text that shares all of p begins with it
pub shared-front : (p x y : List ℕ) → length p ≤ shared x (p ++ y)
    → (rest : List ℕ) × (x ≡ p ++ rest)
shared-front [] x y h = (x, refl)
shared-front (b ∷ p) [] y h = absurd (omega arith)
shared-front (b ∷ p) (c ∷ x) y h =
    elim (cases_eq c b) [
      | inl e ↦
          let k : shared (b ∷ x) (b ∷ (p ++ y)) ≡ 1 + shared x (p ++ y) = shared-same b x (p ++ y) in
          let j : length (b ∷ p) ≤ shared (b ∷ x) (b ∷ (p ++ y)) = subst (λ (z : ℕ). length (b ∷ p) ≤ shared (z ∷ x) (b ∷ (p ++ y))) e h in
          let r = shared-front p x y (omega arith) in
          (r.0, cc (e, r.1))
      | inr e ↦ absurd (omega (arith, shared-apart c b x (p ++ y) e))
    ]
