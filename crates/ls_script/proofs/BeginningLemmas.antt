-- A line is read by its first 4,097 bytes.
use Rattle.std.proofs.Common.{◌≡◌, ◌≢◌, ◌≤◌, ◌<◌, ◌+◌, ◌⊎◌, inl, inr, ℕ, zero, suc, List, [], ◌∷◌, Result, Ok, Err, length, take, refl, sym, ◌∙◌, ap, subst, arith}
use Rattle.std.proofs.lemmas.Bool.{cases_eq}
use Rattle.ls_grammar.proofs.GrammarTest.{grammar_read}
use Rattle.ls_grammar.proofs.SharedLemmas.{shared-same, shared-apart, shared-le}
use Rattle.ls_grammar.specs.Reading.{read_line}
use Rattle.ls_grammar.specs.Reads.{shared, IsFurthest, Reads}
use Rattle.ls_grammar.specs.Words.{Line, line_text, IsLine}
use Rattle.ls_script.proofs.ScriptGrammar.{lawful}
use Rattle.ls_script.specs.Grammar.{grammar}
use Rattle.ls_script.specs.ScriptReading.{read_as, reading_of}

-- what stands behind the first k bytes isn't compared with a text of at most k
shared_take : (xs ys : List ℕ) (k : ℕ) → length xs ≤ k → shared xs (take k ys) ≡ shared xs ys
shared_take [] ys k le = let h = shared-le [] (take k ys) in let g = shared-le [] ys in let a = h.0 in let b = g.0 in omega (arith, a, b)
shared_take (x ∷ xs) ys zero le = absurd (omega (arith, le))
shared_take (x ∷ xs) [] (suc k) le = refl
shared_take (x ∷ xs) (y ∷ ys) (suc k) le =
    elim (cases_eq x y) [
      | inl e ↦
          subst (λ (z : ℕ). shared (x ∷ xs) (z ∷ take k ys) ≡ shared (x ∷ xs) (z ∷ ys)) e
          (shared-same x xs (take k ys) ∙ (ap (λ (n : ℕ). 1 + n) (shared_take xs ys k (omega (arith, le))) ∙ sym (shared-same x xs ys)))
      | inr e ↦ shared-apart x y xs (take k ys) e ∙ sym (shared-apart x y xs ys e)
    ]

-- a text is what its first bytes are, or longer than these
short_or_long : (k : ℕ) (text : List ℕ) → (take k text ≡ text) ⊎ ((length (take k text) ≡ k) × (k < length text))
short_or_long zero [] = inl refl
short_or_long zero (b ∷ text) = inr (refl, omega arith)
short_or_long (suc k) [] = inl refl
short_or_long (suc k) (b ∷ text) =
    elim (short_or_long k text) [
      | inl e ↦ inl (ap (λ (t : List ℕ). b ∷ t) e)
      | inr h ↦ inr (let a = h.0 in let c = h.1 in (omega (arith, a), omega (arith, c)))
    ]

-- a text is read in one way
abbrev IsOurs : Line → Type 0
IsOurs l = IsLine grammar l

one_reading : (text : List ℕ) (r q : Result Line ℕ) → Reads IsOurs line_text text r → Reads IsOurs line_text text q → r ≡ q
one_reading text (Ok l) (Ok m) a b = ap (λ (x : Line). let o : Result Line ℕ = Ok x in o) (b.2 l a.0 a.1)
one_reading text (Ok l) (Err n) a b = absurd (b.1 l a.0 a.1)
one_reading text (Err n) (Ok l) a b = absurd (a.1 l b.0 b.1)
one_reading text (Err n) (Err m) a b = ap (λ (x : ℕ). let o : Result Line ℕ = Err x in o) (same a.0 b.0)
  where
    same : IsFurthest IsOurs line_text text n → IsFurthest IsOurs line_text text m → n ≡ m
    same p q =
        let u = q.furthest p.reached.0 p.reached.1 in
        let v = p.furthest q.reached.0 q.reached.1 in
        let e = p.reached.2 in
        let f = q.reached.2 in
        omega (arith, u, v, e, f)

-- a long text and its beginning are read alike
begin_read : (text : List ℕ) → length (take 4097 text) ≡ 4097 → 4097 < length text → (r : Result Line ℕ) → Reads IsOurs line_text text r → Reads IsOurs line_text (take 4097 text) r
begin_read text long more (Ok l) a = absurd (let k : length (line_text l) ≤ 4096 = a.0.1 in let e = ap (λ (t : List ℕ). length t) a.1 in omega (arith, k, e, more))
begin_read text long more (Err n) a = (
  record {
    reached = (a.0.reached.0, a.0.reached.1, shared_take (line_text a.0.reached.0) text 4097 (fits a.0.reached.0 a.0.reached.1) ∙ a.0.reached.2);
    furthest = λ v is. let h = a.0.furthest v is in let e = shared_take (line_text v) text 4097 (fits v is) in omega (arith, h, e);
  },
  λ w is same. let k : length (line_text w) ≤ 4096 = is.1 in let e = ap (λ (t : List ℕ). length t) same in absurd (omega (arith, k, e, long)),
)
  where
    fits : (v : Line) → IsOurs v → length (line_text v) ≤ 4097
    fits v is = let k : length (line_text v) ≤ 4096 = is.1 in omega (arith, k)

same_line : (text : List ℕ) → read_line grammar (take 4097 text) ≡ read_line grammar text
same_line text =
    elim (short_or_long 4097 text) [
      | inl e ↦ ap (read_line grammar) e
      | inr h ↦
          one_reading (take 4097 text) (read_line grammar (take 4097 text)) (read_line grammar text)
          (grammar_read grammar lawful (take 4097 text))
          (begin_read text h.0 h.1 (read_line grammar text) (grammar_read grammar lawful text))
    ]

pub same_reading : (text : List ℕ) → reading_of (take 4097 text) ≡ reading_of text
unfolding reading_of
same_reading text = ap read_as (same_line text)
