-- Two grammars, read one after the other.
use Rattle.std.proofs.Common.{◌≡◌, ℕ, ◌≤◌, List, [], ◌∷◌, ◌++◌, Result, Ok, Err, true, sym, ap, subst, arith, inl, inr, ◌⊎◌}
use Rattle.std.specs.Prelude.{max}
use Rattle.ls_grammar.specs.Words.{Line, line_text, Row, IsOfRow, IsLine}
use Rattle.ls_grammar.specs.Reads.{Reads, else_read}
use Rattle.ls_grammar.specs.Reading.{read_line}
use Rattle.ls_grammar.proofs.GrammarTest.{grammar_test, grammar_read}

of_append : (a b : List Row) (s : Line) → IsOfRow (a ++ b) s → IsOfRow a s ⊎ IsOfRow b s
of_append [] b s h = inr h
of_append (row ∷ a) b s h =
    elim h [
      | inl k ↦ inl (inl k)
      | inr k ↦ elim (of_append a b s k) [ inl j ↦ inl (inr j) | inr j ↦ inr j ]
    ]

append_of_left : (a b : List Row) (s : Line) → IsOfRow a s → IsOfRow (a ++ b) s
append_of_left [] b s h = absurd h
append_of_left (row ∷ a) b s h = elim h [ inl k ↦ inl k | inr k ↦ inr (append_of_left a b s k) ]

append_of_right : (a b : List Row) (s : Line) → IsOfRow b s → IsOfRow (a ++ b) s
append_of_right [] b s h = h
append_of_right (row ∷ a) b s h = inr (append_of_right a b s h)

split_line : (a b : List Row) (s : Line) → IsLine (a ++ b) s → IsLine a s ⊎ IsLine b s
split_line a b s h = elim (of_append a b s h.0) [ inl k ↦ inl (k, h.1) | inr k ↦ inr (k, h.1) ]

left_line : (a b : List Row) (s : Line) → IsLine a s → IsLine (a ++ b) s
left_line a b s h = (append_of_left a b s h.0, h.1)

right_line : (a b : List Row) (s : Line) → IsLine b s → IsLine (a ++ b) s
right_line a b s h = (append_of_right a b s h.0, h.1)

abbrev done : Line → Result Line ℕ
done s = Ok s

-- What is read by both is what is read by the one, or else by the other, or the greater of how far they go.
pub union_is : (a b : List Row) (text : List ℕ) (q r s : Result Line ℕ)
    → Reads (IsLine (a ++ b)) line_text text q → Reads (IsLine a) line_text text r
    → Reads (IsLine b) line_text text s → q ≡ else_read r s
union_is a b text (Ok w) (Ok v) s g h k = ap done (sym (g.2 v (left_line a b v h.0) h.1))
union_is a b text (Err n) (Ok v) s g h k = absurd (g.1 v (left_line a b v h.0) h.1)
union_is a b text (Ok w) (Err m) (Ok v) g h k = ap done (sym (g.2 v (right_line a b v k.0) k.1))
union_is a b text (Err n) (Err m) (Ok v) g h k = absurd (g.1 v (right_line a b v k.0) k.1)
union_is a b text (Ok w) (Err m) (Err n) g h k = elim (split_line a b w g.0) [ inl j ↦ absurd (h.1 w j g.1) | inr j ↦ absurd (k.1 w j g.1) ]
union_is a b text (Err l) (Err m) (Err n) g h k =
    let best = g.0.reached in
    let left = h.0.reached in
    let right = k.0.reached in
    let m-le : m ≤ l = omega (arith, g.0.furthest left.0 (left_line a b left.0 left.1), left.2) in
    let n-le : n ≤ l = omega (arith, g.0.furthest right.0 (right_line a b right.0 right.1), right.2) in
    let is : l ≡ max m n =
    elim (split_line a b best.0 best.1) [
      | inl j ↦ omega (arith, h.0.furthest best.0 j, best.2)
      | inr j ↦ omega (arith, k.0.furthest best.0 j, best.2)
    ] in
    ap (λ (x : ℕ). let r : Result Line ℕ = Err x in r) is

pub union_reads : (a b : List Row) → grammar_test (a ++ b) ≡ true → (text : List ℕ)
    (r s : Result Line ℕ) → Reads (IsLine a) line_text text r → Reads (IsLine b) line_text text s
    → Reads (IsLine (a ++ b)) line_text text (else_read r s)
union_reads a b test text r s h k =
    let g = grammar_read (a ++ b) test text in
    subst (λ (x : Result Line ℕ). Reads (IsLine (a ++ b)) line_text text x) (union_is a b text (read_line (a ++ b) text) r s g h k) g
