-- How far a text goes along is the length of its longest prefix that begins one of the texts.
use Rattle.std.proofs.Common.{◌≡◌, ℕ, ◌≤◌, List, ◌++◌, length, take, drop, sym, subst, arith}
use Rattle.std.proofs.lemmas.List.{take-append-drop, length-take}
use Rattle.ls_grammar.specs.Reads.{shared, IsFurthest, IsLongestPrefix}
use Rattle.ls_grammar.proofs.SharedLemmas.{shared-append, shared-le}
use Rattle.ls_grammar.proofs.FurthestLemmas.{shared-front}

pub longest_from_furthest : {V : Type 0} (Is : V → Type 0) (text_of : V → List ℕ) (text : List ℕ)
    (n : ℕ) → IsFurthest Is text_of text n → IsLongestPrefix Is text_of text n
longest_from_furthest Is text_of text n h =
    let best = h.reached in
    let fits : n ≤ length text = omega (arith, best.2, shared-le (text_of best.0) text) in
    let whole : take n text ++ drop n text ≡ text = take-append-drop n text in
    let len : length (take n text) ≡ n = omega (arith, length-take n text) in
    let front = shared-front (take n text) (text_of best.0) (drop n text) (subst (λ (x : List ℕ). length (take n text) ≤ shared (text_of best.0) x) (sym whole) (omega (arith, best.2))) in
    record {
      within = fits;
      begins = (best.0, best.1, front.0, front.1);
      longest = λ m lt le v rest is e.
          let all : take m text ++ drop m text ≡ text = take-append-drop m text in
          let k : m ≤ shared (take m text ++ rest) (take m text ++ drop m text) = omega (arith, shared-append (take m text) rest (drop m text), length-take m text) in
          let j : m ≤ shared (text_of v) text = subst (λ (x : List ℕ). m ≤ shared x text) (sym e) (subst (λ (x : List ℕ). m ≤ shared (take m text ++ rest) x) all k) in
          absurd (omega (arith, h.furthest v is));
    }
