-- What is put at the end of a text, one after another.
use Rattle.std.proofs.Common.{◌≡◌, ◌≤◌, ◌<◌, ℕ, ◌+◌, ◌*◌, List, [], ◌∷◌, ◌++◌, length, map, take, get_or, refl, sym, ap, ◌∙◌, append_assoc, arith}
use Rattle.std.specs.List.{flat_map}
use Rattle.std.proofs.lemmas.List.Concat.{flat_map-append}
use Rattle.std.proofs.lemmas.List.{append-nil, map-append, take_more}
use Rattle.ls_grammar.specs.Words.{Word, word_text, spaced}
use Rattle.ls_script.specs.ReplyText.{Puts}

pub spaced-append : (a b : List Word) → spaced (a ++ b) ≡ spaced a ++ spaced b
spaced-append [] b = refl
spaced-append (w ∷ a) b = ap (λ (x : List ℕ). 32 ∷ (word_text w ++ x)) (spaced-append a b) ∙ ap (λ (x : List ℕ). 32 ∷ x) (sym (append_assoc (word_text w) (spaced a) (spaced b)))

-- words, and then more of them
pub puts_then : (a b : List Word) (m n : ℕ) (x y z : List ℕ) → Puts a m x y → Puts b n y z
    → Puts (a ++ b) (m + n) x z
puts_then a b m n x y z first then = record {
  text = then.text ∙ ap (λ (t : List ℕ). t ++ spaced b) first.text ∙ append_assoc x (spaced a) (spaced b) ∙ ap (λ (t : List ℕ). x ++ t) (sym (spaced-append a b));
  size = omega (arith, first.size, then.size);
}

-- no words
pub puts_none : (x : List ℕ) → Puts [] 0 x x
puts_none x = record { text = sym (append-nil x); size = omega arith }

-- at most so many bytes are at most more
pub puts_within : (a : List Word) (m n : ℕ) (x y : List ℕ) → m ≤ n → Puts a m x y → Puts a n x y
puts_within a m n x y le puts = record { text = puts.text; size = omega (arith, puts.size) }

-- ---- one row more of a list

pub rows_more : {X : Type 0} (f : X → List Word) (k : ℕ) (xs : List X) (i : ℕ) (d : X)
    (x y z : List ℕ) → i < length xs
    → Puts (flat_map f (take i xs)) (k * i) x y → Puts (f (get_or xs i d)) k y z
    → Puts (flat_map f (take (i + 1) xs)) (k * (i + 1)) x z
rows_more f k xs i d x y z lt before one =
    let words : flat_map f (take (i + 1) xs) ≡ flat_map f (take i xs) ++ f (get_or xs i d) =
    ap (flat_map f) (take_more xs i d lt) ∙ flat_map-append f (take i xs) (get_or xs i d ∷ [])
    ∙ ap (λ (w : List Word). flat_map f (take i xs) ++ w) (append-nil (f (get_or xs i d))) in
    rw words (puts_within _ (k * i + k) _ _ _ (omega arith) (puts_then _ _ _ _ _ _ _ before one))

pub words_more : {X : Type 0} (f : X → Word) (k : ℕ) (xs : List X) (i : ℕ) (d : X) (x y z : List ℕ)
    → i < length xs
    → Puts (map f (take i xs)) (k * i) x y → Puts (f (get_or xs i d) ∷ []) k y z
    → Puts (map f (take (i + 1) xs)) (k * (i + 1)) x z
words_more f k xs i d x y z lt before one =
    let words : map f (take (i + 1) xs) ≡ map f (take i xs) ++ f (get_or xs i d) ∷ [] =
    ap (map f) (take_more xs i d lt) ∙ map-append f (take i xs) (get_or xs i d ∷ []) in
    rw words (puts_within _ (k * i + k) _ _ _ (omega arith) (puts_then _ _ _ _ _ _ _ before one))
