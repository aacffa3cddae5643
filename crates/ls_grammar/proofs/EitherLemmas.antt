-- One of two words.
use Rattle.std.proofs.Common.{◌≡◌, ℕ, ◌≤◌, ◌≢◌, List, length, Ok, refl, sym, ap, subst, ◌∙◌, arith, inl, inr, ◌⊎◌}
use Rattle.std.specs.Prelude.{max, min}
use Rattle.std.specs.Str.{bytes_eq}
use Rattle.std.proofs.lemmas.Bool.{cases_Bool, cases_lt, false≢true}
use Rattle.std.proofs.lemmas.Slice.Eq.{bytes_eq-Decides}
use Rattle.ls_grammar.specs.Words.{Word, fixed, number, hex, credential, word_text, either, IsOf}
use Rattle.ls_grammar.specs.Reads.{shared, Reads}
use Rattle.ls_grammar.specs.Reading.{read_either}
use Rattle.ls_grammar.proofs.SharedLemmas.{HasNoSpace}
use Rattle.ls_grammar.proofs.FurthestLemmas.{furthest_at}
use Rattle.ls_grammar.proofs.SequenceLemmas.{Fits, IsLawful}

-- the word that is there
found : (this that : List ℕ) (room : ℕ) (text x : List ℕ) → (x ≡ this) ⊎ (x ≡ that)
    → length x ≤ room → text ≡ x
    → Reads (Fits (either this that) room) word_text text (Ok (fixed x))
found this that room text x is fits e = ((is, fits), sym e, only)
  where
    only : (w : Word) → Fits (either this that) room w → word_text w ≡ text → w ≡ fixed x
    only (fixed y) g h = cc (h, e)
    only (number n) g h = absurd g.0
    only (hex bytes) g h = absurd g.0
    only (credential kind y) g h = absurd g.0

furthest_of : (this that : List ℕ) (room : ℕ) (text : List ℕ) (w : Word)
    → Fits (either this that) room w → shared (word_text w) text ≤ max (shared this text)
    (shared that text)
furthest_of this that room text (fixed y) g =
    elim g.0 [
      | inl e ↦ subst (λ (x : List ℕ). shared x text ≤ max (shared this text) (shared that text)) (sym e) (omega arith)
      | inr e ↦ subst (λ (x : List ℕ). shared x text ≤ max (shared this text) (shared that text)) (sym e) (omega arith)
    ]
furthest_of this that room text (number n) g = absurd g.0
furthest_of this that room text (hex bytes) g = absurd g.0
furthest_of this that room text (credential kind y) g = absurd g.0

none_of : (this that : List ℕ) (room : ℕ) (text : List ℕ) → text ≢ this → text ≢ that → (w : Word)
    → Fits (either this that) room w → ¬ (word_text w ≡ text)
none_of this that room text a b (fixed y) g h = elim g.0 [ inl e ↦ a (sym h ∙ e) | inr e ↦ b (sym h ∙ e) ]
none_of this that room text a b (number n) g h = absurd g.0
none_of this that room text a b (hex bytes) g h = absurd g.0
none_of this that room text a b (credential kind y) g h = absurd g.0

either_reads : (this that : List ℕ) (room : ℕ) (text : List ℕ) → max (length this)
    (length that) ≤ room
    → Reads (Fits (either this that) room) word_text text (read_either this that text)
unfolding read_either
either_reads this that room text fits =
    elim (cases_Bool (bytes_eq text this)) [
      | inl a ↦ rw a (found this that room text this (inl refl) (omega arith) ((bytes_eq-Decides text this).0 a))
      | inr a ↦
          elim (cases_Bool (bytes_eq text that)) [
            | inl b ↦ rw (a, b) (found this that room text that (inr refl) (omega arith) ((bytes_eq-Decides text that).0 b))
            | inr b ↦
                rw (a, b) (
                  elim (cases_lt (shared this text) (shared that text)) [
                    | inl lt ↦ furthest_at (Fits (either this that) room) word_text text _ (fixed that) (inr refl, omega arith) (omega arith) (furthest_of this that room text)
                    | inr le ↦ furthest_at (Fits (either this that) room) word_text text _ (fixed this) (inl refl, omega arith) (omega arith) (furthest_of this that room text)
                  ],
                  none_of this that room text (λ e. false≢true (sym a ∙ (bytes_eq-Decides text this).1 e)) (λ e. false≢true (sym b ∙ (bytes_eq-Decides text that).1 e)),
                )
          ]
    ]

no_space_in : (this that : List ℕ) → HasNoSpace this → HasNoSpace that → (w : Word)
    → IsOf (either this that) w → HasNoSpace (word_text w)
no_space_in this that a b (fixed y) g = elim g [ inl e ↦ subst HasNoSpace (sym e) a | inr e ↦ subst HasNoSpace (sym e) b ]
no_space_in this that a b (number n) g = absurd g
no_space_in this that a b (hex bytes) g = absurd g
no_space_in this that a b (credential kind y) g = absurd g

lengths : (this that : List ℕ) (w : Word) → IsOf (either this that) w
    → (min (length this) (length that) ≤ length (word_text w)) × (length (word_text w) ≤ max (length this) (length that))
lengths this that (fixed y) g = elim g [ inl e ↦ omega (arith, ap length e) | inr e ↦ omega (arith, ap length e) ]
lengths this that (number n) g = absurd g
lengths this that (hex bytes) g = absurd g
lengths this that (credential kind y) g = absurd g

shortest_of : (this that : List ℕ)
    → (w : Word) × IsOf (either this that) w × (length (word_text w) ≡ min (length this) (length that))
shortest_of this that =
    elim (cases_lt (length this) (length that)) [
      | inl lt ↦ (fixed this, inl refl, omega arith)
      | inr le ↦ (fixed that, inr refl, omega arith)
    ]

pub either_lawful : (this that : List ℕ) → HasNoSpace this → HasNoSpace that
    → IsLawful (either this that)
either_lawful this that a b =
    let s = shortest_of this that in
    record {
      reads = λ room text fits. either_reads this that room text fits;
      no_space = no_space_in this that a b;
      shortest = s.0;
      shortest_is = s.1;
      shortest_len = s.2;
      at_least = λ w g. (lengths this that w g).0;
      at_most = λ room w g. (lengths this that w g.0).1;
      least_room = omega arith;
    }
