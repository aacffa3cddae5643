-- A poke leaves the bytes outside its range.
use Rattle.std.proofs.Common.{◌≡◌, ◌⊎◌, inl, inr, ◌≤◌, ◌<◌, ◌+◌, ◌-◌, ℕ, List, [], ◌∷◌, ◌++◌, length, take, drop, get_or, Option, None, Some, sym, ◌∙◌, ap, arith, length-append, length-take, length-drop}
use Rattle.std.specs.Prelude.{IsSomeAnd}
use Rattle.std.proofs.lemmas.List.{get_or_append_left, get_or-append_right, get_or-take, get_or-drop}
use Rattle.ls_board.specs.Effect.{poked_content, poked_bytes, span_of}
use Rattle.ls_board.specs.Images.{SameOutside, PokedFrom}

length_poked : (old : List ℕ) (at : ℕ) (bytes : List ℕ) → at + length bytes ≤ length old → length (poked_bytes old at bytes) ≡ length old
length_poked old at bytes fits = omega (arith, length-append (take at old ++ bytes) (drop (at + length bytes) old), length-append (take at old) bytes, length-take at old, length-drop (at + length bytes) old)

poked_same_outside : (old : List ℕ) (at : ℕ) (bytes : List ℕ) → at + length bytes ≤ length old → SameOutside (record { at = at; len = length bytes } ∷ []) (poked_bytes old at bytes) old
poked_same_outside old at bytes fits = record {
  long = sym (length_poked old at bytes fits);
  kept = λ i out. before_or_behind i out.0;
}
  where
    front : length (take at old) ≡ at
    front = omega (arith, length-take at old)

    both : length (take at old ++ bytes) ≡ at + length bytes
    both = omega (arith, length-append (take at old) bytes, front)

    before_or_behind : (i : ℕ) → (i < at) ⊎ (at + length bytes ≤ i) → get_or old i 0 ≡ get_or (poked_bytes old at bytes) i 0
    before_or_behind i (inl before) =
        sym (get_or_append_left (take at old ++ bytes) (drop (at + length bytes) old) 0 i (omega (arith, both))
        ∙ get_or_append_left (take at old) bytes 0 i (omega (arith, front)) ∙ get_or-take at old i 0 before)
    before_or_behind i (inr behind) =
        sym (get_or-append_right (take at old ++ bytes) (drop (at + length bytes) old) (at + length bytes) i 0 both behind
        ∙ get_or-drop (at + length bytes) old (i - (at + length bytes)) 0 ∙ ap (λ (k : ℕ). get_or old k 0) (omega arith))

pub poked_from : (now : Option (List ℕ)) (at : ℕ) (bytes : List ℕ) → IsSomeAnd now (λ old. at + length bytes ≤ length old) → PokedFrom (span_of at bytes ∷ []) (poked_content now at bytes) now
poked_from None at bytes applies = tt
poked_from (Some old) at bytes applies = poked_same_outside old at bytes applies
