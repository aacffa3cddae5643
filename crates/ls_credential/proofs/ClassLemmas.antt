-- Each byte is of one class.
use Rattle.std.proofs.Common.{◌≡◌, ℕ, ◌+◌, Bool, true, false, ◌||◌, not, List, [], ◌∷◌, length, if◌then◌else◌, refl, arith}
use Rattle.std.proofs.lemmas.Bool.Decides.{nat_tests}
use Rattle.std.proofs.lemmas.List.Sums.{sum_by-cons}
use Rattle.ls_credential.specs.declared.measure.ByteClass.{ByteClass}
use Rattle.ls_credential.specs.declared.measure.ByteClass.TheVariants.{Upper, Lower, Digit, Symbol}
use Rattle.ls_credential.specs.Counts.{is_upper, is_lower, is_digit, is_of, count_of}

not_both_letters : (b : ℕ) → is_upper b ≡ true → is_lower b ≡ true → ⊥
not_both_letters b u l = grind (arith, nat_tests)

not_upper_digit : (b : ℕ) → is_upper b ≡ true → is_digit b ≡ true → ⊥
not_upper_digit b u d = grind (arith, nat_tests)

not_lower_digit : (b : ℕ) → is_lower b ≡ true → is_digit b ≡ true → ⊥
not_lower_digit b l d = grind (arith, nat_tests)

one : (u l d : Bool) → (u ≡ true → l ≡ true → ⊥) → (u ≡ true → d ≡ true → ⊥) → (l ≡ true → d ≡ true → ⊥)
    → (((if u then 1 else 0) + (if l then 1 else 0)) + (if d then 1 else 0)) + (if not (u || (l || d)) then 1 else 0) ≡ 1
one true true d ul ud ld = absurd (ul refl refl)
one true false true ul ud ld = absurd (ud refl refl)
one true false false ul ud ld = refl
one false true true ul ud ld = absurd (ld refl refl)
one false true false ul ud ld = refl
one false false true ul ud ld = refl
one false false false ul ud ld = refl

more : (class : ByteClass) (b : ℕ) (text : List ℕ) → count_of class (b ∷ text) ≡ (if is_of class b then 1 else 0) + count_of class text
more class b text = sum_by-cons (λ x. if is_of class x then 1 else 0) b text

-- the counts of the four classes are the whole text
pub counts_of_all : (text : List ℕ)
    → ((count_of Upper text + count_of Lower text) + count_of Digit text) + count_of Symbol text ≡ length text
counts_of_all [] = refl
counts_of_all (b ∷ text) =
    let here = one (is_upper b) (is_lower b) (is_digit b) (not_both_letters b) (not_upper_digit b) (not_lower_digit b) in
    rw (more Upper b text, more Lower b text, more Digit b text, more Symbol b text)
    (omega (arith, here, counts_of_all text))
