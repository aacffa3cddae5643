-- Noise with zeros behind its end.
use Rattle.std.proofs.Common.{◌≡◌, ◌≤◌, ◌-◌, ◌++◌, ℕ, zero, suc, List, [], ◌∷◌, length, take, sym, ◌∙◌, ap, arith}
use Rattle.std.specs.Prelude.{replicate}
use Rattle.std.proofs.lemmas.List.{take-replicate}

padded : (noise : List ℕ) (len most : ℕ) → len ≤ most → take len noise ++ replicate (len - length noise) 0 ≡ take len (noise ++ replicate most 0)
padded [] zero most within = ap (λ (n : ℕ). replicate n 0) (let e : 0 - 0 ≡ 0 = omega arith in e)
padded [] (suc len) most within =
    ap (λ (n : ℕ). replicate n 0) (let e : suc len - 0 ≡ suc len = omega arith in e) ∙ sym (take-replicate (suc len) most 0 within)
padded (b ∷ noise) zero most within = ap (λ (n : ℕ). replicate n 0) (let e : 0 - suc (length noise) ≡ 0 = omega arith in e)
padded (b ∷ noise) (suc len) most within =
    ap (λ (n : ℕ). b ∷ take len noise ++ replicate n 0) (let e : suc len - suc (length noise) ≡ len - length noise = omega arith in e)
    ∙ ap (λ (l : List ℕ). b ∷ l) (padded noise len most (omega arith))

pub zeros_behind : (len : ℕ) (noise : List ℕ) → take len noise ++ replicate (len - length noise) 0 ≡ take len (noise ++ replicate len 0)
zeros_behind len noise = padded noise len len (omega arith)
