use Rattle.std.proofs.Common.{◌≡◌, arith, refl, sym, ap, ◌∙◌, List, ℕ, bit_xor}
use Rattle.std.specs.Simd.Lanes.{zip2}
use Rattle.ls_scrypt.specs.Diagonals.{words_of, bytes_of}
use Rattle.ls_scrypt.specs.Salsa.{words}
use Rattle.ls_scrypt.proofs.WordLemmas.{IsBytes-bytes, length-bytes, words-bytes, words-xor}
use Rattle.ls_scrypt.proofs.diagonals.Diagonals.xor_block.Goals as goal

pub returns : goal.returns
returns c =
    let w : List ℕ = words_of c.args.self in
    let b : List ℕ = c.args.block.now in
    let mine : words 16 (bytes_of c.args.self) ≡ w = words-bytes 16 w refl c.xor.ensures.small in
    let joined = words-xor 16 (bytes_of c.args.self) b (omega (arith, length-bytes 16 w)) (omega arith)
    (IsBytes-bytes 16 w) (λ i. omega (arith, c.type_inv.block i)) in
    c.xor.ensures.words ∙ ap (λ (v : List ℕ). zip2 bit_xor w v) c.load.ensures
    ∙ ap (λ (v : List ℕ). zip2 bit_xor v (words 16 b)) (sym mine) ∙ sym joined
