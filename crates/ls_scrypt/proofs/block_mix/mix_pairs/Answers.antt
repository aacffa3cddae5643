use Rattle.std.proofs.Common.{◌≡◌, ◌+◌, ◌-◌, ◌*◌, List, ℕ, arith, ap, refl, ◌∙◌, rules}
use Rattle.std.proofs.lemmas.Slice.{overwrites}
use Rattle.ls_scrypt.specs.BlockMix.{x_before, evens, odds}
use Rattle.ls_scrypt.specs.Diagonals.{bytes_of}
use Rattle.ls_scrypt.specs.Salsa.{bytes, words}
use Rattle.ls_scrypt.proofs.MixingLemmas.{x_before-next, written_more, evens-next, odds-next}
use Rattle.ls_scrypt.proofs.WordLemmas.{bytes-words_block}
use Rattle.ls_scrypt.proofs.block_mix.mix_pairs.Goals as goal

pub pairs-init : goal.pairs-init
unfolding x_before evens odds
pairs-init c = record {
  even_len = c.requires.even_len;
  odd_len = c.requires.odd_len;
  chain =
      ap (bytes 16) c.load-x.ensures ∙ ap (λ (t : List ℕ). bytes 16 (words 16 t)) c.block.ensures.value
      ∙ bytes-words_block c.args.b.now (2 * c.args.r - 1) (omega arith) (λ i. omega (arith, c.type_inv.b i));
  even = refl;
  odd = refl;
}

pub pairs-preserved : goal.pairs-preserved
pairs-preserved c =
    let r = c.args.r in
    let b = c.args.b.now in
    let i = c.pairs.i in
    let inv = c.pairs.invariant in
    let x1 : bytes_of c.chain-x.result ≡ x_before r b (2 * i + 1) =
    x_before-next r b (bytes_of c.pairs.x) (bytes_of c.chain-x.result) _ (2 * i) inv.chain c.block-in-pairs.ensures.value c.chain-x.ensures in
    let x2 : bytes_of c.chain-x-in-pairs.result ≡ x_before r b (2 * i + 1 + 1) =
    x_before-next r b (bytes_of c.chain-x.result) (bytes_of c.chain-x-in-pairs.result) _ (2 * i + 1) x1 c.block-in-pairs-2.ensures.value c.chain-x-in-pairs.ensures in
    let next : 2 * i + 1 + 1 ≡ 2 * (i + 1) = omega arith in
    record {
      even_len = search (rules, overwrites);
      odd_len = search (rules, overwrites);
      chain = x2 ∙ ap (x_before r b) next;
      even =
          written_more i _ c.pairs.even _ _ inv.even (omega arith) (omega arith)
          ∙ evens-next r b _ i (c.store.ensures ∙ x1);
      odd =
          written_more i _ c.pairs.odd _ _ inv.odd (omega arith) (omega arith)
          ∙ odds-next r b _ i (c.store-in-pairs.ensures ∙ x2);
    }
