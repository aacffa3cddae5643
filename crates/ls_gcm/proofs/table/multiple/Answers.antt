use Rattle.std.proofs.Common.{◌≡◌, ℕ, suc, ◌-◌, ◌+◌, eqb, true, false, arith, sym, ◌∙◌}
use Rattle.std.proofs.lemmas.Bool.Decides.{nat_tests}
use lib.Bits.{xor_zero_l, xor_zero_r}
use Rattle.std.specs.Int.{bit_at}
use Rattle.ls_gcm.specs.Blocks.{product_of}
use Rattle.ls_gcm.proofs.ProductLemmas.{product_more}
use Rattle.ls_gcm.proofs.table.multiple.Goals as goal
use Rattle.ls_gcm.proofs.table.multiple.Goals.{then-n-i-eq1, else-n-i-eq1}

pub bits-init : goal.bits-init
bits-init c = xor_zero_l _

pub bits-preserved : goal.bits-preserved
bits-preserved c =
    let n : ℕ = 3 - c.bits.i in
    let now : 4 - c.bits.i ≡ suc n = omega arith in
    let next : 4 - (c.bits.i + 1) ≡ n = omega arith in
    let held = rw now at c.bits.invariant in
    rw next (elim c.if-n-i-eq1.branch [
      | then-n-i-eq1 w ↦
          let t : eqb (bit_at c.args.n n) 1 ≡ true = grind (arith, nat_tests) in
          product_more n c.args.n c.bits.z c.bits.v true _ _ t w.z-is c.times_x-v.ensures ∙ held
      | else-n-i-eq1 w ↦
          let t : eqb (bit_at c.args.n n) 1 ≡ false = grind (arith, nat_tests) in
          product_more n c.args.n c.bits.z c.bits.v false _ _ t w.z-is c.times_x-v.ensures ∙ held
    ])

pub returns : goal.returns
unfolding product_of
returns c =
    let none : 4 - c.bits.i ≡ 0 = omega arith in
    sym (xor_zero_r c.bits.z) ∙ rw none at c.bits.invariant
