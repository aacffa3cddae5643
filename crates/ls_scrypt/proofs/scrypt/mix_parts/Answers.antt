use Rattle.std.proofs.Common.{◌≡◌, ◌*◌, ◌+◌, ◌-◌, ◌≤◌, arith, ap, refl, ◌∙◌, add-one, rules, take, drop}
use Rattle.std.proofs.Math.Nat.{mul-le-mul_left}
use Rattle.std.proofs.lemmas.Slice.{overwrites, take-put_mid, drop-put_mid}
use Rattle.ls_scrypt.specs.BlockMix.{part}
use Rattle.ls_scrypt.specs.RoMix.{ro_mix}
use Rattle.ls_scrypt.specs.Scrypt.{mixed_parts}
use Rattle.ls_scrypt.proofs.MixingLemmas.{drop_more_same}
use Rattle.ls_scrypt.proofs.scrypt.mix_parts.Goals as goal

pub parts-init : goal.parts-init
unfolding mixed_parts
parts-init c =
    let none : 128 * c.args.r * 0 ≡ 0 = omega arith in
    record { b_len = omega arith; y_len = omega arith; v_len = omega arith; front = rw none refl; rest = refl }

pub parts-preserved : goal.parts-preserved
unfolding mixed_parts
parts-preserved c =
    let inv = c.parts.invariant in
    let k = 128 * c.args.r in
    let i = c.parts.i in
    let row : k * i + k ≤ k * c.args.p = omega (arith, mul-le-mul_left k c.parts-test.true) in
    let next : k * (i + 1) ≡ k * i + k = omega arith in
    let width : k * i + k - k * i ≡ k = omega arith in
    let old : take (k * i + k - k * i) (drop (k * i) c.parts.b) ≡ part k c.args.b.now i = rw width (ap (take k) inv.rest) in
    let new : c.ro_mix.new.x ≡ ro_mix c.args.r c.args.n (part k c.args.b.now i) =
    c.ro_mix.ensures ∙ ap (ro_mix c.args.r c.args.n) old in
    record {
      b_len = search (rules, overwrites);
      y_len = omega arith;
      v_len = omega arith;
      front =
          take-put_mid (k * i) _ c.parts.b _ (k * (i + 1)) (omega arith) (omega arith) ∙ rw (inv.front, new, add-one) refl;
      rest =
          rw next
          (drop-put_mid (k * i) (k * i + k - k * i) c.parts.b _ (k * i + k) (omega arith) (omega arith) (omega arith)
          ∙ drop_more_same c.parts.b c.args.b.now (k * i) k inv.rest);
    }
