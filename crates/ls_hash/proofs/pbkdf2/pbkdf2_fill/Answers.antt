use Rattle.std.proofs.Common.{◌≡◌, ℕ, ◌*◌, ◌-◌, ◌/◌, length, take, ap, refl, arith, rules, ◌∙◌}
use Rattle.std.proofs.lemmas.Slice.{overwrites}
use Rattle.ls_hash.specs.Pbkdf2.{pbkdf2_blocks}
use Rattle.ls_hash.proofs.Pbkdf2Lemmas.{filled_more, filled_whole, filled_cut}
use Rattle.ls_hash.proofs.pbkdf2.pbkdf2_fill.Goals as goal

pub whole_blocks-init : goal.whole_blocks-init
unfolding pbkdf2_blocks
whole_blocks-init c = record { width = refl; front = refl }

pub whole_blocks-preserved : goal.whole_blocks-preserved
whole_blocks-preserved c = record {
  width = search (rules, overwrites);
  front =
      filled_more c.args.password.now c.args.salt.now c.whole_blocks.out _ c.whole_blocks.i _
      c.whole_blocks.invariant.front (omega arith) (omega arith)
      (c.copy_from_slice.ensures.after ∙ c.pbkdf2_block.ensures);
}

pub returns-then-rest-gt0 : goal.returns-then-rest-gt0
returns-then-rest-gt0 c =
    let m : ℕ = length c.args.out.now in
    let e : c.whole_blocks.i ≡ m / 32 = omega arith in
    let held = rw e at c.whole_blocks.invariant.front in
    record {
      filled = filled_cut c.args.password.now c.args.salt.now c.whole_blocks.out c.pbkdf2_block-last.result _ (m / 32)
          (length c.whole_blocks.out - 32 * (m / 32)) m (omega arith) held (omega arith) (omega arith) (omega arith)
          (c.copy_from_slice-then-rest-gt0.ensures.after ∙ ap (λ (k : ℕ). take k c.pbkdf2_block-last.result) (omega arith))
          (omega arith) c.pbkdf2_block-last.ensures;
    }

pub returns-else-rest-gt0 : goal.returns-else-rest-gt0
returns-else-rest-gt0 c =
    record {
      filled = filled_whole c.args.password.now c.args.salt.now c.whole_blocks.out c.whole_blocks.i (length c.args.out.now)
          (omega arith) c.whole_blocks.invariant.front (omega arith);
    }
