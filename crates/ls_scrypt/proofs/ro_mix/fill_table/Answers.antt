use Rattle.std.proofs.Common.{◌≡◌, ◌+◌, ◌-◌, ◌*◌, ◌≤◌, length, arith, ap, ◌∙◌}
use Rattle.std.proofs.Math.Nat.{mul-le-mul_left}
use Rattle.std.proofs.lemmas.List.{length-append, length-drop}
use Rattle.ls_scrypt.specs.BlockMix.{block_mix}
use Rattle.ls_scrypt.specs.RoMix.{v_at}
use Rattle.ls_scrypt.proofs.MixingLemmas.{rows_first, rows_more, v_at-next}
use Rattle.ls_scrypt.proofs.ro_mix.fill_table.Goals as goal

pub rows-init : goal.rows-init
unfolding v_at
rows-init c =
    let k = 128 * c.args.r in
    let one : k * 1 ≤ k * c.args.n = mul-le-mul_left k c.requires.some.1 in
    let x = c.copy_from_slice.new.self in
    let is = c.copy_from_slice.ensures.after in
    let long : length x ≡ k = ap length is ∙ c.requires.x_len in
    record {
      v_len = simp (length-append, length-drop) (omega arith);
      table = rows_first k x _ (v_at c.args.r c.args.x.now) is long;
    }

pub rows-preserved : goal.rows-preserved
rows-preserved c =
    let r = c.args.r in
    let inv = c.rows.invariant in
    let i = c.rows.i in
    record {
      v_len = omega arith;
      table =
          rows_more (128 * r) (i + 1) c.rows.v c.mix_row.new.v (v_at r c.args.x.now) inv.table c.mix_row.ensures.front
          (c.mix_row.ensures.mixed ∙ ap (block_mix r) (inv.table i (omega arith)) ∙ v_at-next r i c.args.x.now);
    }

pub returns-clause-x_after : goal.returns-clause-x_after
returns-clause-x_after c =
    let r = c.args.r in
    let last = c.args.n - 1 in
    let n : last + 1 ≡ c.args.n = omega arith in
    let mixed = c.rows.invariant.table last (omega arith) in
    c.block_mix.ensures ∙ ap (block_mix r) (c.row.ensures.value ∙ mixed) ∙ v_at-next r last c.args.x.now
    ∙ ap (v_at r c.args.x.now) n
