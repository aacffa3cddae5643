use Rattle.std.proofs.Common.{◌≡◌, ◌+◌, ◌*◌, refl, arith, ap, ◌∙◌}
use Rattle.ls_scrypt.specs.RoMix.{mixed}
use Rattle.ls_scrypt.proofs.MixingLemmas.{mixed-next}
use Rattle.ls_scrypt.proofs.ro_mix.mix_by_table.Goals as goal

pub turns-preserved : goal.turns-preserved
turns-preserved c =
    let r = c.args.r in
    let n = c.args.n in
    let t = 2 * c.turns._pair in
    let next : t + 1 + 1 ≡ 2 * (c.turns._pair + 1) = omega arith in (
      omega arith,
      omega arith,
      λ first is table.
          let once : c.turn.new.y ≡ mixed r n first (t + 1) =
          mixed-next r n t _ first c.turns.x c.turn.new.y _ (c.turns.invariant.2 first is table) refl
          (table _ c.turn.ensures.chosen) c.turn.ensures.mixed in
          let twice : c.turn-in-turns.new.y ≡ mixed r n first (t + 1 + 1) =
          mixed-next r n (t + 1) _ first c.turn.new.y c.turn-in-turns.new.y _ once refl
          (table _ c.turn-in-turns.ensures.chosen) c.turn-in-turns.ensures.mixed in
          twice ∙ ap (mixed r n first) next,
    )
