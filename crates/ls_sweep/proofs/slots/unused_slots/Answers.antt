use Rattle.std.proofs.Common.{◌≡◌, ℕ, arith, subst}
use Rattle.ls_sweep.specs.Sifted.{AreUnusedBelow}
use Rattle.ls_sweep.proofs.SiftLemmas.{unused_next}
use Rattle.ls_sweep.proofs.slots.unused_slots.Goals as goal

pub loop-slot-preserved : goal.loop-slot-preserved
loop-slot-preserved c =
    unused_next c.args.used.now c.loop-slot.left c.push_unused.new.left c.loop-slot.slot c.is_one_of.result
    c.loop-slot.invariant c.is_one_of.ensures.same c.in_ok-push_unused.ensures.pushed

pub returns : goal.returns
returns c = record {
  those = let at : c.loop-slot.slot ≡ c.args.count = omega (arith, c.loop-slot.auto.slot-end, c.loop-slot-test.false) in
      subst (λ (n : ℕ). AreUnusedBelow n c.args.used.now c.loop-slot.left) at c.loop-slot.invariant;
}
