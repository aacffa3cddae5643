use Rattle.std.proofs.Common.{◌≡◌, ◌-◌, sym, ◌∙◌, ap, arith}
use Rattle.ls_vault.specs.Fresh.{first_free}
use Rattle.ls_sweep.specs.FreshIds.{beside}
use Rattle.ls_sweep.proofs.FreshLemmas.{barred}
use Rattle.ls_vault.proofs.FreshLemmas.{free_here, free_step, free_last}
use Rattle.ls_sweep.proofs.fresh.first_free.Goals as goal

pub loop-init : goal.loop-init
loop-init c = let all : c.args.steps - 0 ≡ c.args.steps = omega arith in ap (λ k. first_free k c.args.d (beside c.args.zero c.args.taken.now)) all

pub returns-then-not-is_barred : goal.returns-then-not-is_barred
returns-then-not-is_barred c = record { same = sym (free_here _ c.loop.free (beside c.args.zero c.args.taken.now) (barred c.args.zero c.args.taken.now c.loop.free ∙ (sym c.is_barred.ensures.same ∙ c.if-not-is_barred.true))) ∙ c.loop.invariant }

pub loop-preserved : goal.loop-preserved
loop-preserved c = sym (free_step _ _ c.loop.free (beside c.args.zero c.args.taken.now) (omega arith) (barred c.args.zero c.args.taken.now c.loop.free ∙ (sym c.is_barred.ensures.same ∙ c.if-not-is_barred.false))) ∙ c.loop.invariant

pub returns : goal.returns
returns c = record { same = sym (free_last _ c.loop.free (beside c.args.zero c.args.taken.now) (omega arith)) ∙ c.loop.invariant }
