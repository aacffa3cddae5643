use Rattle.std.proofs.Common.{◌≡◌, ◌-◌, sym, ◌∙◌, ap, arith}
use Rattle.ls_vault.specs.Fresh.{first_free}
use Rattle.ls_vault.proofs.FreshLemmas.{free_here, free_step, free_last}
use Rattle.ls_vault.proofs.fresh.first_free.Goals as goal

pub loop-init : goal.loop-init
loop-init c = let all : c.args.steps - 0 ≡ c.args.steps = omega arith in ap (λ k. first_free k c.args.d c.args.taken.now) all

pub returns-then-not-is_taken : goal.returns-then-not-is_taken
returns-then-not-is_taken c = record { same = sym (free_here _ c.loop.free c.args.taken.now (sym c.is_taken.ensures.same ∙ c.if-not-is_taken.true)) ∙ c.loop.invariant }

pub loop-preserved : goal.loop-preserved
loop-preserved c = sym (free_step _ _ c.loop.free c.args.taken.now (omega arith) (sym c.is_taken.ensures.same ∙ c.if-not-is_taken.false)) ∙ c.loop.invariant

pub returns : goal.returns
returns c = record { same = sym (free_last _ c.loop.free c.args.taken.now (omega arith)) ∙ c.loop.invariant }
