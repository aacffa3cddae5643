use Rattle.std.proofs.Common.{arith, ℕ}
use Rattle.std.specs.Ordering.{nat_cmp}
use Rattle.std.proofs.lemmas.Cmp.{nat_cmp_total}
use Rattle.std.proofs.lemmas.Map.Lookups.{exact_unsigned}
use Rattle.ls_naming.specs.Named.{NamesEnrolled}
use Rattle.ls_sealing.specs.Protectors.{has_weaver}
use Rattle.ls_checker.proofs.TableLemmas.{gone_over, stopped_at}
use Rattle.ls_checker.proofs.bare_devices.keeps_named_counters.Goals as goal

pub returns-then-not-keeps_counter : goal.returns-then-not-keeps_counter
returns-then-not-keeps_counter c = record {
  decided = stopped_at nat_cmp nat_cmp_total exact_unsigned (λ (sid : ℕ). ¬ NamesEnrolled (has_weaver c.args.world.now) c.args.holder.now sid) c.args.world.now.gk c.loop-at.at
      c.keeps_counter.result c.keeps_counter.ensures.decided c.if-not-keeps_counter.true;
}

pub returns : goal.returns
returns c = record {
  decided = gone_over nat_cmp nat_cmp_total exact_unsigned (λ (sid : ℕ). ¬ NamesEnrolled (has_weaver c.args.world.now) c.args.holder.now sid) c.args.world.now.gk c.loop-at.at
      (omega (arith, c.loop-at-test.false, c.len-at-end.ensures.count)) c.loop-at.invariant;
}
