use Rattle.std.proofs.Common.{arith, ℕ}
use Rattle.std.specs.Ordering.{nat_cmp}
use Rattle.std.proofs.lemmas.Cmp.{nat_cmp_total}
use Rattle.std.proofs.lemmas.Map.Lookups.{exact_unsigned}
use Rattle.ls_naming.specs.Named.{NamesKey}
use Rattle.ls_checker.proofs.TableLemmas.{gone_over, stopped_at}
use Rattle.ls_checker.proofs.bare_devices.keeps_named_keys.Goals as goal

pub returns-then-not-keeps_key : goal.returns-then-not-keeps_key
returns-then-not-keeps_key c = record {
  decided = stopped_at nat_cmp nat_cmp_total exact_unsigned (λ (alias : ℕ). ¬ NamesKey c.args.holder.now alias) c.args.world.now.keys c.loop-at.at
      c.keeps_key.result c.keeps_key.ensures.decided c.if-not-keeps_key.true;
}

pub returns : goal.returns
returns c = record {
  decided = gone_over nat_cmp nat_cmp_total exact_unsigned (λ (alias : ℕ). ¬ NamesKey c.args.holder.now alias) c.args.world.now.keys c.loop-at.at
      (omega (arith, c.loop-at-test.false, c.len-at-end.ensures.count)) c.loop-at.invariant;
}
