use Rattle.std.proofs.Common.{take}
use Rattle.ls_naming.specs.Named.{NamesKey}
use Rattle.ls_sweep.specs.Sifted.{AreThose}
use Rattle.ls_sweep.proofs.ids.unnamed_keys.Given as goal

abbrev pub invariant-loop-alias : goal.invariant-loop-alias
invariant-loop-alias l = AreThose (λ x. ¬ NamesKey l.holder x) (take l.alias-index l.aliases) l.left
