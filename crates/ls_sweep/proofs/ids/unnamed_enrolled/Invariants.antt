use Rattle.std.proofs.Common.{take}
use Rattle.ls_naming.specs.Named.{NamesEnrolled}
use Rattle.ls_sweep.specs.Sifted.{AreThose}
use Rattle.ls_sweep.proofs.ids.unnamed_enrolled.Given as goal

abbrev pub invariant-loop-id : goal.invariant-loop-id
invariant-loop-id l = AreThose (λ x. ¬ NamesEnrolled l.weaver l.holder x) (take l.id-index l.ids) l.left
