use Rattle.std.proofs.Common.{take}
use Rattle.ls_sweep.specs.Files.{IsUnnamedFile}
use Rattle.ls_sweep.specs.Sifted.{AreThose}
use Rattle.ls_sweep.proofs.files.unnamed_files.Given as goal

abbrev pub invariant-loop-name : goal.invariant-loop-name
invariant-loop-name l = AreThose (IsUnnamedFile l.weaver l.holder l.retired) (take l.name-index l.names) l.left
