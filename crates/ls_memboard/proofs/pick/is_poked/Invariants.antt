use Rattle.std.proofs.Common.{◌≡◌, drop}
use Rattle.ls_memboard.specs.Cuts.{is_poked}
use Rattle.ls_memboard.proofs.pick.is_poked.Given as goal

abbrev pub invariant-loop-span : goal.invariant-loop-span
invariant-loop-span l = is_poked (drop l.span-index l.spans) l.at ≡ is_poked l.spans l.at
