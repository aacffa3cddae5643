use Rattle.std.proofs.Common.{◌≡◌, ◌∷◌, take}
use Rattle.ls_memboard.proofs.redo.with_span.Given as goal

abbrev pub invariant-loop-span : goal.invariant-loop-span
invariant-loop-span l = l.list ≡ l.fn.span ∷ take l.span-index l.spans
