use Rattle.std.proofs.Common.{◌≡◌, take}
use Rattle.ls_activating.specs.Counting.{token_ids}
use Rattle.ls_activating.proofs.choosing.ids_of.Given as goal

abbrev pub invariant-loop-one : goal.invariant-loop-one
invariant-loop-one l = l.ids ≡ token_ids (take l.one-index l.tokens)
