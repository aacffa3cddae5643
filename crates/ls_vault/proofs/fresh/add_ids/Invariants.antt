use Rattle.std.proofs.Common.{◌≡◌, ◌++◌, map, take}
use Rattle.ls_vault.proofs.fresh.add_ids.Given as goal

abbrev pub invariant-loop-t : goal.invariant-loop-t
invariant-loop-t l = l.ids ≡ l.fn.ids ++ map (λ t. t.id) (take l.t-index l.tokens)
