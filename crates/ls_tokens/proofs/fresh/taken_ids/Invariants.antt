use Rattle.std.proofs.Common.{◌≡◌, ◌++◌, map, take}
use Rattle.std.specs.Prelude.{flat_map}
use Rattle.ls_tokens.proofs.fresh.taken_ids.Given as goal

abbrev pub invariant-loop-row : goal.invariant-loop-row
invariant-loop-row l = l.ids ≡ flat_map (λ r. r.tokens) (take l.row-index l.row-items)

abbrev pub invariant-loop-p : goal.invariant-loop-p
invariant-loop-p l = l.ids ≡ flat_map (λ r. r.tokens) l.x.settings.settled.rec.users ++ map (λ p. p.id) (take l.p-index l.p-items)
