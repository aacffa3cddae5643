use Rattle.std.proofs.Common.{◌≡◌, ◌++◌, map, take}
use Rattle.std.specs.Prelude.{flat_map}
use Rattle.ls_vault.proofs.fresh.token_ids.Given as goal

abbrev pub invariant-loop-u : goal.invariant-loop-u
invariant-loop-u l = l.ids ≡ flat_map (λ u. map (λ t. t.id) u.tokens) (take l.u-index l.u-items)

abbrev pub invariant-loop-p : goal.invariant-loop-p
invariant-loop-p l = l.ids ≡ flat_map (λ u. map (λ t. t.id) u.tokens) l.state.vault.users ++ map (λ p. p.id) (take l.p-index l.p-items)
