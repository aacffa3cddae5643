use Rattle.std.proofs.Common.{◌≡◌, ◌≤◌, ◌+◌, ◌++◌, length, vec_len, vec_capacity}
use Rattle.std.specs.List.{Contains}
use Rattle.ls_formats.specs.declared.parts.Parts.{Parts}
use Rattle.ls_protector.specs.Clear.{NamesParts}
use Rattle.ls_exchange.proofs.clearing.bind_all.Given as goal

abbrev pub invariant-loop-one : goal.invariant-loop-one
invariant-loop-one l = record {
  names : (p : Parts) → Contains l.durable.items p → NamesParts l.done p;
  put : l.named.items ++ l.durable.items ≡ l.fn.named.items ++ l.fn.durable.items;
  room : vec_len l.named + length l.durable.items ≤ vec_capacity l.named;
}

abbrev pub decreases-loop-one : goal.decreases-loop-one
decreases-loop-one l = vec_len l.durable
