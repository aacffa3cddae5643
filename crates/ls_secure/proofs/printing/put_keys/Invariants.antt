use Rattle.std.proofs.Common.{◌≡◌, ◌++◌, take}
use Rattle.std.specs.List.{AllByRecursion, flat_map}
use Rattle.ls_secure.specs.Secure.{IsKeyRow, key_bytes}
use Rattle.ls_secure.proofs.printing.put_keys.Given as goal

abbrev pub invariant-loop-at : goal.invariant-loop-at
invariant-loop-at l = record {
  put : l.out.items ≡ l.initial.out.items ++ flat_map key_bytes (take l.at l.keys.rows);
  each : AllByRecursion IsKeyRow (take l.at l.keys.rows);
}
