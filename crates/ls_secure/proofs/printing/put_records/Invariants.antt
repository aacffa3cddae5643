use Rattle.std.proofs.Common.{◌≡◌, ◌++◌, take}
use Rattle.std.specs.List.{AllByRecursion, flat_map}
use Rattle.ls_secure.specs.Secure.{IsRecordRow, record_bytes}
use Rattle.ls_secure.proofs.printing.put_records.Given as goal

abbrev pub invariant-loop-at : goal.invariant-loop-at
invariant-loop-at l = record {
  put : l.out.items ≡ l.initial.out.items ++ flat_map record_bytes (take l.at l.records.rows);
  each : AllByRecursion IsRecordRow (take l.at l.records.rows);
}
