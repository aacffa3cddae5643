use Rattle.std.proofs.Common.{◌≡◌, ◌++◌, take}
use Rattle.std.specs.List.{flat_map}
use Rattle.ls_record.specs.Spelling.{row_bytes}
use Rattle.ls_record.proofs.writing.put_rows.Given as goal

-- those before are written
abbrev pub invariant-loop-row : goal.invariant-loop-row
invariant-loop-row l = l.to ≡ l.fn.to ++ flat_map (row_bytes 2) (take l.row-index l.rows)
