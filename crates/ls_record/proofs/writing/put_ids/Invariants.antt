use Rattle.std.proofs.Common.{◌≡◌, ◌++◌, take}
use Rattle.std.specs.List.{flat_map}
use Rattle.ls_bytes.specs.Fields.{be64}
use Rattle.ls_record.proofs.writing.put_ids.Given as goal

-- those before are written
abbrev pub invariant-loop-id : goal.invariant-loop-id
invariant-loop-id l = l.to ≡ l.fn.to ++ flat_map be64 (take l.id-index l.ids)
