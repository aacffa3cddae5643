use Rattle.std.proofs.Common.{◌≡◌, ◌++◌, take}
use Rattle.std.specs.List.{flat_map}
use Rattle.ls_bytes.specs.Fields.{be32}
use Rattle.ls_record.proofs.writing.put_users.Given as goal

-- those before are written
abbrev pub invariant-loop-user : goal.invariant-loop-user
invariant-loop-user l = l.to ≡ l.fn.to ++ flat_map be32 (take l.user-index l.users)
