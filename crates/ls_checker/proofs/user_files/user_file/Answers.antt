use Rattle.std.proofs.Common.{rules, sym}
use Rattle.ls_checker.proofs.user_files.user_file.Goals as goal

pub invariant_of-name : goal.invariant_of-name
invariant_of-name c = record { user = c.requires.row.user; id = search rules; part = sym c.requires.part }
