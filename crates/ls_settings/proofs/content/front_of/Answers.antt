use Rattle.std.proofs.Common.{sym, arith}
use Rattle.std.proofs.lemmas.List.{take_all}
use Rattle.ls_settings.proofs.content.front_of.Goals as goal

pub returns-then-file-lt4096 : goal.returns-then-file-lt4096
returns-then-file-lt4096 c = record { front = sym (take_all 4096 c.args.file.now (omega arith)) }
