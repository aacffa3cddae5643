use Rattle.std.proofs.Common.{◌≡◌, drop}
use Rattle.std.specs.FinMap.Entries.{find}
use Rattle.ls_board.specs.Order.{byte_cmp}
use Rattle.ls_memboard.specs.Contents.{shown, contents_after}
use Rattle.ls_memboard.proofs.reading.read_file.Given as goal

abbrev pub invariant-loop-e : goal.invariant-loop-e
invariant-loop-e l = contents_after l.pool (drop l.e-index l.changes) l.name (shown l.found l.out.items) ≡ contents_after l.pool l.changes l.name (find byte_cmp l.name l.files)
