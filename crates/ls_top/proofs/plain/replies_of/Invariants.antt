use Rattle.std.proofs.Common.{◌≡◌, ◌++◌, length}
use Rattle.ls_lines.specs.Lines.{lines_of}
use Rattle.ls_top.specs.Script.{replies}
use Rattle.ls_top.proofs.plain.replies_of.Given as goal

abbrev pub invariant-loop-rest : goal.invariant-loop-rest
invariant-loop-rest l = l.said ++ replies l.users (lines_of l.rest) ≡ replies l.fn.users (lines_of l.script)

abbrev pub decreases-loop-rest : goal.decreases-loop-rest
decreases-loop-rest l = length l.rest
