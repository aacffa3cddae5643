use Rattle.std.proofs.Common.{◌≡◌, ◌++◌, length}
use Rattle.std.specs.Prelude.{flat_map}
use Rattle.ls_lines.specs.Lines.{lines_of}
use Rattle.ls_vault.proofs.ScriptLemmas.{stage_at}
use Rattle.ls_vault.specs.Script.{begun, told_lines, replies}
use Rattle.ls_vault.proofs.script.replies.Given as goal

abbrev pub invariant-loop-rest : goal.invariant-loop-rest
invariant-loop-rest l =
    (l.text ++ flat_map (λ line. line.printed) (told_lines l.slots l.stage (lines_of l.rest)) ≡ replies l.slots l.fn.state l.script l.moments l.noise)
    × (stage_at l.slots l.stage (lines_of l.rest) ≡ stage_at l.slots (begun l.fn.state l.moments l.noise) (lines_of l.script))

abbrev pub decreases-loop-rest : goal.decreases-loop-rest
decreases-loop-rest l = length l.rest
