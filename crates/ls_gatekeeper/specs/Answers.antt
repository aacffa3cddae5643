-- The Gatekeeper's answers, as those of a board.
use Rattle.ls_board.specs.declared.action.Answer.{Answer}
use Rattle.ls_board.specs.declared.action.Answer.TheVariants as board
use Rattle.ls_gatekeeper.specs.declared.verify.Verify.{Verify}
use Rattle.ls_gatekeeper.specs.declared.verify.Verify.TheVariants.{Accepted, Wrong, Throttled, Unknown}

-- what a board answers, whose Gatekeeper answers this
abbrev pub answer_of : Verify → Answer
answer_of (Accepted sid) = board.Accepted sid
answer_of (Wrong rest) = board.Wrong rest
answer_of (Throttled rest) = board.Throttled rest
answer_of Unknown = board.Unknown
