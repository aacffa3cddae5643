use Rattle.ls_formats.specs.declared.parts.Parts.{Parts}
use Rattle.ls_protector.specs.Parts.{erasing_of, reach_of_parts}
use Rattle.ls_exchange.proofs.TurnLemmas.{call_ran, call_broke, slot_within}
use Rattle.ls_exchange.proofs.clearing.retire_one.Goals as goal

pub retire-requires-clause-slot : goal.retire-requires-clause-slot
retire-requires-clause-slot g c = slot_within (g.B.Board.sight c.args.board.now).slots c.args.named c.requires.run.sound

pub retire-requires-clause-room : goal.retire-requires-clause-room
retire-requires-clause-room g c = c.requires.run.actions

pub returns-in-Ok-clause-runs : goal.returns-in-Ok-clause-runs
returns-in-Ok-clause-runs g c =
    call_ran (g.B.Board.sight c.args.board.now) (g.B.Board.sight c.retire.new.board) (erasing_of c.args.named) (reach_of_parts c.args.named) c.retire.ensures.but c.retire.ensures.crash
    {T = Parts} c.in-Ok.one c.in-Ok.ensures.did c.in-Ok.ensures.keeps

pub returns-in-Err-clause-runs : goal.returns-in-Err-clause-runs
returns-in-Err-clause-runs g c =
    call_broke (g.B.Board.sight c.args.board.now) (g.B.Board.sight c.retire.new.board) (erasing_of c.args.named) (reach_of_parts c.args.named) c.retire.ensures.but c.retire.ensures.crash
    {T = Parts} c.in-Err.part c.in-Err.ensures.failed c.in-Err.ensures.keeps
