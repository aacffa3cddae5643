use Rattle.ls_sweep.proofs.NamedSlotLemmas.{next_slot_file}
use Rattle.ls_sweep.proofs.slot_files.+pass_files.Goals as goal

pub returns-in_ok-slots-in-len1-up : goal.returns-in_ok-slots-in-len1-up
returns-in_ok-slots-in-len1-up g t c = record {
  sees = next_slot_file (g.B.Board.sight c.args.board.now) (g.B.Board.sight c.pass_file.new.board) (g.B.Board.sight c.pass_files.new.board) c.args.slots c.in_ok-slots-in-len1-up.slots c.pass_files.result
      c.args.names.now c.name-item.result c.in-len1-up.len_at_least c.name-item.is c.in_ok-slots-in-len1-up.ensures.sees c.pass_files.ensures.sees;
}
