use Rattle.ls_sweep.proofs.NamedSlotLemmas.{next_slot_row}
use Rattle.ls_sweep.proofs.slot_files.+pass_rows.Goals as goal

pub returns-in_ok-slots-in-len1-up : goal.returns-in_ok-slots-in-len1-up
returns-in_ok-slots-in-len1-up g t c = record {
  sees = next_slot_row (g.B.Board.sight c.args.board.now) (g.B.Board.sight c.pass_row.new.board) (g.B.Board.sight c.pass_rows.new.board) c.args.slots c.in_ok-slots-in-len1-up.slots c.pass_rows.result
      c.args.weaver c.args.armed.now c.args.rows.now c.row-item.result c.in-len1-up.len_at_least c.row-item.is c.in_ok-slots-in-len1-up.ensures.sees c.pass_rows.ensures.sees;
}
