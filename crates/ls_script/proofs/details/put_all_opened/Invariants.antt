use Rattle.std.proofs.Common.{◌*◌, take}
use Rattle.std.specs.List.{flat_map}
use Rattle.ls_script.specs.ReplyText.{opened_words, Puts}
use Rattle.ls_script.proofs.details.put_all_opened.Given as goal

abbrev pub invariant-loop-row : goal.invariant-loop-row
invariant-loop-row l = Puts (flat_map opened_words (take l.row-index l.rows)) (589 * l.row-index) l.initial.to l.to
