use Rattle.ls_board.proofs.ImageLemmas.{left_as_read}
use Rattle.ls_board.proofs.laws.a_crash_leaves_an_image.Goals as goal

pub returns : goal.returns
returns c = record { as_read = left_as_read }
