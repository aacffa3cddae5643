use Rattle.ls_placing.proofs.ClearLemmas.{new_is_unnamed, new_is_clear, new_files}
use Rattle.ls_placing.proofs.laws.a_new_place_is_clear.Goals as goal

pub returns-clause-unnamed : goal.returns-clause-unnamed
returns-clause-unnamed c = λ b x names p slot can told is numbers even new. new_is_unnamed b x names p slot can told is numbers even new

pub returns-clause-clear : goal.returns-clause-clear
returns-clause-clear c = λ b x names p slot can told is numbers even new. new_is_clear b x names p slot can told is numbers even new

pub returns-clause-files : goal.returns-clause-files
returns-clause-files c = new_files
