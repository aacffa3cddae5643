use Rattle.ls_standing.proofs.TouchLemmas.{file_unnamed, one_quiet, all_quiet, later_touch, writing_touch, erasing_touch, retiring_touch}
use Rattle.ls_standing.proofs.quiet.what_touches_nothing_named_is_quiet.Goals as goal

pub returns-clause-one : goal.returns-clause-one
returns-clause-one c = one_quiet

pub returns-clause-all : goal.returns-clause-all
returns-clause-all c = all_quiet

pub returns-clause-later : goal.returns-clause-later
returns-clause-later c = later_touch

pub returns-clause-writing : goal.returns-clause-writing
returns-clause-writing c = λ w r p slot m is un. writing_touch w r p slot is un m

pub returns-clause-erasing : goal.returns-clause-erasing
returns-clause-erasing c = erasing_touch

pub returns-clause-retiring : goal.returns-clause-retiring
returns-clause-retiring c = retiring_touch

pub returns-clause-file : goal.returns-clause-file
returns-clause-file c = file_unnamed
