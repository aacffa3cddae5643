use Rattle.ls_dropping.proofs.DroppingLemmas.{left, dropping_sound}
use Rattle.ls_dropping.proofs.laws.users_can_be_dropped.Goals as goal

pub returns-clause-unnamed : goal.returns-clause-unnamed
returns-clause-unnamed c = λ w r v row p is holds there own. left w r is row there p own holds.files

pub returns-clause-sound : goal.returns-clause-sound
returns-clause-sound c = dropping_sound
