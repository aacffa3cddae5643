use Rattle.ls_retiring.proofs.SoundLemmas.{erase_sound, remove_sound, own_sound}
use Rattle.ls_retiring.proofs.laws.what_takes_away_may_be_asked.Goals as goal

pub returns-clause-erasing : goal.returns-clause-erasing
returns-clause-erasing c = erase_sound

pub returns-clause-removing : goal.returns-clause-removing
returns-clause-removing c = remove_sound

pub returns-clause-own : goal.returns-clause-own
returns-clause-own c = own_sound
