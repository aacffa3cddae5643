use Rattle.ls_standing.proofs.SoundLemmas.{own_sound}
use Rattle.ls_standing.proofs.sound.own_files_pass_the_checks.Goals as goal

pub returns : goal.returns
returns c = own_sound
