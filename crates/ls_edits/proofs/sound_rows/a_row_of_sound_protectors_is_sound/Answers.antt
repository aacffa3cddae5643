use Rattle.ls_edits.proofs.SoundRowLemmas.{by_protectors}
use Rattle.ls_edits.proofs.sound_rows.a_row_of_sound_protectors_is_sound.Goals as goal

pub returns : goal.returns
returns c = λ w r v row holds may sound. by_protectors w r row holds.files may sound
