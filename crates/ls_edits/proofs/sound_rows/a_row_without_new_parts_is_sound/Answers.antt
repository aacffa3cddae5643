use Rattle.ls_edits.proofs.MayLemmas.{may_put_less}
use Rattle.ls_edits.proofs.PartLemmas.{less_files, less_protectors}
use Rattle.ls_edits.proofs.SoundRowLemmas.{less_sound, less_untouched}
use Rattle.ls_edits.proofs.sound_rows.a_row_without_new_parts_is_sound.Goals as goal

pub returns-clause-may : goal.returns-clause-may
returns-clause-may c = λ r old row is here less rules. may_put_less r is old row here less rules

pub returns-clause-sound : goal.returns-clause-sound
returns-clause-sound c = λ w r v old row holds here less may. less_sound w r old row here less holds.files may

pub returns-clause-untouched : goal.returns-clause-untouched
returns-clause-untouched c = λ w r old row here less was. less_untouched w r old row here less was

pub returns-clause-files : goal.returns-clause-files
returns-clause-files c = λ weaver armed old row name less has. less_files old row less weaver armed name has

pub returns-clause-protectors : goal.returns-clause-protectors
returns-clause-protectors c = λ old row p less has. less_protectors old row less p has
