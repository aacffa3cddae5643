use Rattle.ls_edits.proofs.SoundRowLemmas.{with_credential}
use Rattle.ls_edits.proofs.sound_rows.a_row_with_a_new_credential_is_sound.Goals as goal

pub returns : goal.returns
returns c = λ w r v row is holds may user its fresh tokens. with_credential w r is holds.files row may user its fresh tokens
