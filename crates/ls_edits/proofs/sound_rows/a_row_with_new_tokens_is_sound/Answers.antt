use Rattle.ls_edits.proofs.SoundRowLemmas.{with_new_tokens}
use Rattle.ls_edits.proofs.sound_rows.a_row_with_new_tokens_is_sound.Goals as goal

pub returns : goal.returns
returns c = λ w r v old row holds here same may each own_slots. with_new_tokens w r old row holds.files here same may each own_slots
