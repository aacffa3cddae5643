use Rattle.ls_edits.proofs.AlikeLemmas.{alike_sound}
use Rattle.ls_edits.proofs.SoundRowLemmas.{token_again}
use Rattle.ls_edits.proofs.sound_rows.what_is_checked_alike_stays_sound.Goals as goal

pub returns-clause-alike : goal.returns-clause-alike
returns-clause-alike c = alike_sound

pub returns-clause-token : goal.returns-clause-token
returns-clause-token c = λ w r v row id is holds other its. token_again w r is holds.files row id other its
