use Rattle.ls_standing.proofs.SoundLemmas.{version_is, credential_sound, token_sound}
use Rattle.ls_standing.proofs.sound.what_seals_passes_the_checks.Goals as goal

pub returns-clause-version : goal.returns-clause-version
returns-clause-version c = version_is

pub returns-clause-credential : goal.returns-clause-credential
returns-clause-credential c = credential_sound

pub returns-clause-token : goal.returns-clause-token
returns-clause-token c = token_sound
