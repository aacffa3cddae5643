use Rattle.ls_formats.specs.PartNames.{part_name_text, settings_text}
use Rattle.ls_sealing.specs.Protectors.{file_name}
use Rattle.ls_standing.proofs.SeveralLemmas.{synced_touch}
use Rattle.ls_standing.proofs.several.what_is_synced_is_untouched.Goals as goal

pub returns-clause-file : goal.returns-clause-file
returns-clause-file c = synced_touch

pub returns-clause-settings : goal.returns-clause-settings
returns-clause-settings c = λ w plan side. synced_touch w plan (settings_text side)

pub returns-clause-named : goal.returns-clause-named
returns-clause-named c = λ w plan r name named. synced_touch w plan (part_name_text name)

pub returns-clause-protector : goal.returns-clause-protector
returns-clause-protector c = λ w plan p part has. synced_touch w plan (file_name p part)
