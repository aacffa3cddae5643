use Rattle.ls_standing.proofs.SameLemmas.{named_but, settings_but, named_but_settings, named_left, settings_left, named_trans, settings_trans}
use Rattle.ls_standing.proofs.kept.what_keeps_what_is_named.Goals as goal

pub returns-clause-unnamed : goal.returns-clause-unnamed
returns-clause-unnamed c = named_but

pub returns-clause-unnamed_settings : goal.returns-clause-unnamed_settings
returns-clause-unnamed_settings c = settings_but

pub returns-clause-settings : goal.returns-clause-settings
returns-clause-settings c = named_but_settings

pub returns-clause-image : goal.returns-clause-image
returns-clause-image c = named_left

pub returns-clause-image_settings : goal.returns-clause-image_settings
returns-clause-image_settings c = settings_left

pub returns-clause-joined : goal.returns-clause-joined
returns-clause-joined c = named_trans

pub returns-clause-joined_settings : goal.returns-clause-joined_settings
returns-clause-joined_settings c = settings_trans
