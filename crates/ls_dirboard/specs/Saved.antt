-- What was written last of the devices.
use Rattle.std.specs.Prelude.{◌≡◌}
use Rattle.ls_secure.specs.Held.{image_of}
use Rattle.ls_secure.specs.Secure.{front}
use Rattle.ls_dirboard.specs.declared.outside.Outside.{Outside}

-- it is what they keep now
abbrev pub IsSaved : Outside → Type 0
IsSaved o = o.secure.kept.items ≡ front (image_of o.secure.sequence o.devices)
