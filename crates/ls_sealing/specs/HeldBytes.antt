-- What is held of a protector are bytes.
use Rattle.std.specs.Prelude.{ℕ, List, Option, IfSome}
use Rattle.ls_bytes.specs.ByteLists.{AllAreBytes}
use Rattle.ls_formats.specs.declared.part.FilePart.{FilePart}
use Rattle.ls_sealing.specs.Protectors.{Held}

-- what a file holds are bytes
abbrev pub HoldsBytes : Option (List ℕ) → Type 0
HoldsBytes file = IfSome file AllAreBytes

-- each file of a protector holds bytes
abbrev pub AllHoldBytes : Held → Type 0
AllHoldBytes h = (part : FilePart) → HoldsBytes (h.files part)
