-- The half of a secret.
use Rattle.std.proofs.Common.{◌≡◌, ℕ, List, length, None, refl, sym}
use Rattle.ls_formats.specs.declared.part.FilePart.TheVariants.{E0}
use Rattle.ls_formats.specs.Files.{format_of}
use Rattle.ls_formats.proofs.FaultLemmas.{told}
use Rattle.ls_formats.proofs.FieldLemmas.{in_plain}
use Rattle.ls_formats.proofs.FileLemmas.{format_lives}
use Rattle.ls_sealing.specs.PartFormats.{format_fault}

-- a file in its format has 60 bytes
pub half_long : (file : List ℕ) → format_fault E0 file ≡ None → length file ≡ 60
half_long file sound = (in_plain 60 file (told (format_of E0) (format_lives E0) file None (sym sound))).long
