-- The format of each part of a protector and of its user, by the first place at fault.
use Rattle.std.specs.Prelude.{ℕ, List, Option}
use Rattle.std.specs.Option.{option_map}
use Rattle.ls_blob.specs.Parsing.{first_fault as blob_fault, blob_place}
use Rattle.ls_formats.specs.declared.part.FilePart.{FilePart}
use Rattle.ls_formats.specs.declared.part.FilePart.TheVariants.{SpBlob}
use Rattle.ls_formats.specs.Format.{first_fault}
use Rattle.ls_formats.specs.Files.{format_of}

-- the first place at which the bytes leave the format of the part
abbrev pub format_fault : FilePart → List ℕ → Option ℕ
format_fault SpBlob bytes = option_map blob_place (blob_fault bytes)
format_fault part bytes = first_fault (format_of part) bytes
