-- What the parts of a protector, taken out of a world, are as what that world holds of it.
use Rattle.std.specs.Prelude.{ℕ, List, Option, None}
use Rattle.ls_formats.specs.declared.part.FilePart.{FilePart}
use Rattle.ls_formats.specs.declared.part.FilePart.TheVariants.{SpBlob, Pwd, Secdis, Weaver, Metrics, Handle, E0, P1, Resume}
use Rattle.ls_sealing.specs.Protectors.{Held}
use Rattle.ls_unsealing.specs.declared.parts.PartFiles.{PartFiles}
use Rattle.ls_unsealing.specs.declared.parts.HeldParts.{HeldParts}

-- the file of each part; the parts of a user are none of a protector
abbrev pub file_of : PartFiles → FilePart → Option (List ℕ)
file_of files SpBlob = files.spblob
file_of files Pwd = files.pwd
file_of files Secdis = files.secdis
file_of files Weaver = files.weaver
file_of files Metrics = files.metrics
file_of files Handle = None
file_of files E0 = None
file_of files P1 = None
file_of files Resume = None

abbrev pub held_by : HeldParts → Held
held_by parts = record {
  weaver = parts.weaver;
  files = file_of parts.files;
  slot = parts.slot;
  counter = parts.counter;
  device = parts.device;
  key = parts.key;
}
