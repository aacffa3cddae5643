use Rattle.ls_formats.specs.declared.part.FilePart.TheVariants.{Pwd as PwdPart}
use Rattle.ls_formats.specs.Files.{format_of}
use Rattle.ls_formats.specs.Contents.{IsPwd, pwd_bytes, pwd_of}
use Rattle.ls_formats.proofs.ContentLemmas.{spelled_fault, spelled_value, pwd_format, pwd_long}
use Rattle.ls_formats.proofs.pwd.PwdData.parse.Goals as goal

pub read-requires-clause-format : goal.read-requires-clause-format
read-requires-clause-format c = c.in-None.ensures.first

pub read-requires-clause-long : goal.read-requires-clause-long
read-requires-clause-long c = (pwd_long c.args.bytes.now c.in-None.ensures.first).head

pub read-requires-clause-handle : goal.read-requires-clause-handle
read-requires-clause-handle c = (pwd_long c.args.bytes.now c.in-None.ensures.first).handle

pub returns-in-Some-clause-exact : goal.returns-in-Some-clause-exact
returns-in-Some-clause-exact c = spelled_fault (format_of PwdPart) IsPwd pwd_bytes pwd_of pwd_format c.args.bytes.now c.in-Some.at c.in-Some.ensures.first

pub returns-in-None-clause-exact : goal.returns-in-None-clause-exact
returns-in-None-clause-exact c =
    spelled_value (format_of PwdPart) IsPwd pwd_bytes pwd_of pwd_format c.args.bytes.now c.in-None.ensures.first
    c.read.result c.read.ensures.same
