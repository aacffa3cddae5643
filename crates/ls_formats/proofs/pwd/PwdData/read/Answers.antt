use Rattle.std.proofs.Common.{get_or}
use Rattle.ls_formats.specs.declared.part.FilePart.TheVariants.{Pwd as PwdPart}
use Rattle.ls_formats.specs.Files.{format_of}
use Rattle.ls_formats.specs.Contents.{IsPwd, pwd_bytes, pwd_of, pwd}
use Rattle.ls_formats.proofs.ContentLemmas.{spelled_value, pwd_format}
use Rattle.ls_formats.proofs.pwd.PwdData.read.Goals as goal

pub invariant_of-result : goal.invariant_of-result
invariant_of-result c =
    let b = c.args.bytes.now in
    (spelled_value (format_of PwdPart) IsPwd pwd_bytes pwd_of pwd_format b c.requires.format _
    (λ i. pwd (c.stored_kind.ensures.same i) (get_or b 1 0) (get_or b 2 0) (get_or b 3 0) (c.array_at.ensures.same i) (c.handle_behind.ensures.same i))).0
