use Rattle.std.proofs.Common.{◌∙◌, arith}
use Rattle.std.proofs.lemmas.List.{take_all}
use Rattle.ls_formats.proofs.handle.handle_of.Goals as goal

pub returns : goal.returns
returns c = record { same = c.array_at.ensures.same ∙ take_all 49 c.args.bytes.now (omega arith) }
