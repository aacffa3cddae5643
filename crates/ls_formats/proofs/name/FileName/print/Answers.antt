use Rattle.std.proofs.Common.{sym, subst}
use Rattle.std.proofs.lemmas.Result.{IfOk-weaker}
use Rattle.ls_bytes.specs.Names.{IsName}
use Rattle.ls_formats.proofs.NameByteLemmas.{part_name}
use Rattle.ls_formats.proofs.name.FileName.print.Goals as goal

pub returns-in-Protector-clause-is_name : goal.returns-in-Protector-clause-is_name
returns-in-Protector-clause-is_name c =
    IfOk-weaker c.print_part_name.result _ _ (λ text e. subst IsName (sym e) (part_name c.in-Protector.name))
    c.print_part_name.ensures.spelled
