use Rattle.std.proofs.Common.{◌∙◌}
use Rattle.ls_formats.proofs.NameLemmas.{first_again, second_again, protector_left, part_name_long}
use Rattle.ls_formats.proofs.name.FileName.read.Goals as goal

pub part_name_of-requires-clause-long : goal.part_name_of-requires-clause-long
part_name_of-requires-clause-long c =
    let name = protector_left c.args.bytes.now c.requires c.if-is_text.ensures.same c.if-is_text-2.ensures.same in
    part_name_long name.0 c.args.bytes.now name.2

pub returns-then-is_text : goal.returns-then-is_text
returns-then-is_text c = record { again = λ name keeps e. first_again name (e ∙ c.if-is_text.ensures.same) }

pub returns-then-is_text-2 : goal.returns-then-is_text-2
returns-then-is_text-2 c = record { again = λ name keeps e. second_again name (e ∙ c.if-is_text-2.ensures.same) }
