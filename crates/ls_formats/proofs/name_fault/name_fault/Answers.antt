use Rattle.std.proofs.Common.{◌∙◌}
use Rattle.ls_formats.specs.Format.{later}
use Rattle.ls_formats.specs.FileNames.{name_format}
use Rattle.ls_formats.proofs.FaultLemmas.{told}
use Rattle.ls_formats.proofs.NameLemmas.{name_live}
use Rattle.ls_formats.proofs.name_fault.name_fault.Goals as goal

pub returns-clause-first : goal.returns-clause-first
returns-clause-first c =
    told name_format name_live c.args.bytes.now c.later.result
    (c.later.ensures.same ∙ (λ i. later (c.settings_fault.ensures.exact i) (c.protector_fault.ensures.exact i)))
