use Rattle.std.proofs.Common.{arith}
use Rattle.ls_record.proofs.EditedLemmas.{is_found, is_only}
use Rattle.ls_record.proofs.record.Record.edited.Goals as goal

pub returns-clause-found : goal.returns-clause-found
returns-clause-found c =
    is_found c.args.format c.args.self.now c.edited_by.ensures.kept c.args.edit.now (λ i. omega (arith, c.type_inv.edit i)) c.edited_by.result c.edited_by.ensures.exact

pub returns-clause-only : goal.returns-clause-only
returns-clause-only c = is_only c.args.format c.args.self.now c.edited_by.ensures.kept c.args.edit.now c.edited_by.result c.edited_by.ensures.exact
