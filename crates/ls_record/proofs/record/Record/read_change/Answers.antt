use Rattle.std.proofs.Common.{List, ap, subst, ◌∙◌, arith}
use Rattle.ls_record.specs.declared.row.UserRow.{UserRow}
use Rattle.ls_record.specs.Rows.{Rec, IsRecord}
use Rattle.ls_record.proofs.EditedLemmas.{IsReadAnswer, read_may_change}
use Rattle.ls_record.proofs.record.Record.read_change.Goals as goal

pub returns-clause-may : goal.returns-clause-may
returns-clause-may c =
    read_may_change c.args.format c.args.self.now (subst IsRecord c.self.view_is c.self.invariant) c.args.edit.now (λ i. omega (arith, c.type_inv.edit i))
    c.as_slice.result.now (c.as_slice.ensures.same ∙ ap (λ (r : Rec). r.users) c.self.view_is) c.read_edit.result c.read_edit.ensures.exact

pub returns-clause-exact : goal.returns-clause-exact
returns-clause-exact c =
    subst (λ (rows : List UserRow). IsReadAnswer c.args.format rows c.args.edit.now c.read_edit.result)
    (c.as_slice.ensures.same ∙ ap (λ (r : Rec). r.users) c.self.view_is) c.read_edit.ensures.exact
