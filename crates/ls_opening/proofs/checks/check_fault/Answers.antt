use Rattle.std.proofs.Common.{ap, sym, ◌∙◌}
use Rattle.ls_formats.specs.PartNames.{PartOf}
use Rattle.ls_opening.proofs.checks.check_fault.Goals as goal

pub returns-in-Secdis : goal.returns-in-Secdis
returns-in-Secdis c =
    let is = sym (ap (λ (n : PartOf). n.part) c.name.view_is) ∙ c.in-Secdis.is in
    record { same = rw is (c.secdis_fault.ensures.same c.args.row.now c.args.name.now.id) }

pub returns-in-Weaver : goal.returns-in-Weaver
returns-in-Weaver c =
    let is = sym (ap (λ (n : PartOf). n.part) c.name.view_is) ∙ c.in-Weaver.is in
    record { same = rw is (c.weaver_fault.ensures.same c.args.row.now c.args.name.now.id) }

pub returns-in-Handle : goal.returns-in-Handle
returns-in-Handle c =
    let is = sym (ap (λ (n : PartOf). n.part) c.name.view_is) ∙ c.in-Handle.is in
    record { same = rw is (c.handle_fault.ensures.same c.args.beside.now c.args.name.now.id) }
