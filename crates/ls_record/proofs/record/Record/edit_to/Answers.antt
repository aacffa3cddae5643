use Rattle.ls_record.proofs.LeadingLemmas.{only_leads}
use Rattle.ls_record.proofs.record.Record.edit_to.Goals as goal

pub returns-clause-only : goal.returns-clause-only
returns-clause-only c =
    only_leads c.args.self.now c.args.next.now c.same.ensures.kept c.in_ok-edit.edit c.in_ok-edit.ensures.same c.if_leads.result c.if_leads.ensures.only
