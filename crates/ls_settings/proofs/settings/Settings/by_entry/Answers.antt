use Rattle.std.proofs.Common.{◌≡◌, Ok, sym, ◌∙◌, ap, subst}
use Rattle.ls_record.specs.Rows.{Rec}
use Rattle.ls_record.specs.Edits.{changed, IsEditText}
use Rattle.ls_record.specs.EditReading.{edited_of}
use Rattle.ls_settings.specs.Loaded.{Loaded}
use Rattle.ls_settings.specs.Commits.{IsEntry}
use Rattle.ls_settings.proofs.PrepareLemmas.{entry_text, by_entry}
use Rattle.ls_settings.proofs.settings.Settings.by_entry.Goals as goal

pub returns-clause-prepared : goal.returns-clause-prepared
returns-clause-prepared c =
    let from = c.args.self.now in
    let change = c.as_slice-change.result.now in
    let rec_is : c.self.inside.record ≡ from.settled.rec = ap (λ (s : Loaded). s.settled.rec) c.self.view_is in
    let entry = subst (IsEntry from.settled c.args.next c.args.entry.side c.args.entry.at) (sym c.as_slice-change.ensures.same) c.requires.entry in
    let text = entry_text from c.args.next c.args.entry.side c.args.entry.at change entry in
    let named : c.in-Ok.named ≡ c.args.next =
    c.in-Ok.ensures.only entry.edit (subst (λ (r : Rec). IsEditText 2 r change entry.edit) (sym rec_is) text)
    ∙ ap (λ (r : Rec). changed r entry.edit) rec_is ∙ entry.leads.to in
    by_entry from c.args.next c.requires.small _ c.self.view_is c.args.entry.side c.args.entry.at change entry
    (ap (λ (r : Rec). edited_of 2 r change) (sym rec_is) ∙ c.in-Ok.ensures.exact ∙ ap (λ (r : Rec). Ok r) named)
    c.in_ok-plan.plan c.in_ok-plan.ensures.plan
