use Rattle.std.proofs.Common.{Option, ap, subst, ◌∙◌}
use Rattle.ls_arming.specs.declared.arming.Arming.{Arming}
use Rattle.ls_record.specs.Rows.{Rec, IsRecord}
use Rattle.ls_arming.specs.Disarming.{disarmed}
use Rattle.ls_record.proofs.ChangeLemmas.{put_made, drop_made}
use Rattle.ls_record.proofs.record.Record.changed.Goals as goal

pub invariant_of-result : goal.invariant_of-result
invariant_of-result c =
    put_made c.args.self.now (subst IsRecord c.self.view_is c.self.invariant) c.args.edit.now c.in-PutRow.row c.in-PutRow.is c.requires
    c.as_slice.result.now c.in_ok-users-in-PutRow.users c.in_ok-armed-in-PutRow.armed (c.as_slice.ensures.same ∙ ap (λ (r : Rec). r.users) c.self.view_is)
    c.in_ok-users-in-PutRow.ensures.same (c.in_ok-armed-in-PutRow.ensures.same ∙ ap (λ (r : Rec). r.armed) c.self.view_is)

pub invariant_of-result-in-DropRow : goal.invariant_of-result-in-DropRow
invariant_of-result-in-DropRow c =
    drop_made c.args.self.now (subst IsRecord c.self.view_is c.self.invariant) c.in-DropRow.user
    c.as_slice-in-DropRow.result.now c.in_ok-users-in-DropRow.users c.disarmed-armed.result (c.as_slice-in-DropRow.ensures.same ∙ ap (λ (r : Rec). r.users) c.self.view_is)
    c.in_ok-users-in-DropRow.ensures.same (c.disarmed-armed.ensures.same
    ∙ ap (λ (o : Option Arming). disarmed o c.in-DropRow.user) (c.in_ok-copy_arming-in-DropRow.ensures.same ∙ ap (λ (r : Rec). r.armed) c.self.view_is))
