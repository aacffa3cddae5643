use Rattle.std.proofs.Common.{◌∙◌, ap}
use Rattle.std.specs.Ordering.{nat_cmp}
use Rattle.std.specs.FinMap.Entries.{put}
use Rattle.ls_board.specs.Gatekeeper.{sid_of, is_signed, counter_after, with_counter}
use Rattle.ls_gatekeeper.proofs.gatekeeper.Gatekeeper.verify.Goals as goal

pub returns-clause-records : goal.returns-clause-records
returns-clause-records c =
    let handle = c.args.handle.now in
    let password = c.args.password.now in
    let device = c.args.self.now in
    c.set.ensures.rows
    ∙ (λ i. put nat_cmp (c.sid_of-sid.ensures i) (c.count-answer.ensures.after i) c.self.inside.table.rows)
    ∙ (λ i. put nat_cmp (sid_of handle) (counter_after c.in-Some.counter (c.is_signed.ensures i) c.args.moment) c.self.inside.table.rows)
    ∙ ap (λ d. put nat_cmp (sid_of handle) (counter_after c.in-Some.counter (is_signed d.key handle password) c.args.moment) d.records) c.self.view_is
    ∙ ap (with_counter device.records (sid_of handle) (is_signed device.key handle password) c.args.moment) c.in-Some.ensures.found
