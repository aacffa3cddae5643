use Rattle.std.proofs.Common.{◌∙◌}
use Rattle.ls_board.specs.Gatekeeper.{sid_of, verified}
use Rattle.ls_checker.proofs.QuietLemmas.{record_decided, verified_same}
use Rattle.ls_checker.proofs.quiet.check_leaves_record.Goals as goal

pub returns : goal.returns
returns c =
    let records = c.of-device.ensures.records ∙ c.in_ok-copy.ensures.same in
    let later = verified_same c.args.handle.now c.args.password.now c.args.moment c.of-device.result.key c.args.world.now.gk_key
    c.of-device.result.records c.args.world.now.gk c.of-device.ensures.key records in
    record {
      decided = record_decided c.same_counter.result c.find.result c.find-before.result c.sid_of-sid.result (sid_of c.args.handle.now)
          c.records-2.result.now.rows (verified c.args.world.now.gk_key c.args.world.now.gk c.args.handle.now c.args.password.now c.args.moment)
          c.records.result.now.rows c.args.world.now.gk
          c.find.ensures.found (c.records-2.ensures.same ∙ c.verify.ensures.records ∙ later)
          c.find-before.ensures.found (c.records.ensures.same ∙ records) c.sid_of-sid.ensures.same c.same_counter.ensures.same;
    }
