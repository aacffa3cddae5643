use Rattle.std.proofs.Common.{arith}
use Rattle.std.proofs.lemmas.Cmp.{nat_list_cmp_total}
use Rattle.std.proofs.lemmas.Map.Lookups.{exact_bytes}
use Rattle.ls_board.specs.Order.{byte_cmp}
use Rattle.ls_checker.specs.BareRows.{IsLeftover}
use Rattle.ls_checker.proofs.TableLemmas.{gone_over, stopped_at}
use Rattle.ls_checker.proofs.BareLemmas.{parts_decided}
use Rattle.ls_checker.proofs.bare_files.keeps_known_files.Goals as goal

pub returns-then-not-keeps_row : goal.returns-then-not-keeps_row
returns-then-not-keeps_row c =
    let w = c.args.world.now in
    let left = IsLeftover w c.args.holder.now c.args.retired.now in
    record {
      decided = parts_decided w c.args.holder.now c.args.retired.now _
          (stopped_at byte_cmp nat_list_cmp_total exact_bytes left w.files c.loop-at.at c.keeps_row.result c.keeps_row.ensures.decided c.if-not-keeps_row.true);
    }

pub returns : goal.returns
returns c =
    let w = c.args.world.now in
    let left = IsLeftover w c.args.holder.now c.args.retired.now in
    record {
      decided = parts_decided w c.args.holder.now c.args.retired.now _
          (gone_over byte_cmp nat_list_cmp_total exact_bytes left w.files c.loop-at.at (omega (arith, c.loop-at-test.false, c.len-at-end.ensures.count)) c.loop-at.invariant);
    }
