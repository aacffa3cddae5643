use Rattle.std.proofs.Common.{sym, ◌∙◌}
use Rattle.ls_secure.specs.Secure.{IsKeyRow, key_bytes}
use Rattle.ls_secure.proofs.JoinedLemmas.{joined_more, all_more}
use Rattle.ls_secure.proofs.printing.put_keys.Goals as goal

pub loop-at-preserved : goal.loop-at-preserved
loop-at-preserved c = record {
  put = c.in_ok-put_key.ensures.put ∙ joined_more key_bytes c.args.keys.now.rows c.loop-at.at c.in-Some.row.now c.put_u32.new.out.items c.loop-at.out.items (sym c.in-Some.ensures.found) c.loop-at.invariant.put;
  each = all_more IsKeyRow c.args.keys.now.rows c.loop-at.at c.in-Some.row.now (sym c.in-Some.ensures.found) c.in_ok-put_key.ensures.fits c.loop-at.invariant.each;
}
