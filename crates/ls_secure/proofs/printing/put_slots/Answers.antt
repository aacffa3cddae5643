use Rattle.std.proofs.Common.{sym, ◌∙◌}
use Rattle.ls_secure.specs.Secure.{IsSlot, slot_bytes}
use Rattle.ls_secure.proofs.JoinedLemmas.{joined_more, all_more}
use Rattle.ls_secure.proofs.printing.put_slots.Goals as goal

pub loop-at-preserved : goal.loop-at-preserved
loop-at-preserved c = record {
  put = c.in_ok-put_slot.ensures.put ∙ joined_more slot_bytes c.args.slots.now c.loop-at.at c.in-Some.slot.now c.put_u32.new.out.items c.loop-at.out.items (sym c.in-Some.ensures.found) c.loop-at.invariant.put;
  each = all_more IsSlot c.args.slots.now c.loop-at.at c.in-Some.slot.now (sym c.in-Some.ensures.found) c.in_ok-put_slot.ensures.fits c.loop-at.invariant.each;
}
