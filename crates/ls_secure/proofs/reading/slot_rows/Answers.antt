use Rattle.std.proofs.Common.{◌≡◌, ◌∙◌, ◌+◌, ◌++◌, ◌∷◌, [], ap, length, drop, arith}
use Rattle.std.specs.List.{flat_map}
use Rattle.std.proofs.lemmas.List.{length_push}
use Rattle.ls_secure.specs.Secure.{IsSlot, slot_bytes}
use Rattle.ls_secure.proofs.ReadingLemmas.{inside, next, ended, push_more}
use Rattle.ls_secure.proofs.reading.slot_rows.Goals as goal

pub returns-in_err-slot-clause-gives : goal.returns-in_err-slot-clause-gives
returns-in_err-slot-clause-gives c =
    λ ys rest count fits is.
    let so_far = c.loop.invariant.gave ys rest count fits is in
    let n = next slot_bytes IsSlot ys c.loop.counter c.loop.reader.left rest (omega arith) fits so_far.1 in
    let gave = c.slot.ensures.gives n.row (flat_map slot_bytes (drop (c.loop.counter + 1) ys) ++ rest) n.good n.is in
    absurd (cc (c.in_err-slot.was, gave.0))

pub loop-preserved : goal.loop-preserved
loop-preserved c = record {
  count = let longer = length_push c.loop.slots c.in_ok-slot.slot in let now = ap length c.in_ok-push.ensures.pushed in omega arith;
  gave = λ ys rest count fits is.
      let so_far = c.loop.invariant.gave ys rest count fits is in
      let n = next slot_bytes IsSlot ys c.loop.counter c.loop.reader.left rest (omega arith) fits so_far.1 in
      let gave = c.slot.ensures.gives n.row (flat_map slot_bytes (drop (c.loop.counter + 1) ys) ++ rest) n.good n.is in
      let slot = inside c.slot.result c.in_ok-slot.slot n.row c.in_ok-slot.was gave.0 in
      (c.in_ok-push.ensures.pushed ∙ ((λ i. so_far.0 i ++ slot i ∷ []) ∙ push_more ys c.loop.counter n.row n.there), gave.1);
}

pub returns-clause-gives : goal.returns-clause-gives
returns-clause-gives c =
    λ ys rest count fits is.
    let so_far = c.loop.invariant.gave ys rest count fits is in
    ended slot_bytes IsSlot ys c.loop.slots c.loop.counter c.loop.reader.left rest (omega arith) so_far.0 so_far.1
