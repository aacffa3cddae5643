use Rattle.std.proofs.Common.{List, ℕ, Option, sym, ap, ◌∙◌}
use Rattle.std.specs.Prelude.{slice_get}
use Rattle.std.specs.Option.{option_and_then}
use Rattle.ls_sealing.specs.Protectors.{slot_number}
use Rattle.ls_unsealing.proofs.SlotLemmas.{no_slot}
use Rattle.ls_unsealing.proofs.reading.slot_of.Goals as goal

pub returns-in-Err : goal.returns-in-Err
returns-in-Err c =
    let none = no_slot c.as_slice.result.now c.parse.result c.in-Err.field-0 c.in-Err.is c.parse.ensures.exact in
    record {
      same = sym (ap (λ (o : Option (List ℕ)). option_and_then (slice_get c.args.world.now.slots) (option_and_then slot_number o)) c.in-Some.is
          ∙ ap (λ (o : Option ℕ). option_and_then (slice_get c.args.world.now.slots) o) (ap slot_number (sym c.as_slice.ensures.same) ∙ none));
    }
