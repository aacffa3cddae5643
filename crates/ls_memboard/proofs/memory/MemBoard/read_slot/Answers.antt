use Rattle.std.proofs.Common.{◌∙◌, ap, List}
use Rattle.std.specs.Prelude.{slice_index_or}
use Rattle.ls_weaver.specs.declared.slot.Slot.{Slot}
use Rattle.ls_weaver.specs.Slots.{blank_slot, slot_answer}
use Rattle.ls_board.specs.Effect.{read_answer}
use Rattle.ls_memboard.proofs.memory.MemBoard.read_slot.Goals as goal

pub returns : goal.returns
returns c =
    let devices = c.args.self.now.in_step.devices_are in
    record {
      answer = c.answer_of_slot.ensures.same ∙ ap read_answer (c.read.ensures.answer
          ∙ ap (λ (s : Slot). slot_answer s c.args.key.now c.args.moment) (c.copy_of-copy.ensures.same ∙ ap (λ (slots : List Slot). slice_index_or slots c.args.slot blank_slot) devices.slots));
    }
