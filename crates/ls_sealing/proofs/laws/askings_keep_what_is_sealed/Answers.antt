use Rattle.ls_sealing.proofs.ReadingLemmas.{held_after_reading, held_after_check, reading_kept, record_kept, token_slot_kept}
use Rattle.ls_sealing.proofs.laws.askings_keep_what_is_sealed.Goals as goal

pub returns-clause-reading : goal.returns-clause-reading
returns-clause-reading c = held_after_reading

pub returns-clause-check : goal.returns-clause-check
returns-clause-check c = held_after_check

pub returns-clause-slot_sealed : goal.returns-clause-slot_sealed
returns-clause-slot_sealed c = reading_kept

pub returns-clause-record_sealed : goal.returns-clause-record_sealed
returns-clause-record_sealed c = record_kept

pub returns-clause-token : goal.returns-clause-token
returns-clause-token c = token_slot_kept
