use Rattle.ls_sealing.proofs.WritingLemmas.{is_held}
use Rattle.ls_sealing.proofs.laws.protectors_hold_what_was_written.Goals as goal

pub returns : goal.returns
returns c = λ w p slot m. is_held p m w slot
