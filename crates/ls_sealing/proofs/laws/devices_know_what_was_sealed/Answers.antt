use Rattle.std.proofs.Common.{refl}
use Rattle.ls_sealing.proofs.DeviceLemmas.{slot_knows, handle_names, handle_knows}
use Rattle.ls_sealing.proofs.laws.devices_know_what_was_sealed.Goals as goal

pub returns-clause-slot : goal.returns-clause-slot
returns-clause-slot c = λ id h cr d s slot sealed apart kind weaver there. slot_knows id h cr d s sealed apart kind slot weaver there

pub returns-clause-handle : goal.returns-clause-handle
returns-clause-handle c = λ id h cr d s file handle sealed apart kind small plain there has. handle_knows id h cr d s sealed apart kind file handle small plain there has

-- a text is apart from itself
pub returns-clause-named : goal.returns-clause-named
returns-clause-named c = λ id h cr s file handle sealed small plain there has. handle_names id h cr cr s sealed (λ kind other. absurd (other refl)) refl file handle small plain there has
