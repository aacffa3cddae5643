use Rattle.std.proofs.Common.{[], ◌∷◌, arith, refl, ◌∙◌}
use Rattle.ls_gcm.proofs.CounterLemmas.{put_at_end}
use Rattle.ls_gcm.proofs.counter.counter.Goals as goal

pub returns : goal.returns
returns c =
    put_at_end 12 4 c.copy_from_slice.new.self (0 ∷ 0 ∷ 0 ∷ 0 ∷ []) c.copy_from_slice-2.new.self (omega arith) refl
    ∙ rw (c.copy_from_slice.ensures.after, c.copy_from_slice-2.ensures.after, c.to_be_bytes.ensures) refl
