use Rattle.std.proofs.Common.{List, ℕ, ap, subst, length, ◌∙◌}
use Rattle.ls_activating.proofs.HalfLemmas.{half_long}
use Rattle.ls_activating.proofs.halves.half.Goals as goal

pub opened-requires : goal.opened-requires
opened-requires g c = record { long = ap (λ (l : List ℕ). length l) c.as_slice.ensures.same ∙ half_long c.in-Ok.file c.in-Ok.ensures.format }
