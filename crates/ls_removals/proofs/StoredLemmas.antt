-- Nothing was done: what is stored is so.
use Rattle.std.proofs.Common.{◌≡◌, refl, sym, ap, subst}
use Rattle.ls_board.specs.declared.world.World.{World}
use Rattle.ls_board.specs.Acts.{Sight}
use Rattle.ls_drawing.specs.Passing.{IsStored}

-- only the room of the board may be another
pub stored_alike : (old new : Sight) → new ≡ record old { actions = new.actions; bytes = new.bytes } → IsStored old.world new.world
stored_alike old new is = subst (λ (w : World). IsStored old.world w) (sym (ap (λ (s : Sight). s.world) is)) refl
