-- What is seen of the erasing of parts that aren't named.
use Rattle.std.proofs.Common.{◌≡◌, ◌<◌, ℕ, IsTrue, length, sym, subst}
use Rattle.std.specs.Prelude.{IfSome, Result, Ok}
use Rattle.ls_board.specs.declared.action.Part.{Part}
use Rattle.ls_board.specs.declared.world.World.{World}
use Rattle.ls_board.specs.Acts.{Sight}
use Rattle.ls_board.specs.Reach.{SameBut}
use Rattle.ls_formats.specs.declared.parts.Parts.{Parts}
use Rattle.ls_protector.specs.Parts.{reach_of_parts, erasing_of}
use Rattle.ls_protector.specs.Clear.{IsClearOf, KeepsVaults}
use Rattle.ls_protector.specs.Settled.{IsErased}
use Rattle.ls_protector.specs.Steps.{Steps}
use Rattle.ls_protector.proofs.StandLemmas.{world_same, parts_stand}
use Rattle.ls_protector.proofs.PartLemmas.{erasing_touch, is_erased}

module _ (old new : Sight) (p named : Parts) (is : p ≡ named) (result : Result (Unit {0}) Part) (steps : Steps {T = Unit {0}} old (erasing_of p) result new) where
  pub erasing_but : IsTrue old.told → SameBut (reach_of_parts named) old.world new.world
  erasing_but told = subst (λ (q : Parts). SameBut (reach_of_parts q) old.world new.world) is (world_same (reach_of_parts p) old.world new.world (erasing_of p) (erasing_touch p) (steps.world told))

  pub erasing_stands : IsClearOf old named → KeepsVaults old new
  erasing_stands clear = parts_stand old new (erasing_of p) steps.world steps.crash p (erasing_touch p) (subst (IsClearOf old) (sym is) clear)

pub erasing_erases : (old new : Sight) (p named : Parts) → p ≡ named → Steps {T = Unit {0}} old (erasing_of p) (Ok tt) new → (IsTrue old.told → old.slots ≡ length old.world.slots)
    → IfSome named.slot (λ n. n < old.slots) → IsTrue old.told → IsErased new.world p
erasing_erases old new p named is steps count within told =
    let its = subst (λ (slots : ℕ). IfSome named.slot (λ n. n < slots)) (count told) within in
    subst (λ (w : World). IsErased w p) (sym (steps.did.world told)) (is_erased old.world p (subst (λ (q : Parts). IfSome q.slot (λ n. n < length old.world.slots)) (sym is) its))
