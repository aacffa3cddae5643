-- What plans that take away ask of a board.
use Rattle.std.proofs.Common.{◌<◌, ℕ, List, [], ◌∷◌, ◌++◌, suc, refl, sym, subst, arith}
use Rattle.std.specs.Prelude.{IfSome, is_some}
use Rattle.std.specs.List.{Contains}
use Rattle.std.proofs.lemmas.List.Concat.{flat_map-cons}
use Rattle.ls_board.specs.declared.action.Action.{Action}
use Rattle.ls_board.specs.Runs.{AllSound}
use Rattle.ls_formats.specs.declared.part.FilePart.{FilePart}
use Rattle.ls_sealing.specs.Building.{removes}
use Rattle.ls_sealing.specs.Protectors.{Protector, parts_for}
use Rattle.ls_sealing.proofs.ActionLemmas.{erasing_sound}
use Rattle.ls_retiring.specs.declared.built.Built.{Built}
use Rattle.ls_retiring.specs.Retiring.{purpose_of, protector_of, erasing_of, erasing_all, removing_of, own_removes}

module _ {X : Type 0} where
  first_of : (x : X) (xs : List X) → Contains (x ∷ xs) x
  first_of x xs = (0, omega arith, refl)

  later_of : (y : X) (xs : List X) (x : X) → Contains xs x → Contains (y ∷ xs) x
  later_of y xs x (k, within, is) = (suc k, omega arith, is)

module _ (slots : ℕ) where
  pub sound_both : (xs ys : List Action) → AllSound slots xs → AllSound slots ys → AllSound slots (xs ++ ys)
  sound_both [] ys first second = second
  sound_both (x ∷ xs) ys first second = (first.0, sound_both xs ys first.1 second)

  pub erase_sound : (all : List Built) → ((b : Built) → Contains all b → IfSome b.place.slot (λ n. n < slots)) → AllSound slots (erasing_all all)
  erase_sound [] fits = tt
  erase_sound (b ∷ all) fits =
      subst (λ (l : List Action). AllSound slots l) (sym (flat_map-cons erasing_of b all))
      (sound_both (erasing_of b) (erasing_all all)
      (erasing_sound (protector_of b) slots b.place.slot (fits b (first_of b all)))
      (erase_sound all (λ c h. fits c (later_of b all c h))))

  removes_sound : (p : Protector) (parts : List FilePart) → AllSound slots (removes p parts)
  removes_sound p [] = tt
  removes_sound p (part ∷ parts) = (tt, removes_sound p parts)

  pub remove_sound : (b : Built) → AllSound slots (removing_of b)
  remove_sound b = removes_sound (protector_of b) (parts_for (is_some b.place.slot) (purpose_of b.kind))

  pub own_sound : (user : ℕ) (parts : List FilePart) → AllSound slots (own_removes user parts)
  own_sound user [] = tt
  own_sound user (part ∷ parts) = (tt, own_sound user parts)
