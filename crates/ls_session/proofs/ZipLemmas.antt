-- Each protector is kept by its place.
use Rattle.std.proofs.Common.{◌≡◌, ℕ, List, [], ◌∷◌, ◌++◌, Option, Some, sym, ◌∙◌, ap, subst}
use Rattle.std.specs.Prelude.{IfSome, IfOk, is_some, Result, Ok}
use Rattle.std.specs.List.{AllZip}
use Rattle.ls_formats.specs.PartNames.{PartOf}
use Rattle.ls_formats.specs.declared.parts.Parts.{Parts}
use Rattle.ls_sealing.specs.declared.pushing.Place.{Place}
use Rattle.ls_sealing.specs.Protectors.{Purpose, Protector}
use Rattle.ls_protector.specs.Parts.{parts_of, protector_at}
use Rattle.ls_turn.specs.Serving.{FitsBoard, IsKeptAs}

zip_last : {A B : Type 0} (R : A → B → Type 0) (xs : List A) (ys : List B) (x : A) (y : B) → AllZip R xs ys → R x y → AllZip R (xs ++ x ∷ []) (ys ++ y ∷ [])
zip_last R [] [] x y all is = (is, tt)
zip_last R [] (b ∷ ys) x y all is = absurd (all)
zip_last R (a ∷ xs) [] x y all is = absurd (all)
zip_last R (a ∷ xs) (b ∷ ys) x y all is = (all.0, zip_last R xs ys x y all.1 is)

-- one more is kept behind those before
pub kept_last : (slots : ℕ) (kept : Result (List Parts) PartOf) (parts new : List Parts) (p : Protector) (q : Parts) (done : List Protector)
    → kept ≡ Ok parts → new ≡ parts ++ q ∷ [] → IsKeptAs slots p q
    → IfOk kept (λ l. AllZip (IsKeptAs slots) done l) → AllZip (IsKeptAs slots) (done ++ p ∷ []) new
kept_last slots kept parts new p q done some is kept_as all =
    subst (AllZip (IsKeptAs slots) (done ++ p ∷ [])) (sym is)
    (zip_last (IsKeptAs slots) done parts p q (subst (λ (k : Result (List Parts) PartOf). IfOk k (λ l. AllZip (IsKeptAs slots) done l)) some all) kept_as)

-- what is built at a place of the board
pub at_place : (slots user id : ℕ) (purpose : Purpose) (found : Option Place) (place : Place) (q : Parts) → found ≡ Some place
    → IfSome found (λ p. (p.user ≡ user) × (p.id ≡ id) × FitsBoard slots p.slot)
    → q ≡ parts_of (is_some place.slot) (protector_at place purpose) place.slot
    → IsKeptAs slots (record { user = user; id = id; purpose = purpose }) q
at_place slots user id purpose found place q some fits built =
    let f = subst (λ (o : Option Place). IfSome o (λ p. (p.user ≡ user) × (p.id ≡ id) × FitsBoard slots p.slot)) some fits in (
      place.slot,
      f.2,
      built
          ∙ ap (λ (n : ℕ). parts_of (is_some place.slot) (record { user = n; id = place.id; purpose = purpose }) place.slot) f.0
          ∙ ap (λ (n : ℕ). parts_of (is_some place.slot) (record { user = user; id = n; purpose = purpose }) place.slot) f.1,
    )
