-- What decides one fact decides another that is the same.
use Rattle.std.proofs.Common.{◌≡◌, List, [], ◌∷◌, ℕ, refl, sym, subst, arith}
use Rattle.std.specs.Prelude.{◌↔◌, ◌==◌, ◌<◌, ◌^◌, Bool, true, false, MatchBool}
use Rattle.std.specs.List.{AllByRecursion}
use Rattle.ls_record.specs.Rows.{is_odd}

pub true_is : (P Q : Type 0) (b : Bool) → b ≡ true → P ↔ MatchBool b P Q
true_is P Q b is = (
  λ h. subst (λ (x : Bool). MatchBool x P Q) (sym is) h,
  λ h. subst (λ (x : Bool). MatchBool x P Q) is h,
)

not_zero : (id : ℕ) (b : Bool) → (id == 0) ≡ b → is_odd id ≡ true → b ≡ false
not_zero id b is odd = grind (arith, is, odd)

-- an odd id isn't 0
pub odd_some : (ids : List ℕ) → AllByRecursion (λ t. (is_odd t ≡ true) × (t < 2 ^ 64)) ids
    → AllByRecursion (λ id. (id == 0) ≡ false) ids
odd_some [] all = all
odd_some (id ∷ ids) all = (not_zero id (id == 0) refl all.0.0, odd_some ids all.1)
