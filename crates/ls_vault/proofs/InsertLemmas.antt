-- A user put in at its place is the user among the others.
use Rattle.std.proofs.Common.{◌≡◌, ◌+◌, ℕ, suc, Bool, true, false, cond, ltb, List, [], ◌∷◌, ◌++◌, take, drop, refl, sym, ◌∙◌, ap, subst, arith}
use Rattle.std.specs.List.{insert, prefix_len}
use Rattle.ls_arming.proofs.InsertLemmas.{inserted_more}
use Rattle.ls_vault.specs.Users.{with_user}
use Rattle.ls_vault.specs.declared.user.User.{User}

user_cases : (u user : User) (users : List User) (b : Bool) → insert users (prefix_len (λ v. ltb v.number user.number) users) user ≡ with_user users user
    → insert (u ∷ users) (cond b (1 + prefix_len (λ v. ltb v.number user.number) users) 0) user ≡ cond b (u ∷ with_user users user) (user ∷ u ∷ users)
user_cases u user users true rest =
    inserted_more u user users (prefix_len (λ v. ltb v.number user.number) users) ∙ ap (λ (us : List User). u ∷ us) rest
user_cases u user users false rest = refl

pub user_inserted : (users : List User) (user : User) → insert users (prefix_len (λ v. ltb v.number user.number) users) user ≡ with_user users user
user_inserted [] user = refl
user_inserted (u ∷ users) user = user_cases u user users (ltb u.number user.number) (user_inserted users user)
