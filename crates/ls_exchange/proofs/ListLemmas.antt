-- An element that is taken off one list and put behind another.
use Rattle.std.proofs.Common.{◌≡◌, ◌≤◌, ◌+◌, suc, ℕ, List, [], ◌∷◌, ◌++◌, length, append_assoc, arith, sym, ◌∙◌, ap}

pub moved : {X : Type 0} (to new left rest : List X) (x : X) → left ≡ x ∷ rest → new ≡ to ++ x ∷ [] → new ++ rest ≡ to ++ left
moved {X} to new left rest x is put = ap (λ (l : List X). l ++ rest) put ∙ append_assoc to (x ∷ []) rest ∙ ap (λ (l : List X). to ++ l) (sym is)

-- there are places for those that are left
pub room_left : {X : Type 0} (left rest : List X) (x : X) (held more capacity same : ℕ) → left ≡ x ∷ rest → more ≡ held + 1 → same ≡ capacity → held + length left ≤ capacity → more + length rest ≤ same
room_left left rest x held more capacity same is len kept room =
    let n : length left ≡ suc (length rest) = ap length is in
    omega (arith, n, len, kept, room)

-- the list behind which the first were put
module _ {X : Type 0} (to now new all done left rest : List X) (x : X) (is : left ≡ x ∷ rest) where
  pub put_behind : now ≡ to ++ done → new ≡ now ++ x ∷ [] → new ≡ to ++ (done ++ x ∷ [])
  put_behind held put = put ∙ ap (λ (l : List X). l ++ x ∷ []) held ∙ append_assoc to done (x ∷ [])

  pub left_behind : all ≡ done ++ left → all ≡ (done ++ x ∷ []) ++ rest
  left_behind held = held ∙ ap (λ (l : List X). done ++ l) is ∙ sym (append_assoc done (x ∷ []) rest)
