-- The ids of tokens, and what is left of retired protectors.
use Rattle.std.proofs.Common.{◌≡◌, ◌⊎◌, inl, inr, ⊎_elim, ℕ, Bool, true, false, List, [], ◌∷◌, refl, sym, ap, subst, ◌∙◌}
use Rattle.std.specs.Prelude.{Result, Ok, Err, OnOk}
use Rattle.std.specs.List.{Contains, list_any}
use Rattle.ls_formats.specs.declared.parts.Parts.{Parts}
use Rattle.ls_placing.specs.Placing.{AreTakenIds, SaysId}
use Rattle.ls_record.specs.Rows.{has}
use Rattle.ls_standing.proofs.ContainsLemmas.{any_contained, at_first, behind_first, first_or_behind, in_flat, none_in, of_flat}
use Rattle.ls_sweep.specs.Sifted.{AreThose}
use Rattle.ls_turn.specs.declared.session.Pending.{Pending}
use Rattle.ls_turn.specs.declared.session.Session.{Session}
use Rattle.ls_turn.specs.Agreeing.{files_of, retired_files}
use Rattle.ls_turn.specs.Refusing.{pending_for}
use Rattle.ls_activating.specs.Activating.{IsTidyFor, SayNone}
use Rattle.ls_activating.specs.Counting.{chosen_for, count_for}
use Rattle.ls_activating.proofs.ListLemmas.{any_found, has_one, one_of}
use Rattle.ls_activating.proofs.MayLemmas.{in_take}

-- ---- whether an id is said

module _ (names : List (List ℕ)) (taken : List ℕ) (are : AreTakenIds names [] taken) (tokens : List Pending) where
  pub none_said : (b : Bool) → b ≡ list_any (λ p. has taken p.id) tokens → b ≡ false → SayNone names tokens
  none_said b same is p here says =
      let found = any_contained (λ (q : Pending). has taken q.id) tokens p here (has_one taken p.id (are.each p.id (inr says))) in
      let bad : true ≡ false = sym found ∙ (sym same ∙ is) in
      absurd (cc)

  pub one_said : (b : Bool) → b ≡ list_any (λ p. has taken p.id) tokens → b ≡ true → ¬ SayNone names tokens
  one_said b same is none =
      let its = any_found (λ (q : Pending). has taken q.id) tokens (sym same ∙ is) in
      ⊎_elim (λ (no : Contains [] its.0.id). none_in its.0.id no) (λ says. none its.0 its.1 says) (are.only its.0.id (one_of taken its.0.id its.2))

-- ---- fewer files

-- those that are left were there
those_in : {X : Type 0} (P : X → Type 0) (all left : List X) → AreThose P all left → (x : X) → Contains left x → Contains all x
those_in P [] left are x here = absurd (none_in x (subst (λ (l : List _). Contains l x) are here))
those_in P (y ∷ all) left (inl gone) x here = behind_first y all x (those_in P all left gone.1 x here)
those_in {X} P (y ∷ all) left (inr (behind, is, same, are)) x here =
    ⊎_elim (λ (e : y ≡ x). subst (λ (z : X). Contains (y ∷ all) z) e (at_first y all)) (λ later. behind_first y all x (those_in P all behind are x later))
    (first_or_behind y behind x (subst (λ (l : List X). Contains l x) same here))

pub files_in : (P : Parts → Type 0) (all left : List Parts) → AreThose P all left → (n : List ℕ) → Contains (files_of left) n → Contains (files_of all) n
files_in P all left are n here =
    let its = of_flat (λ (p : Parts). p.names) left n here in
    in_flat (λ (p : Parts). p.names) all its.0 n (those_in P all left are its.0 its.1) its.2

says_in : (all left : List (List ℕ)) → ((n : List ℕ) → Contains left n → Contains all n) → (id : ℕ) → SaysId left id → SaysId all id
says_in all left within id (name, is, has, same) = (name, is, within _ has, same)

-- no file says the id of a token, nor those of the others
module _ {T E : Type 0} (mid new : List (List ℕ)) (one : Pending) (rest tokens : List Pending) (same : tokens ≡ one ∷ rest) (gone : ¬ SaysId mid one.id) where
  pub none_more : (r : Result T E) → OnOk r ((n : List ℕ) → Contains new n → Contains mid n) → OnOk r (SayNone new rest) → OnOk r (SayNone new tokens)
  none_more (Ok t) fewer none = none_then
    where
      none_then : SayNone new tokens
      none_then p here says =
          ⊎_elim (λ (e : one ≡ p). gone (says_in mid new fewer one.id (subst (λ (q : Pending). SaysId new q.id) (sym e) says))) (λ later. none p later says)
          (first_or_behind one rest p (subst (λ (l : List Pending). Contains l p) same here))
  none_more (Err e) fewer none = tt

pub fewer_more : {T E : Type 0} (r : Result T E) (old mid new : List (List ℕ)) → ((n : List ℕ) → Contains mid n → Contains old n)
    → OnOk r ((n : List ℕ) → Contains new n → Contains mid n) → OnOk r ((n : List ℕ) → Contains new n → Contains old n)
fewer_more (Ok t) old mid new first then = λ n here. first n (then n here)
fewer_more (Err e) old mid new first then = tt

pub none_of_none : (names : List (List ℕ)) (tokens : List Pending) → tokens ≡ [] → SayNone names tokens
none_of_none names tokens none p here says = none_in p (subst (λ (l : List Pending). Contains l p) none here)

-- the tokens that are chosen are among those that wait
pub chosen_say : (x : Session) (user : ℕ) (tokens : List Pending) → tokens ≡ chosen_for x user → IsTidyFor x user → SayNone (retired_files x) tokens
chosen_say x user tokens is tidy p here =
    tidy p (in_take (count_for x user) (pending_for x user) p (subst (λ (l : List Pending). Contains l p) is here))
