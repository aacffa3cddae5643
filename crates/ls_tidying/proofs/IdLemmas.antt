-- The retired protectors of one id.
use Rattle.std.proofs.Common.{◌≡◌, ◌≢◌, inl, inr, ⊎_elim, ◌<◌, ◌≤◌, ℕ, zero, suc, List, [], ◌∷◌, ◌++◌, ◌-◌, length, take, drop, slice_index_or, refl, sym, ◌∙◌, ap, subst, arith}
use Rattle.std.specs.Prelude.{Bool, true, false, MatchBool, Result, Ok, Err, OnOk}
use Rattle.std.specs.List.{Contains}
use Rattle.std.proofs.lemmas.List.{take_all}
use Rattle.std.proofs.lemmas.List.Elements.{Contains-append_cases}
use Rattle.ls_formats.specs.declared.parts.Parts.{Parts}
use Rattle.ls_formats.specs.PartNames.{part_name_text}
use Rattle.ls_placing.specs.Placing.{SaysId, SaysOne}
use Rattle.ls_standing.proofs.ContainsLemmas.{at_first, behind_first, first_or_behind, none_in}
use Rattle.ls_sweep.specs.Sifted.{AreThose}
use Rattle.ls_turn.specs.Agreeing.{files_of}
use Rattle.ls_tidying.specs.Tidying.{LeftFrom, SaysNot, without_at}

-- ---- whether a name says it

-- the first or another
pub says_behind : (n : List ℕ) (names : List (List ℕ)) (id : ℕ) → SaysId names id → SaysId (n ∷ names) id
says_behind n names id (name, is, has, same) = (name, is, behind_first n names _ has, same)

pub says_neither : (n : List ℕ) (names : List (List ℕ)) (id : ℕ) → ¬ SaysId (n ∷ []) id → ¬ SaysId names id → ¬ SaysId (n ∷ names) id
says_neither n names id one rest (name, is, has, same) = ⊎_elim
    (λ (e : n ≡ _). one (name, is, subst (Contains (n ∷ [])) e (at_first n []), same))
    (λ (k : Contains names _). rest (name, is, k, same))
    (first_or_behind n names _ has)

-- one of the others
abbrev pub others : List (List ℕ) → List (List ℕ)
others names = take (length names - 1) (drop 1 names)

abbrev pub Decides : Bool → List (List ℕ) → ℕ → Type 0
Decides b names id = MatchBool b (SaysId names id) (¬ SaysId names id)

pub says_rest : (names : List (List ℕ)) (n : List ℕ) (id : ℕ) (b one : Bool) → 1 ≤ length names → n ≡ slice_index_or names 0 n → one ≡ false → Decides one (n ∷ []) id
    → Decides b (others names) id → Decides b names id
says_rest [] n id b one some is none first rest = absurd (omega (arith, some))
says_rest (m ∷ names) n id b one some is none first rest = by b (subst (λ (l : List (List ℕ)). Decides b l id) (take_all (length (m ∷ names) - 1) names (omega arith)) rest)
  where
    not_first : ¬ SaysId (m ∷ []) id
    not_first = subst (λ (l : List ℕ). ¬ SaysId (l ∷ []) id) is (subst (λ (c : Bool). Decides c (n ∷ []) id) none first)

    by : (c : Bool) → Decides c names id → Decides c (m ∷ names) id
    by true its = says_behind m names id its
    by false its = says_neither m names id not_first its

-- ---- the files of one

-- it stands where it stood
pub is_left : (ps items : List Parts) (i : ℕ) (gone : Bool) → gone ≡ false → MatchBool gone (items ≡ without_at ps i) ((i < length items) × (without_at items i ≡ without_at ps i))
    → (i < length items) × (without_at items i ≡ without_at ps i)
is_left ps items i gone is which = subst (λ (b : Bool). MatchBool b (items ≡ without_at ps i) ((i < length items) × (without_at items i ≡ without_at ps i))) is which

on_ok : {T E P Q : Type 0} (r : Result T E) → (P → Q) → OnOk r P → OnOk r Q
on_ok (Ok t) f h = f h
on_ok (Err e) f h = tt

pub still_gone : {T E : Type 0} (r : Result T E) (then a b : List Parts) → a ≡ b → OnOk r (then ≡ a) → OnOk r (then ≡ b)
still_gone (Ok t) then a b same left = left ∙ same
still_gone (Err e) then a b same left = tt

-- ---- those that are left

pub left_none : (id : ℕ) (ps : List Parts) (i : ℕ) → length ps ≤ i → LeftFrom id i ps ps
left_none id [] zero past = refl
left_none id [] (suc i) past = refl
left_none id (p ∷ ps) zero past = absurd (omega (arith, past))
left_none id (p ∷ ps) (suc i) past = (ps, refl, left_none id ps i (omega (arith, past)))

-- one that doesn't say it stays
pub left_skip : (id : ℕ) (q d : Parts) (ps left : List Parts) (i : ℕ) → i < length ps → q ≡ slice_index_or ps i d → SaysNot id q → LeftFrom id (suc i) ps left → LeftFrom id i ps left
left_skip id q d [] left i within is not_it rest = absurd (omega (arith, within))
left_skip id q d (p ∷ ps) left zero within is not_it (behind, same, rest) = inr (behind, subst (SaysNot id) is not_it, same, rest)
left_skip id q d (p ∷ ps) left (suc i) within is not_it (behind, same, rest) = (behind, same, left_skip id q d ps behind i (omega (arith, within)) is not_it rest)

-- one that says it is gone
pub left_clear : (id : ℕ) (q d : Parts) (ps left : List Parts) (i : ℕ) → i < length ps → q ≡ slice_index_or ps i d → SaysId q.names id → LeftFrom id i (without_at ps i) left → LeftFrom id i ps left
left_clear id q d [] left i within is it rest = absurd (omega (arith, within))
left_clear id q d (p ∷ ps) left zero within is it rest = inl ((λ not_it. not_it (subst (λ (x : Parts). SaysId x.names id) is it)), rest)
left_clear id q d (p ∷ ps) left (suc i) within is it (behind, same, rest) = (behind, same, left_clear id q d ps behind i (omega (arith, within)) is it rest)

-- one less
pub less_without : (ps : List Parts) (i : ℕ) → i < length ps → suc (length (without_at ps i)) ≡ length ps
less_without [] i within = absurd (omega (arith, within))
less_without (p ∷ ps) zero within = refl
less_without (p ∷ ps) (suc i) within = ap suc (less_without ps i (omega (arith, within)))

-- no file that is left says it
pub none_says : (id : ℕ) (ps left : List Parts) → AreThose (SaysNot id) ps left → ¬ SaysId (files_of left) id
none_says id [] left none (name, is, has, same) = none_in (part_name_text name) (subst (λ (l : List Parts). Contains (files_of l) (part_name_text name)) none has)
none_says id (p ∷ ps) left (inl gone) says = none_says id ps left gone.1 says
none_says id (p ∷ ps) left (inr (behind, not_it, same, rest)) (name, is, has, id_is) = ⊎_elim
    (λ its. not_it (name, is, its, id_is))
    (λ later. none_says id ps behind rest (name, is, later, id_is))
    (Contains-append_cases p.names (files_of behind) (part_name_text name) (subst (λ (l : List Parts). Contains (files_of l) (part_name_text name)) same has))

-- ---- the place

pub is_past : (now ps : List Parts) (i : ℕ) (b : Bool) → now ≡ ps → b ≡ true → MatchBool b (length now ≤ i) (i < length now) → length ps ≤ i
is_past now ps i b same is which = subst (λ (l : List Parts). length l ≤ i) same (subst (λ (c : Bool). MatchBool c (length now ≤ i) (i < length now)) is which)

pub is_there : (now ps : List Parts) (i : ℕ) (b : Bool) → now ≡ ps → b ≡ false → MatchBool b (length now ≤ i) (i < length now) → i < length ps
is_there now ps i b same is which = subst (λ (l : List Parts). i < length l) same (subst (λ (c : Bool). MatchBool c (length now ≤ i) (i < length now)) is which)

-- whether the one says it
pub decides_names : (b : Bool) (names : List (List ℕ)) (p q : Parts) (id : ℕ) → names ≡ p.names → p ≡ q → Decides b names id → Decides b q.names id
decides_names b names p q id its same decides = subst (λ (x : Parts). Decides b x.names id) same (subst (λ (l : List (List ℕ)). Decides b l id) its decides)

module _ {T E : Type 0} (r : Result T E) (id : ℕ) (q d : Parts) (ps left : List Parts) (i : ℕ) (within : i < length ps) (is : q ≡ slice_index_or ps i d) (b : Bool) (decides : Decides b q.names id) where
  pub on_skip : (j : ℕ) → j ≡ suc i → b ≡ false → OnOk r (LeftFrom id j ps left) → OnOk r (LeftFrom id i ps left)
  on_skip j next none rest = on_ok r (λ l. left_skip id q d ps left i within is (subst (λ (c : Bool). Decides c q.names id) none decides) (subst (λ (k : ℕ). LeftFrom id k ps left) next l)) rest

  pub on_clear : (items : List Parts) → items ≡ without_at ps i → b ≡ true → OnOk r (LeftFrom id i items left) → OnOk r (LeftFrom id i ps left)
  on_clear items gone it rest = on_ok r (λ l. left_clear id q d ps left i within is (subst (λ (c : Bool). Decides c q.names id) it decides) (subst (λ (k : List Parts). LeftFrom id i k left) gone l)) rest
