-- The pending tokens that are left.
use Rattle.std.proofs.Common.{◌≡◌, ◌≢◌, ◌⊎◌, inl, inr, ⊎_elim, ◌≤◌, ◌+◌, ◌-◌, not, ◌||◌, ℕ, zero, suc, Bool, true, false, cond, List, [], ◌∷◌, ◌++◌, map, take, drop, length, length-drop, refl, sym, ◌∙◌, ap, subst, arith}
use Rattle.std.specs.Prelude.{◌==◌, filter}
use Rattle.std.specs.List.{Contains, list_any}
use Rattle.std.proofs.lemmas.Bool.{eq-eqb, eqb-true, ne_eqb}
use Rattle.ls_edits.proofs.FilterLemmas.{filtered_in}
use Rattle.ls_record.specs.Rows.{Pairs, has}
use Rattle.ls_standing.proofs.ContainsLemmas.{at_first, behind_first, of_map}
use Rattle.ls_standing.proofs.PairLemmas.{each_in}
use Rattle.ls_turn.specs.declared.session.Pending.{Pending}
use Rattle.ls_turn.specs.Agreeing.{pending_token}
use Rattle.ls_turn.specs.Waiting.{those_of}
use Rattle.ls_vault.specs.declared.token.PendingToken.{PendingToken}
use Rattle.ls_vault.specs.Tokens.{without_first}
use Rattle.ls_activating.specs.Counting.{token_ids, without_ids}
use Rattle.ls_activating.proofs.ListLemmas.{one_of}
use Rattle.ls_activating.proofs.MayLemmas.{in_take}

-- those without the first few of a user
abbrev pub left_of : ℕ → ℕ → List Pending → List Pending
left_of zero user ps = ps
left_of (suc k) user [] = []
left_of (suc k) user (p ∷ ps) = cond (p.user == user) (left_of k user ps) (p ∷ left_of (suc k) user ps)

-- so the machine has them
pub as_machine : (k user : ℕ) (ps : List Pending) → map pending_token (left_of k user ps) ≡ without_first k (map pending_token ps) user
as_machine zero user ps = refl
as_machine (suc k) user [] = refl
as_machine (suc k) user (p ∷ ps) = by (p.user == user) (as_machine k user ps) (as_machine (suc k) user ps)
  where
    by : (b : Bool) → map pending_token (left_of k user ps) ≡ without_first k (map pending_token ps) user → map pending_token (left_of (suc k) user ps) ≡ without_first (suc k) (map pending_token ps) user
        → map pending_token (cond b (left_of k user ps) (p ∷ left_of (suc k) user ps)) ≡ cond b (without_first k (map pending_token ps) user) (pending_token p ∷ without_first (suc k) (map pending_token ps) user)
    by true one more = one
    by false one more = ap (λ (l : List PendingToken). pending_token p ∷ l) more

-- those of the user then
pub those_left : (k user : ℕ) (ps : List Pending) → those_of user (left_of k user ps) ≡ drop k (those_of user ps)
those_left zero user ps = refl
those_left (suc k) user [] = refl
those_left (suc k) user (p ∷ ps) = by (p.user == user) refl (those_left k user ps) (those_left (suc k) user ps)
  where
    by : (b : Bool) → (p.user == user) ≡ b → those_of user (left_of k user ps) ≡ drop k (those_of user ps) → those_of user (left_of (suc k) user ps) ≡ drop (suc k) (those_of user ps)
        → those_of user (cond b (left_of k user ps) (p ∷ left_of (suc k) user ps)) ≡ drop (suc k) (cond b (p ∷ those_of user ps) (those_of user ps))
    by true is one more = one
    by false is one more = ap (λ (b : Bool). cond b (p ∷ those_of user (left_of (suc k) user ps)) (those_of user (left_of (suc k) user ps))) is ∙ more

-- ---- by their ids

filter_alike : {X : Type 0} (p q : X → Bool) (xs : List X) → ((x : X) → Contains xs x → p x ≡ q x) → filter p xs ≡ filter q xs
filter_alike p q [] same = refl
filter_alike {X} p q (x ∷ xs) same = λ i. cond (same x (at_first x xs) i) (x ∷ filter_alike p q xs (λ y here. same y (behind_first x xs y here)) i) (filter_alike p q xs (λ y here. same y (behind_first x xs y here)) i)

filter_every : {X : Type 0} (xs : List X) → filter (λ (x : X). true) xs ≡ xs
filter_every [] = refl
filter_every {X} (x ∷ xs) = ap (λ (l : List X). x ∷ l) (filter_every xs)

abbrev Other : Pending → Pending → Type 0
Other p q = p.id ≢ q.id

-- an id of one of these is none of one that differs from all
none_has : (k user : ℕ) (ps : List Pending) (p : Pending) → ((q : Pending) → Contains ps q → p.id ≢ q.id) → has (token_ids (take k (those_of user ps))) p.id ≡ false
none_has k user ps p other = by (has (token_ids (take k (those_of user ps))) p.id) refl
  where
    by : (b : Bool) → has (token_ids (take k (those_of user ps))) p.id ≡ b → b ≡ false
    by false is = refl
    by true is =
        let at = of_map (λ (q : Pending). q.id) (take k (those_of user ps)) p.id (one_of (token_ids (take k (those_of user ps))) p.id is) in
        absurd (other at.0 (filtered_in (λ (q : Pending). q.user == user) ps at.0 (in_take k (those_of user ps) at.0 at.1)).0 (sym at.2))

pub by_ids : (k user : ℕ) (ps : List Pending) → Pairs Other ps → without_ids (token_ids (take k (those_of user ps))) ps ≡ left_of k user ps
by_ids zero user ps once = filter_every ps
by_ids (suc k) user [] once = refl
by_ids (suc k) user (p ∷ ps) once = by (p.user == user) (by_ids k user ps once.1) (by_ids (suc k) user ps once.1)
  where
    apart : (q : Pending) → Contains ps q → p.id ≢ q.id
    apart q here = each_in (Other p) ps q once.0 here

    by : (b : Bool) → without_ids (token_ids (take k (those_of user ps))) ps ≡ left_of k user ps → without_ids (token_ids (take (suc k) (those_of user ps))) ps ≡ left_of (suc k) user ps
        → without_ids (token_ids (take (suc k) (cond b (p ∷ those_of user ps) (those_of user ps)))) (p ∷ ps) ≡ cond b (left_of k user ps) (p ∷ left_of (suc k) user ps)
    by true one more =
        let ids = token_ids (take k (those_of user ps)) in
        ap (λ (c : Bool). cond (not (c || has ids p.id)) (p ∷ without_ids (p.id ∷ ids) ps) (without_ids (p.id ∷ ids) ps)) (eq-eqb p.id p.id refl)
        ∙ (filter_alike (λ q. not ((p.id == q.id) || has ids q.id)) (λ q. not (has ids q.id)) ps (λ q here. ap (λ (c : Bool). not (c || has ids q.id)) (ne_eqb p.id q.id (apart q here)))
        ∙ one)
    by false one more =
        let ids = token_ids (take (suc k) (those_of user ps)) in
        ap (λ (c : Bool). cond (not c) (p ∷ without_ids ids ps) (without_ids ids ps)) (none_has (suc k) user ps p apart) ∙ ap (λ (l : List Pending). p ∷ l) more

-- as many fewer are of the user
pub fewer_left : (k user : ℕ) (ps : List Pending) → k ≤ length (those_of user ps) → length (those_of user (left_of k user ps)) + k ≡ length (those_of user ps)
fewer_left k user ps most =
    let e = ap (λ (l : List Pending). length l) (those_left k user ps) in
    let d = length-drop k (those_of user ps) in
    omega (arith, e, d, most)
