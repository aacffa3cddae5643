-- The protector at a place of a list, and what is left of the list when a file of it goes.
use Rattle.std.proofs.Common.{rules, ◌≡◌, ◌≢◌, ◌⊎◌, inl, inr, ⊎_elim, ◌<◌, ◌+◌, ℕ, zero, suc, List, [], ◌∷◌, ◌++◌, length, take, drop, slice_set, slice_index_or, refl, sym, ◌∙◌, ap, subst, arith, length-append}
use Rattle.std.specs.List.{Contains}
use Rattle.std.proofs.lemmas.List.Elements.{Contains-append_left, Contains-append_right, Contains-append_cases}
use Rattle.ls_board.specs.declared.action.Action.{Action}
use Rattle.ls_formats.specs.declared.parts.Parts.{Parts}
use Rattle.ls_protector.specs.Parts.{first_removed, without_first}
use Rattle.ls_standing.proofs.ContainsLemmas.{at_first, behind_first, first_or_behind, none_in}
use Rattle.ls_turn.specs.Agreeing.{files_of}
use Rattle.ls_tidying.specs.Tidying.{left_with, removal_at, tidied_at, without_at}
use Rattle.ls_tidying.proofs.TidyingLemmas.{first_and}

-- ---- by place

module _ (q d : Parts) where
  pub removal_is : (ps : List Parts) (i : ℕ) → i < length ps → q ≡ slice_index_or ps i d → removal_at ps i ≡ first_removed q.names
  removal_is [] i within is = absurd (omega (arith, within))
  removal_is (p ∷ rest) zero within is = ap (λ (x : Parts). first_removed x.names) (sym is)
  removal_is (p ∷ rest) (suc i) within is = removal_is rest i (omega (arith, within)) is

  -- its files are among those of all
  pub its_files : (ps : List Parts) (i : ℕ) → i < length ps → q ≡ slice_index_or ps i d → (n : List ℕ) → Contains q.names n → Contains (files_of ps) n
  its_files [] i within is n has = absurd (omega (arith, within))
  its_files (p ∷ rest) zero within is n has = Contains-append_left p.names (files_of rest) n (subst (λ (x : Parts). Contains x.names n) is has)
  its_files (p ∷ rest) (suc i) within is n has = Contains-append_right p.names (files_of rest) n (its_files rest i (omega (arith, within)) is n has)

  -- some of its files are left
  pub set_is : (ps : List Parts) (i : ℕ) (n : List ℕ) (names : List (List ℕ)) → i < length ps → q ≡ slice_index_or ps i d → without_first q.names ≡ n ∷ names
      → slice_set ps i (record q { names = without_first q.names }) ≡ tidied_at ps i
  set_is [] i n names within is left = absurd (omega (arith, within))
  set_is (p ∷ rest) zero n names within is left =
      let same : without_first p.names ≡ n ∷ names = ap (λ (x : Parts). without_first x.names) (sym is) ∙ left in
      ap (λ (x : Parts). record x { names = without_first x.names } ∷ rest) is
      ∙ ap (λ (l : List (List ℕ)). record p { names = l } ∷ rest) same
      ∙ ap (λ (l : List (List ℕ)). left_with p l rest) (sym same)
  set_is (p ∷ rest) (suc i) n names within is left = ap (λ (l : List Parts). p ∷ l) (set_is rest i n names (omega (arith, within)) is left)

  -- none is left
  pub gone_is : (ps : List Parts) (i : ℕ) → i < length ps → q ≡ slice_index_or ps i d → without_first q.names ≡ [] → tidied_at ps i ≡ without_at ps i
  gone_is [] i within is left = refl
  gone_is (p ∷ rest) zero within is left =
      ap (λ (l : List (List ℕ)). left_with p l rest) (ap (λ (x : Parts). without_first x.names) (sym is) ∙ left)
  gone_is (p ∷ rest) (suc i) within is left = ap (λ (l : List Parts). p ∷ l) (gone_is rest i (omega (arith, within)) is left)

-- without the one at the place
without_suc : (ps : List Parts) (i : ℕ) → i < length ps → take i ps ++ drop (suc i) ps ≡ without_at ps i
without_suc [] i within = absurd (omega (arith, within))
without_suc (p ∷ rest) zero within = refl
without_suc (p ∷ rest) (suc i) within = ap (λ (l : List Parts). p ∷ l) (without_suc rest i (omega (arith, within)))

pub without_is : (ps : List Parts) (i j : ℕ) → j ≡ suc i → i < length ps → take i ps ++ drop j ps ≡ without_at ps i
without_is ps i j next within = subst (λ (k : ℕ). take i ps ++ drop k ps ≡ without_at ps i) (sym next) (without_suc ps i within)

-- whatever stands there
pub without_set : (ps : List Parts) (i : ℕ) (q : Parts) → without_at (slice_set ps i q) i ≡ without_at ps i
without_set [] i q = refl
without_set (p ∷ rest) zero q = refl
without_set (p ∷ rest) (suc i) q = ap (λ (l : List Parts). p ∷ l) (without_set rest i q)

-- ---- the files that are left

left_files : (p : Parts) (names : List (List ℕ)) (rest : List Parts) → files_of (left_with p names rest) ≡ names ++ files_of rest
left_files p [] rest = refl
left_files p (n ∷ names) rest = refl

-- they were there before
pub fewer_files : (ps : List Parts) (i : ℕ) (n : List ℕ) → Contains (files_of (tidied_at ps i)) n → Contains (files_of ps) n
fewer_files [] i n has = has
fewer_files (p ∷ rest) zero n has = by p.names refl
  where
    by : (names : List (List ℕ)) → p.names ≡ names → Contains (p.names ++ files_of rest) n
    by [] none = Contains-append_right p.names (files_of rest) n
        (subst (λ (l : List (List ℕ)). Contains l n) (left_files p [] rest) (subst (λ (l : List (List ℕ)). Contains (files_of (left_with p (without_first l) rest)) n) none has))
    by (m ∷ names) some =
        let within = subst (λ (l : List (List ℕ)). Contains l n) (left_files p names rest) (subst (λ (l : List (List ℕ)). Contains (files_of (left_with p (without_first l) rest)) n) some has) in
        subst (λ (l : List (List ℕ)). Contains (l ++ files_of rest) n) (sym some) (behind_first m (names ++ files_of rest) n within)
fewer_files (p ∷ rest) (suc i) n has = ⊎_elim
    (λ its. Contains-append_left p.names (files_of rest) n its)
    (λ behind. Contains-append_right p.names (files_of rest) n (fewer_files rest i n behind))
    (Contains-append_cases p.names (files_of (tidied_at rest i)) n has)

-- all but the first of the one are left
pub more_files : (q d : Parts) (ps : List Parts) (i : ℕ) → i < length ps → q ≡ slice_index_or ps i d → (n : List ℕ) → Contains (files_of ps) n → Contains (first_and q.names (files_of (tidied_at ps i))) n
more_files q d [] i within is n has = absurd (omega (arith, within))
more_files q d (p ∷ rest) zero within is n has = subst (λ (x : Parts). Contains (first_and x.names (files_of (tidied_at (p ∷ rest) 0))) n) (sym is) (by p.names refl)
  where
    by : (names : List (List ℕ)) → p.names ≡ names → Contains (first_and p.names (files_of (left_with p (without_first p.names) rest))) n
    by [] none = subst (λ (l : List (List ℕ)). Contains (first_and l (files_of (left_with p (without_first l) rest))) n) (sym none) (subst (λ (l : List (List ℕ)). Contains (l ++ files_of rest) n) none has)
    by (m ∷ names) some =
        let was = subst (λ (l : List (List ℕ)). Contains (l ++ files_of rest) n) some has in
        subst (λ (l : List (List ℕ)). Contains (first_and l (files_of (left_with p (without_first l) rest))) n) (sym some)
        (subst (λ (l : List (List ℕ)). Contains (m ∷ l) n) (sym (left_files p names rest)) was)
more_files q d (p ∷ rest) (suc i) within is n has = ⊎_elim
    (λ its. in_front q.names p.names (files_of (tidied_at rest i)) (Contains-append_left p.names (files_of (tidied_at rest i)) n its))
    (λ behind. between q.names p.names (files_of (tidied_at rest i)) (more_files q d rest i (omega (arith, within)) is n behind))
    (Contains-append_cases p.names (files_of rest) n has)
  where
    in_front : (names front l : List (List ℕ)) → Contains (front ++ l) n → Contains (first_and names (front ++ l)) n
    in_front [] front l has = has
    in_front (m ∷ names) front l has = behind_first m (front ++ l) n has

    between : (names front l : List (List ℕ)) → Contains (first_and names l) n → Contains (first_and names (front ++ l)) n
    between [] front l has = Contains-append_right front l n has
    between (m ∷ names) front l has = ⊎_elim
        (λ (e : m ≡ n). (0, omega arith, e))
        (λ (k : Contains l n). behind_first m (front ++ l) n (Contains-append_right front l n k))
        (first_or_behind m l n has)

-- ---- how much is left

pub less_left : (ps : List Parts) (i : ℕ) → i < length ps → length (tidied_at ps i) + length (files_of (tidied_at ps i)) < length ps + length (files_of ps)
less_left [] i within = absurd (omega (arith, within))
less_left (p ∷ rest) zero within = by p.names refl
  where
    by : (names : List (List ℕ)) → p.names ≡ names
        → length (left_with p (without_first p.names) rest) + length (files_of (left_with p (without_first p.names) rest)) < suc (length rest) + length (p.names ++ files_of rest)
    by [] none = subst (λ (l : List (List ℕ)). length (left_with p (without_first l) rest) + length (files_of (left_with p (without_first l) rest)) < suc (length rest) + length (l ++ files_of rest)) (sym none) (omega arith)
    by (m ∷ []) one = subst (λ (l : List (List ℕ)). length (left_with p (without_first l) rest) + length (files_of (left_with p (without_first l) rest)) < suc (length rest) + length (l ++ files_of rest)) (sym one) (omega arith)
    by (m ∷ k ∷ names) more = subst (λ (l : List (List ℕ)). length (left_with p (without_first l) rest) + length (files_of (left_with p (without_first l) rest)) < suc (length rest) + length (l ++ files_of rest)) (sym more)
        (omega (arith, length-append (k ∷ names) (files_of rest), length-append (m ∷ k ∷ names) (files_of rest)))
less_left (p ∷ rest) (suc i) within =
    let less = less_left rest i (omega (arith, within)) in
    omega (arith, less, length-append p.names (files_of (tidied_at rest i)), length-append p.names (files_of rest))

-- while files of the one are left it stands where it stood
pub there_still : (q : Parts) (ps : List Parts) (i : ℕ) → length (slice_set ps i q) ≡ length ps
there_still q [] i = refl
there_still q (p ∷ rest) zero = refl
there_still q (p ∷ rest) (suc i) = ap suc (there_still q rest i)
