-- Lists of users, of tokens and of numbers, measured.
use Rattle.std.proofs.Common.{◌≡◌, ◌≢◌, ◌⊎◌, inl, inr, ◌≤◌, ◌<◌, ◌+◌, ℕ, zero, suc, Bool, true, false, not, cond, eqb, eq-eqb, ltb, List, [], ◌∷◌, ◌++◌, None, Some, length, refl, sym, ◌∙◌, ap, subst, arith}
use Rattle.std.proofs.lemmas.Bool.Decides.{nat_tests}
use Rattle.std.specs.Prelude.{◌||◌, map, take, filter, flat_map, is_some}
use Rattle.std.specs.List.{AllByRecursion}
use Rattle.ls_promises.proofs.Lookups.{eqb_is, eqb_differs, not_eqb}
use Rattle.ls_promises.specs.Soundness.{IsAscending}
use Rattle.ls_vault.specs.Tokens.{pending_of, without_first, activated}
use Rattle.ls_vault.specs.Users.{user_of, changed, with_user, without_user}
use Rattle.ls_arming.specs.Numbers.{contains, with_number, with_numbers, without_number}
use Rattle.ls_vault.specs.declared.token.PendingToken.{PendingToken}
use Rattle.ls_vault.specs.declared.token.Token.{Token}
use Rattle.ls_vault.specs.declared.user.User.{User}

or_elim : (a b : Bool) → (a || b) ≡ true → (a ≡ true) ⊎ (b ≡ true)
or_elim true b is = inl refl
or_elim false b is = inr is

pub or_true_left : (a b : Bool) → a ≡ true → (a || b) ≡ true
or_true_left true b is = is
or_true_left false b is = absurd (cc)

pub or_true_right : (a b : Bool) → b ≡ true → (a || b) ≡ true
or_true_right true b is = refl
or_true_right false b is = is

-- ---- numbers

-- P holds of each of them
abbrev pub Each : (ℕ → Type 0) → List ℕ → Type 0
Each P ns = (m : ℕ) → contains ns m ≡ true → P m

module _ (P : ℕ → Type 0) where
  each_head : (x : ℕ) (ns : List ℕ) → Each P (x ∷ ns) → P x
  each_head x ns all = all x (or_true_left (eqb x x) (contains ns x) (eq-eqb x x refl))

  each_tail : (x : ℕ) (ns : List ℕ) → Each P (x ∷ ns) → Each P ns
  each_tail x ns all m is = all m (or_true_right (eqb x m) (contains ns m) is)

  each_cons : (x : ℕ) (ns : List ℕ) → P x → Each P ns → Each P (x ∷ ns)
  each_cons x ns here rest m is = at_either (or_elim (eqb x m) (contains ns m) is)
    where
      at_either : (eqb x m ≡ true) ⊎ (contains ns m ≡ true) → P m
      at_either (inl this) = subst P (eqb_is x m this) here
      at_either (inr other) = rest m other

  each_nil : Each P []
  each_nil m is = absurd (cc)

  pub each_with : (ns : List ℕ) (n : ℕ) → Each P ns → P n → Each P (with_number ns n)
  each_with [] n all here = each_cons n [] here each_nil
  each_with (x ∷ ns) n all here = by_tests (ltb x n) (eqb x n) (each_with ns n (each_tail x ns all) here)
    where
      by_tests : (b d : Bool) → Each P (with_number ns n) → Each P (cond b (x ∷ with_number ns n) (cond d (x ∷ ns) (n ∷ x ∷ ns)))
      by_tests true d rest = each_cons x (with_number ns n) (each_head x ns all) rest
      by_tests false true rest = all
      by_tests false false rest = each_cons n (x ∷ ns) here all

  pub each_with_all : (more ns : List ℕ) → Each P ns → Each P more → Each P (with_numbers ns more)
  each_with_all [] ns all each = all
  each_with_all (n ∷ more) ns all each = each_with_all more (with_number ns n) (each_with ns n all (each_head n more each)) (each_tail n more each)

-- one that is left is another
pub without_contains : (ns : List ℕ) (n m : ℕ) → contains (without_number ns n) m ≡ true → (contains ns m ≡ true) × (m ≢ n)
without_contains [] n m is = absurd (cc)
without_contains (x ∷ ns) n m is = by_test (eqb x n) refl is (λ rest. without_contains ns n m rest)
  where
    by_test : (b : Bool) → eqb x n ≡ b → contains (cond (not b) (x ∷ without_number ns n) (without_number ns n)) m ≡ true
        → (contains (without_number ns n) m ≡ true → (contains ns m ≡ true) × (m ≢ n)) → ((eqb x m || contains ns m) ≡ true) × (m ≢ n)
    by_test true same is rest = let h = rest is in (or_true_right (eqb x m) (contains ns m) h.0, h.1)
    by_test false other is rest = at_either (or_elim (eqb x m) (contains (without_number ns n) m) is)
      where
        at_either : (eqb x m ≡ true) ⊎ (contains (without_number ns n) m ≡ true) → ((eqb x m || contains ns m) ≡ true) × (m ≢ n)
        at_either (inl this) = (or_true_left (eqb x m) (contains ns m) this, λ back. eqb_differs x n other (eqb_is x m this ∙ back))
        at_either (inr left) = let h = rest left in (or_true_right (eqb x m) (contains ns m) h.0, h.1)

-- ---- numbers of users

abbrev pub numbers : List User → List ℕ
numbers users = map (λ u. u.number) users

pub numbers-changed : (users : List User) (n : ℕ) (f : User → User) → ((u : User) → (f u).number ≡ u.number) → numbers (changed users n f) ≡ numbers users
numbers-changed [] n f keeps = refl
numbers-changed (u ∷ users) n f keeps = by_test (eqb u.number n) (numbers-changed users n f keeps)
  where
    by_test : (b : Bool) → numbers (changed users n f) ≡ numbers users → numbers (cond b (f u ∷ users) (u ∷ changed users n f)) ≡ u.number ∷ numbers users
    by_test true rest = ap (λ k. k ∷ numbers users) (keeps u)
    by_test false rest = ap (λ (ks : List ℕ). u.number ∷ ks) rest

all_with : (P : ℕ → Type 0) (users : List User) (user : User) → AllByRecursion P (numbers users) → P user.number → AllByRecursion P (numbers (with_user users user))
all_with P [] user all here = (here, tt)
all_with P (u ∷ users) user all here = by_test (ltb u.number user.number) (all_with P users user all.1 here)
  where
    by_test : (b : Bool) → AllByRecursion P (numbers (with_user users user)) → AllByRecursion P (numbers (cond b (u ∷ with_user users user) (user ∷ u ∷ users)))
    by_test true rest = (all.0, rest)
    by_test false rest = (here, all)

pub all_less : (a b : ℕ) (ns : List ℕ) → a < b → AllByRecursion (λ m. b < m) ns → AllByRecursion (λ m. a < m) ns
all_less a b [] less all = tt
all_less a b (n ∷ ns) less all = (omega (arith, less, all.0), all_less a b ns less all.1)

pub ascending_with : (users : List User) (user : User) → IsAscending (numbers users) → user_of users user.number ≡ None → IsAscending (numbers (with_user users user))
ascending_with [] user asc none = (tt, tt)
ascending_with (u ∷ users) user asc none = by_tests (ltb u.number user.number) (eqb u.number user.number) refl refl none (λ rest. ascending_with users user asc.1 rest)
  where
    by_tests : (b d : Bool) → ltb u.number user.number ≡ b → eqb u.number user.number ≡ d → cond d (Some u) (user_of users user.number) ≡ None
        → (user_of users user.number ≡ None → IsAscending (numbers (with_user users user))) → IsAscending (numbers (cond b (u ∷ with_user users user) (user ∷ u ∷ users)))
    by_tests b true less same none rest = absurd (cc)
    by_tests true false less other none rest =
        let h : u.number < user.number = grind (arith, nat_tests, less) in
        (all_with (λ m. u.number < m) users user asc.0 h, rest none)
    by_tests false false less other none rest =
        let h : user.number < u.number = grind (arith, nat_tests, less, other) in
        ((h, all_less user.number u.number (numbers users) h asc.0), asc)

all_without : (P : ℕ → Type 0) (users : List User) (n : ℕ) → AllByRecursion P (numbers users) → AllByRecursion P (numbers (without_user users n))
all_without P [] n all = tt
all_without P (u ∷ users) n all = by_test (eqb u.number n) (all_without P users n all.1)
  where
    by_test : (b : Bool) → AllByRecursion P (numbers (without_user users n)) → AllByRecursion P (numbers (cond (not b) (u ∷ without_user users n) (without_user users n)))
    by_test true rest = rest
    by_test false rest = (all.0, rest)

pub ascending_without : (users : List User) (n : ℕ) → IsAscending (numbers users) → IsAscending (numbers (without_user users n))
ascending_without [] n asc = tt
ascending_without (u ∷ users) n asc = by_test (eqb u.number n) (ascending_without users n asc.1)
  where
    by_test : (b : Bool) → IsAscending (numbers (without_user users n)) → IsAscending (numbers (cond (not b) (u ∷ without_user users n) (without_user users n)))
    by_test true rest = rest
    by_test false rest = (all_without (λ m. u.number < m) users n asc.0, rest)

-- a number that is smaller than all isn't among them
pub not_among : (users : List User) (n : ℕ) → AllByRecursion (λ m. n < m) (numbers users) → user_of users n ≡ None
not_among [] n all = refl
not_among (u ∷ users) n all = by_test (eqb u.number n) refl (not_among users n all.1)
  where
    by_test : (b : Bool) → eqb u.number n ≡ b → user_of users n ≡ None → cond b (Some u) (user_of users n) ≡ None
    by_test true same rest = absurd (let e = eqb_is u.number n same in omega (arith, e, all.0))
    by_test false other rest = rest

-- ---- a sum over users

abbrev pub weigh : (User → ℕ) → List User → ℕ
weigh w [] = 0
weigh w (u ∷ users) = w u + weigh w users

module _ (w : User → ℕ) where
  pub weigh-changed : (users : List User) (n : ℕ) (f : User → User) (v : User) → user_of users n ≡ Some v → weigh w (changed users n f) + w v ≡ weigh w users + w (f v)
  weigh-changed [] n f v found = absurd (cc)
  weigh-changed (u ∷ users) n f v found = by_test (eqb u.number n) found (λ rest. weigh-changed users n f v rest)
    where
      by_test : (b : Bool) → cond b (Some u) (user_of users n) ≡ Some v → (user_of users n ≡ Some v → weigh w (changed users n f) + w v ≡ weigh w users + w (f v))
          → weigh w (cond b (f u ∷ users) (u ∷ changed users n f)) + w v ≡ w u + weigh w users + w (f v)
      by_test true found rest = let e : u ≡ v = cc in subst (λ x. w (f u) + weigh w users + w x ≡ w u + weigh w users + w (f x)) e (omega arith)
      by_test false found rest = let h = rest found in omega (arith, h)

  pub weigh-with : (users : List User) (user : User) → weigh w (with_user users user) ≡ w user + weigh w users
  weigh-with [] user = refl
  weigh-with (u ∷ users) user = by_test (ltb u.number user.number) (weigh-with users user)
    where
      by_test : (b : Bool) → weigh w (with_user users user) ≡ w user + weigh w users → weigh w (cond b (u ∷ with_user users user) (user ∷ u ∷ users)) ≡ w user + (w u + weigh w users)
      by_test true rest = omega (arith, rest)
      by_test false rest = refl

  pub weigh-without : (users : List User) (n : ℕ) → weigh w (without_user users n) ≤ weigh w users
  weigh-without [] n = omega arith
  weigh-without (u ∷ users) n = by_test (eqb u.number n) (weigh-without users n)
    where
      by_test : (b : Bool) → weigh w (without_user users n) ≤ weigh w users → weigh w (cond (not b) (u ∷ without_user users n) (without_user users n)) ≤ w u + weigh w users
      by_test true rest = omega (arith, rest)
      by_test false rest = omega (arith, rest)

pub length-changed : (users : List User) (n : ℕ) (f : User → User) → length (changed users n f) ≡ length users
length-changed [] n f = refl
length-changed (u ∷ users) n f = by_test (eqb u.number n) (length-changed users n f)
  where
    by_test : (b : Bool) → length (changed users n f) ≡ length users → length (cond b (f u ∷ users) (u ∷ changed users n f)) ≡ length (u ∷ users)
    by_test true rest = refl
    by_test false rest = ap suc rest

pub length-with : (users : List User) (user : User) → length (with_user users user) ≡ length users + 1
length-with [] user = refl
length-with (u ∷ users) user = by_test (ltb u.number user.number) (length-with users user)
  where
    by_test : (b : Bool) → length (with_user users user) ≡ length users + 1 → length (cond b (u ∷ with_user users user) (user ∷ u ∷ users)) ≡ length (u ∷ users) + 1
    by_test true rest = omega (arith, rest)
    by_test false rest = omega arith

pub length-without : (users : List User) (n : ℕ) → length (without_user users n) ≤ length users
length-without [] n = omega arith
length-without (u ∷ users) n = by_test (eqb u.number n) (length-without users n)
  where
    by_test : (b : Bool) → length (without_user users n) ≤ length users → length (cond (not b) (u ∷ without_user users n) (without_user users n)) ≤ length (u ∷ users)
    by_test true rest = omega (arith, rest)
    by_test false rest = omega (arith, rest)

-- ---- how often a number occurs

abbrev pub occurs : ℕ → List ℕ → ℕ
occurs id [] = 0
occurs id (x ∷ xs) = cond (eqb x id) 1 0 + occurs id xs

pub occurs-append : (id : ℕ) (xs ys : List ℕ) → occurs id (xs ++ ys) ≡ occurs id xs + occurs id ys
occurs-append id [] ys = omega arith
occurs-append id (x ∷ xs) ys = let h = occurs-append id xs ys in omega (arith, h)

pub not_contained : (id : ℕ) (xs : List ℕ) → contains xs id ≡ false → occurs id xs ≡ 0
not_contained id [] none = refl
not_contained id (x ∷ xs) none = by_test (eqb x id) none (λ rest. not_contained id xs rest)
  where
    by_test : (b : Bool) → (b || contains xs id) ≡ false → (contains xs id ≡ false → occurs id xs ≡ 0) → cond b 1 0 + occurs id xs ≡ 0
    by_test true none rest = absurd (cc)
    by_test false none rest = let h = rest none in omega (arith, h)

abbrev pub ids : List Token → List ℕ
ids tokens = map (λ t. t.id) tokens

abbrev pub all_ids : List User → List ℕ
all_ids users = flat_map (λ u. ids u.tokens) users

abbrev pub pending_ids : List PendingToken → List ℕ
pending_ids pending = map (λ p. p.id) pending

pub occurs_weigh : (id : ℕ) (users : List User) → occurs id (all_ids users) ≡ weigh (λ u. occurs id (ids u.tokens)) users
occurs_weigh id [] = refl
occurs_weigh id (u ∷ users) = let h = occurs_weigh id users in let k = occurs-append id (ids u.tokens) (all_ids users) in omega (arith, h, k)

pub ids-append : (ts us : List Token) → ids (ts ++ us) ≡ ids ts ++ ids us
ids-append [] us = refl
ids-append (t ∷ ts) us = ap (λ (xs : List ℕ). t.id ∷ xs) (ids-append ts us)

pub occurs_filter : (id : ℕ) (q : Token → Bool) (ts : List Token) → occurs id (ids (filter q ts)) ≤ occurs id (ids ts)
occurs_filter id q [] = omega arith
occurs_filter id q (t ∷ ts) = by_test (q t) (occurs_filter id q ts)
  where
    by_test : (b : Bool) → occurs id (ids (filter q ts)) ≤ occurs id (ids ts) → occurs id (ids (cond b (t ∷ filter q ts) (filter q ts))) ≤ cond (eqb t.id id) 1 0 + occurs id (ids ts)
    by_test true rest = omega (arith, rest)
    by_test false rest = omega (arith, rest)

pub length_filter : {X : Type 0} (q : X → Bool) (xs : List X) → length (filter q xs) ≤ length xs
length_filter q [] = omega arith
length_filter q (x ∷ xs) = by_test (q x) (length_filter q xs)
  where
    by_test : (b : Bool) → length (filter q xs) ≤ length xs → length (cond b (x ∷ filter q xs) (filter q xs)) ≤ length (x ∷ xs)
    by_test true rest = omega (arith, rest)
    by_test false rest = omega (arith, rest)

-- ---- pending tokens

abbrev pub waiting : List PendingToken → ℕ → ℕ
waiting pending n = length (pending_of pending n)

pub waiting_filter : (q : PendingToken → Bool) (ps : List PendingToken) (n : ℕ) → waiting (filter q ps) n ≤ waiting ps n
waiting_filter q [] n = omega arith
waiting_filter q (p ∷ ps) n = by_tests (q p) (eqb p.user n) (waiting_filter q ps n)
  where
    by_tests : (b d : Bool) → waiting (filter q ps) n ≤ waiting ps n → length (filter (λ p. eqb p.user n) (cond b (p ∷ filter q ps) (filter q ps))) ≤ length (cond (eqb p.user n) (p ∷ pending_of ps n) (pending_of ps n))
    by_tests true d rest = inner (eqb p.user n)
      where
        inner : (e : Bool) → length (cond e (p ∷ pending_of (filter q ps) n) (pending_of (filter q ps) n)) ≤ length (cond e (p ∷ pending_of ps n) (pending_of ps n))
        inner true = omega (arith, rest)
        inner false = rest
    by_tests false d rest = inner (eqb p.user n)
      where
        inner : (e : Bool) → waiting (filter q ps) n ≤ length (cond e (p ∷ pending_of ps n) (pending_of ps n))
        inner true = omega (arith, rest)
        inner false = rest

pub pending_ids_filter : (id : ℕ) (q : PendingToken → Bool) (ps : List PendingToken) → occurs id (pending_ids (filter q ps)) ≤ occurs id (pending_ids ps)
pending_ids_filter id q [] = omega arith
pending_ids_filter id q (p ∷ ps) = by_test (q p) (pending_ids_filter id q ps)
  where
    by_test : (b : Bool) → occurs id (pending_ids (filter q ps)) ≤ occurs id (pending_ids ps) → occurs id (pending_ids (cond b (p ∷ filter q ps) (filter q ps))) ≤ cond (eqb p.id id) 1 0 + occurs id (pending_ids ps)
    by_test true rest = omega (arith, rest)
    by_test false rest = omega (arith, rest)

pub pending_ids-push : (ps : List PendingToken) (p : PendingToken) → pending_ids (ps ++ p ∷ []) ≡ pending_ids ps ++ p.id ∷ []
pending_ids-push [] p = refl
pending_ids-push (x ∷ ps) p = ap (λ (xs : List ℕ). x.id ∷ xs) (pending_ids-push ps p)

pub waiting-push : (ps : List PendingToken) (p : PendingToken) (n : ℕ) → waiting (ps ++ p ∷ []) n ≡ waiting ps n + cond (eqb p.user n) 1 0
waiting-push [] p n = by_test (eqb p.user n)
  where
    by_test : (b : Bool) → length (cond b (p ∷ []) []) ≡ 0 + cond b 1 0
    by_test true = omega arith
    by_test false = omega arith
waiting-push (x ∷ ps) p n = by_test (eqb x.user n) (waiting-push ps p n)
  where
    by_test : (b : Bool) → waiting (ps ++ p ∷ []) n ≡ waiting ps n + cond (eqb p.user n) 1 0
        → length (cond b (x ∷ pending_of (ps ++ p ∷ []) n) (pending_of (ps ++ p ∷ []) n)) ≡ length (cond b (x ∷ pending_of ps n) (pending_of ps n)) + cond (eqb p.user n) 1 0
    by_test true rest = omega (arith, rest)
    by_test false rest = rest

-- the first k of a user, and the others
abbrev pub moving : ℕ → List PendingToken → ℕ → List Token
moving k ps m = map activated (take k (pending_of ps m))

pub moving_length : (k : ℕ) (ps : List PendingToken) (m : ℕ) → length (moving k ps m) + waiting (without_first k ps m) m ≡ waiting ps m
moving_length zero ps m = omega arith
moving_length (suc k) [] m = refl
moving_length (suc k) (p ∷ ps) m = by_test (eqb p.user m) refl (moving_length k ps m) (moving_length (suc k) ps m)
  where
    by_test : (b : Bool) → eqb p.user m ≡ b → length (moving k ps m) + waiting (without_first k ps m) m ≡ waiting ps m → length (moving (suc k) ps m) + waiting (without_first (suc k) ps m) m ≡ waiting ps m
        → length (map activated (take (suc k) (cond b (p ∷ pending_of ps m) (pending_of ps m)))) + waiting (cond b (without_first k ps m) (p ∷ without_first (suc k) ps m)) m
        ≡ length (cond b (p ∷ pending_of ps m) (pending_of ps m))
    by_test true is less more = omega (arith, less)
    by_test false is less more =
        let e : waiting (p ∷ without_first (suc k) ps m) m ≡ waiting (without_first (suc k) ps m) m =
        ap (λ b. length (cond b (p ∷ pending_of (without_first (suc k) ps m) m) (pending_of (without_first (suc k) ps m) m))) is in
        omega (arith, e, more)

pub moving_others : (k : ℕ) (ps : List PendingToken) (m n : ℕ) → m ≢ n → waiting (without_first k ps m) n ≡ waiting ps n
moving_others zero ps m n differ = refl
moving_others (suc k) [] m n differ = refl
moving_others (suc k) (p ∷ ps) m n differ = by_test (eqb p.user m) refl (moving_others k ps m n differ) (moving_others (suc k) ps m n differ)
  where
    by_test : (b : Bool) → eqb p.user m ≡ b → waiting (without_first k ps m) n ≡ waiting ps n → waiting (without_first (suc k) ps m) n ≡ waiting ps n
        → waiting (cond b (without_first k ps m) (p ∷ without_first (suc k) ps m)) n ≡ length (cond (eqb p.user n) (p ∷ pending_of ps n) (pending_of ps n))
    by_test true is less more =
        less ∙ sym (ap (λ b. length (cond b (p ∷ pending_of ps n) (pending_of ps n))) (not_eqb p.user n (λ same. differ (sym (eqb_is p.user m is) ∙ same))))
    by_test false is less more = inner (eqb p.user n)
      where
        inner : (e : Bool) → length (cond e (p ∷ pending_of (without_first (suc k) ps m) n) (pending_of (without_first (suc k) ps m) n)) ≡ length (cond e (p ∷ pending_of ps n) (pending_of ps n))
        inner true = ap suc more
        inner false = more

pub moving_ids : (k : ℕ) (ps : List PendingToken) (m id : ℕ) → occurs id (ids (moving k ps m)) + occurs id (pending_ids (without_first k ps m)) ≡ occurs id (pending_ids ps)
moving_ids zero ps m id = omega arith
moving_ids (suc k) [] m id = refl
moving_ids (suc k) (p ∷ ps) m id = by_test (eqb p.user m) (moving_ids k ps m id) (moving_ids (suc k) ps m id)
  where
    by_test : (b : Bool) → occurs id (ids (moving k ps m)) + occurs id (pending_ids (without_first k ps m)) ≡ occurs id (pending_ids ps)
        → occurs id (ids (moving (suc k) ps m)) + occurs id (pending_ids (without_first (suc k) ps m)) ≡ occurs id (pending_ids ps)
        → occurs id (ids (map activated (take (suc k) (cond b (p ∷ pending_of ps m) (pending_of ps m))))) + occurs id (pending_ids (cond b (without_first k ps m) (p ∷ without_first (suc k) ps m)))
        ≡ cond (eqb p.id id) 1 0 + occurs id (pending_ids ps)
    by_test true less more = omega (arith, less)
    by_test false less more = omega (arith, more)

-- ---- sums side by side

pub weigh_kept : (w : User → ℕ) (n : ℕ) (f : User → User) → ((u : User) → w (f u) ≡ w u) → (users : List User) → weigh w (changed users n f) ≡ weigh w users
weigh_kept w n f same [] = refl
weigh_kept w n f same (u ∷ users) = by_test (eqb u.number n) (weigh_kept w n f same users)
  where
    by_test : (b : Bool) → weigh w (changed users n f) ≡ weigh w users → weigh w (cond b (f u ∷ users) (u ∷ changed users n f)) ≡ w u + weigh w users
    by_test true rest = ap (λ k. k + weigh w users) (same u)
    by_test false rest = ap (λ k. w u + k) rest

pub weigh_more : (w x : User → ℕ) → ((u : User) → w u ≤ x u) → (users : List User) → weigh w users ≤ weigh x users
weigh_more w x le [] = omega arith
weigh_more w x le (u ∷ users) = let h = le u in let k = weigh_more w x le users in omega (arith, h, k)

pub weigh_one_more : (w x : User → ℕ) (n : ℕ) → ((u : User) → w u ≤ x u) → ((u : User) → u.number ≡ n → w u + 1 ≤ x u) → (users : List User) → is_some (user_of users n) ≡ true
    → weigh w users + 1 ≤ weigh x users
weigh_one_more w x n le more [] there = absurd (cc)
weigh_one_more w x n le more (u ∷ users) there = by_test (eqb u.number n) refl there (weigh_more w x le users) (λ rest. weigh_one_more w x n le more users rest)
  where
    by_test : (b : Bool) → eqb u.number n ≡ b → is_some (cond b (Some u) (user_of users n)) ≡ true → weigh w users ≤ weigh x users
        → (is_some (user_of users n) ≡ true → weigh w users + 1 ≤ weigh x users) → w u + weigh w users + 1 ≤ x u + weigh x users
    by_test true is there all rest = let h = more u (eqb_is u.number n is) in omega (arith, h, all)
    by_test false is there all rest = let h = le u in let k = rest there in omega (arith, h, k)

pub weigh_fewer : (w : User → ℕ) (n : ℕ) (f : User → User) → ((u : User) → w (f u) ≤ w u) → (users : List User) → weigh w (changed users n f) ≤ weigh w users
weigh_fewer w n f le [] = omega arith
weigh_fewer w n f le (u ∷ users) = by_test (eqb u.number n) (weigh_fewer w n f le users)
  where
    by_test : (b : Bool) → weigh w (changed users n f) ≤ weigh w users → weigh w (cond b (f u ∷ users) (u ∷ changed users n f)) ≤ w u + weigh w users
    by_test true rest = let h = le u in omega (arith, h)
    by_test false rest = omega (arith, rest)

pub length_moving : (k : ℕ) (ps : List PendingToken) (m : ℕ) → length (moving k ps m) ≤ k
length_moving k ps m = at_list k (pending_of ps m)
  where
    at_list : (k : ℕ) (ps : List PendingToken) → length (map activated (take k ps)) ≤ k
    at_list zero ps = omega arith
    at_list (suc k) [] = omega arith
    at_list (suc k) (p ∷ ps) = let h = at_list k ps in omega (arith, h)
