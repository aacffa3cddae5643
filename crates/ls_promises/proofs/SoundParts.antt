-- The limits of a state, by its parts, and how lists of users keep them.
use Rattle.std.proofs.Common.{◌≡◌, ◌≢◌, ◌≤◌, ◌<◌, ◌+◌, ◌*◌, ◌^◌, ℕ, Bool, true, false, cond, eqb, eq-eqb, List, [], ◌∷◌, ◌++◌, Option, None, Some, length, length-append, refl, sym, ◌∙◌, ap, subst, arith}
use Rattle.std.proofs.lemmas.List.{length-map}
use Rattle.std.proofs.lemmas.List.Recursion.{is_count_by, is_sum_by}
use Rattle.std.specs.Prelude.{◌==◌, count_by, is_some, unwrap_or, option_map}
use Rattle.std.specs.Option.{option_map_or}
use Rattle.ls_promises.proofs.Lookups.{eqb_is, eqb_differs, not_eqb, seen_kept, seen_other, user_of-changed}
use Rattle.ls_promises.specs.Soundness.{IsAscending, AreUsers, IsSound, armed_numbers}
use Rattle.ls_vault.specs.Limits.{used}
use Rattle.ls_vault.specs.Tokens.{pending_of, token_ids}
use Rattle.ls_vault.specs.Users.{user_of, is_user, tokens_of, changed}
use Rattle.ls_vault.specs.declared.state.State.{State}
use Rattle.ls_vault.specs.declared.token.PendingToken.{PendingToken}
use Rattle.ls_vault.specs.declared.token.Token.{Token}
use Rattle.ls_vault.specs.declared.user.User.{User}
use Rattle.ls_promises.proofs.LimitLemmas.{numbers, weigh, waiting, occurs, ids, all_ids, pending_ids, occurs-append, occurs_weigh, numbers-changed, length-changed, not_among, weigh_kept, weigh_one_more}

-- how many slots the users and their active tokens take
abbrev pub taken : List User → ℕ
taken users = length users + weigh (λ u. length u.tokens) users

-- how often an id is that of a token
abbrev pub told : ℕ → List User → List PendingToken → ℕ
told id users pending = weigh (λ u. occurs id (ids u.tokens)) users + occurs id (pending_ids pending)

-- no two users have one secure id
abbrev pub SecureDiffer : List User → Type 0
SecureDiffer users = (m n : ℕ) (u v : User) → user_of users m ≡ Some u → user_of users n ≡ Some v → u.secure ≡ v.secure → 0 < u.secure → m ≡ n

-- what holds of users and their pending tokens
pub record AreSound (slots : ℕ) (users : List User) (pending : List PendingToken) : Type 0 where
  pub few : length users ≤ 16
  pub ascending : IsAscending (numbers users)
  pub tokens : (n : ℕ) → length (tokens_of users n) + waiting pending n ≤ 8
  pub fit : 0 < slots → taken users ≤ slots
  pub ids : (id : ℕ) → told id users pending ≤ 1
  pub secure : SecureDiffer users
  pub waiting : (n : ℕ) → is_user users n ≡ false → waiting pending n ≡ 0

-- the same by the words of the contract
count_is : (id : ℕ) (xs : List ℕ) → occurs id xs ≡ count_by (λ i. i == id) xs
count_is id xs = is_count_by (occurs id) (λ i. i == id) refl (λ x xs. by_test (eqb x id) (occurs id xs)) xs
  where
    by_test : (b : Bool) (k : ℕ) → cond b 1 0 + k ≡ cond b (1 + k) k
    by_test true k = refl
    by_test false k = omega arith

pub used_is : (users : List User) → taken users ≡ used users
used_is users = ap (λ k. length users + k) (is_sum_by (weigh (λ u. length u.tokens)) (λ u. length u.tokens) refl (λ u us. refl) users)

pub told_is : (id : ℕ) (s : State) → count_by (λ i. i == id) (token_ids s) ≡ told id s.vault.users s.session.pending
told_is id s =
    sym (count_is id (token_ids s))
    ∙ (occurs-append id (all_ids s.vault.users) (pending_ids s.session.pending)
    ∙ ap (λ k. k + occurs id (pending_ids s.session.pending)) (occurs_weigh id s.vault.users))

pub from_parts : (slots : ℕ) (s : State) → AreSound slots s.vault.users s.session.pending → AreUsers s.vault.users s.session.opened → AreUsers s.vault.users s.session.captured
    → AreUsers s.vault.users (armed_numbers s.vault.arming) → IsSound slots s
from_parts slots s a opened captured armed = record {
  few = a.few;
  ascending = a.ascending;
  tokens = a.tokens;
  fit = λ some. let h = a.fit some in let k = used_is s.vault.users in omega (arith, h, k);
  ids = λ id. let h = a.ids id in let k = told_is id s in omega (arith, h, k);
  secure = a.secure;
  waiting = a.waiting;
  opened = opened;
  captured = captured;
  armed = armed;
}

pub to_parts : (slots : ℕ) (s : State) → IsSound slots s → AreSound slots s.vault.users s.session.pending
to_parts slots s a = record {
  few = a.few;
  ascending = a.ascending;
  tokens = a.tokens;
  fit = λ some. let h = a.fit some in let k = used_is s.vault.users in omega (arith, h, k);
  ids = λ id. let h = a.ids id in let k = told_is id s in omega (arith, h, k);
  secure = a.secure;
  waiting = a.waiting;
}

-- ---- users that are changed

is_some_map : {A B : Type 0} (g : A → B) (o : Option A) → is_some (option_map g o) ≡ is_some o
is_some_map g None = refl
is_some_map g (Some x) = refl

tokens_seen : (o : Option User) → option_map_or (λ u. u.tokens) o [] ≡ unwrap_or (option_map (λ u. u.tokens) o) []
tokens_seen None = refl
tokens_seen (Some u) = refl

-- there is one
there_is : (o : Option User) → is_some o ≡ true → (u : User) × (o ≡ Some u)
there_is None is = absurd (cc)
there_is (Some u) is = (u, refl)

none_is : (o : Option User) → is_some o ≡ false → o ≡ None
none_is None is = refl
none_is (Some u) is = absurd (cc)

pub missing : (users : List User) (n : ℕ) → is_user users n ≡ false → user_of users n ≡ None
missing users n is = none_is (user_of users n) is

module _ (users : List User) (n : ℕ) (f : User → User) (keeps : (u : User) → (f u).number ≡ u.number) where
  pub user_kept : (m : ℕ) → is_user (changed users n f) m ≡ is_user users m
  user_kept m =
      sym (is_some_map (λ u. u.number) (user_of (changed users n f) m))
      ∙ (ap is_some (seen_kept (λ u. u.number) f keeps n m keeps users) ∙ is_some_map (λ u. u.number) (user_of users m))

  pub are_users_kept : (ns : List ℕ) → AreUsers users ns → AreUsers (changed users n f) ns
  are_users_kept ns all m is = user_kept m ∙ all m is

  pub tokens_other : (m : ℕ) → n ≢ m → tokens_of (changed users n f) m ≡ tokens_of users m
  tokens_other m differ =
      tokens_seen (user_of (changed users n f) m)
      ∙ (ap (λ (o : Option (List Token)). unwrap_or o []) (seen_other (λ u. u.tokens) f keeps n m differ users) ∙ sym (tokens_seen (user_of users m)))

  pub tokens_here : (v : User) → user_of users n ≡ Some v → tokens_of (changed users n f) n ≡ (f v).tokens
  tokens_here v found = ap (λ (o : Option User). option_map_or (λ u. u.tokens) o []) (user_of-changed f keeps n users ∙ ap (λ (o : Option User). option_map f o) found)

pub tokens_found : (users : List User) (n : ℕ) (v : User) → user_of users n ≡ Some v → tokens_of users n ≡ v.tokens
tokens_found users n v found = ap (λ (o : Option User). option_map_or (λ u. u.tokens) o []) found

-- a number or another
pub at_number : (P : ℕ → Type 0) (n : ℕ) → P n → ((m : ℕ) → n ≢ m → P m) → (m : ℕ) → P m
at_number P n here other m = by_test (eqb n m) refl
  where
    by_test : (b : Bool) → eqb n m ≡ b → P m
    by_test true same = subst P (eqb_is n m same) here
    by_test false differ = other m (eqb_differs n m differ)

-- secure ids after a change that keeps them
pub secure_kept : (users : List User) (n : ℕ) (f : User → User) → ((u : User) → (f u).number ≡ u.number) → ((u : User) → (f u).secure ≡ u.secure) → SecureDiffer users → SecureDiffer (changed users n f)
secure_kept users n f keeps same differ m k u v um vk equal some = at_both (before m u um) (before k v vk)
  where
    before : (m : ℕ) (u : User) → user_of (changed users n f) m ≡ Some u → (w : User) × (user_of users m ≡ Some w) × (w.secure ≡ u.secure)
    before m u is = by_seen (user_of users m) refl (sym (seen_kept (λ u. u.secure) f keeps n m same users) ∙ ap (λ (o : Option User). option_map (λ u. u.secure) o) is)
      where
        by_seen : (o : Option User) → user_of users m ≡ o → option_map (λ u. u.secure) o ≡ Some u.secure → (w : User) × (user_of users m ≡ Some w) × (w.secure ≡ u.secure)
        by_seen None there is = absurd (cc)
        by_seen (Some w) there is = (w, there, cc)

    at_both : (w : User) × (user_of users m ≡ Some w) × (w.secure ≡ u.secure) → (x : User) × (user_of users k ≡ Some x) × (x.secure ≡ v.secure) → m ≡ k
    at_both a b = differ m k a.0 b.0 a.1 b.1 (a.2 ∙ (equal ∙ sym b.2)) (omega (arith, a.2, some))

-- a change that keeps tokens and secure ids
pub sound_kept : (slots : ℕ) (users : List User) (pending : List PendingToken) (n : ℕ) (f : User → User) → ((u : User) → (f u).number ≡ u.number) → ((u : User) → (f u).tokens ≡ u.tokens)
    → SecureDiffer (changed users n f) → AreSound slots users pending → AreSound slots (changed users n f) pending
sound_kept slots users pending n f keeps same secure a = record {
  few = let h = a.few in let k = length-changed users n f in omega (arith, h, k);
  ascending = subst IsAscending (sym (numbers-changed users n f keeps)) a.ascending;
  tokens = λ m. subst (λ (ts : List Token). length ts + waiting pending m ≤ 8) (sym (tokens_same m)) (a.tokens m);
  fit = λ some. let h = a.fit some in let k = length-changed users n f in let w = weigh_same (λ u. length u.tokens) (λ u. ap length (same u)) users in omega (arith, h, k, w);
  ids = λ id. let h = a.ids id in let w = weigh_same (λ u. occurs id (ids u.tokens)) (λ u. ap (λ (ts : List Token). occurs id (ids ts)) (same u)) users in omega (arith, h, w);
  secure = secure;
  waiting = λ m none. a.waiting m (sym (user_kept users n f keeps m) ∙ none);
}
  where
    tokens_same : (m : ℕ) → tokens_of (changed users n f) m ≡ tokens_of users m
    tokens_same m =
        tokens_seen (user_of (changed users n f) m)
        ∙ (ap (λ (o : Option (List Token)). unwrap_or o []) (seen_kept (λ u. u.tokens) f keeps n m same users) ∙ sym (tokens_seen (user_of users m)))

    weigh_same : (w : User → ℕ) → ((u : User) → w (f u) ≡ w u) → (us : List User) → weigh w (changed us n f) ≡ weigh w us
    weigh_same w same us = weigh_kept w n f same us

-- ---- how many tokens there are at most

bound_tokens : (users : List User) → IsAscending (numbers users) → ((n : ℕ) → length (tokens_of users n) ≤ 8) → weigh (λ u. length u.tokens) users ≤ 8 * length users
bound_tokens [] asc all = omega arith
bound_tokens (u ∷ users) asc all =
    let here = ap (λ b. length (option_map_or (λ u. u.tokens) (cond b (Some u) (user_of users u.number)) [])) (eq-eqb u.number u.number refl) in
    let rest = bound_tokens users asc.1 (at_number (λ n. length (tokens_of users n) ≤ 8) u.number
    (let none = ap (λ (o : Option User). length (option_map_or (λ u. u.tokens) o [])) (not_among users u.number asc.0) in omega (arith, none))
    (λ n differ. let e = ap (λ b. length (option_map_or (λ u. u.tokens) (cond b (Some u) (user_of users n)) [])) (not_eqb u.number n differ) in let h = all n in omega (arith, e, h))) in
    let h = all u.number in
    omega (arith, here, rest, h)

-- each pending token is one of its user's
module _ (p : PendingToken) (pending : List PendingToken) where
  fewer : (n : ℕ) (b : Bool) → waiting pending n ≤ length (cond b (p ∷ pending_of pending n) (pending_of pending n))
  fewer n true = omega arith
  fewer n false = omega arith

  one_at : (n : ℕ) → eqb p.user n ≡ true → waiting pending n + 1 ≤ waiting (p ∷ pending) n
  one_at n is = let e = ap (λ b. length (cond b (p ∷ pending_of pending n) (pending_of pending n))) is in omega (arith, e)

  its_user_there : (users : List User) → ((n : ℕ) → is_user users n ≡ false → waiting (p ∷ pending) n ≡ 0) → (b : Bool) → is_user users p.user ≡ b → is_user users p.user ≡ true
  its_user_there users all true is = is
  its_user_there users all false is = absurd (let h = all p.user is in let k = one_at p.user (eq-eqb p.user p.user refl) in omega (arith, h, k))

bound_pending : (users : List User) (pending : List PendingToken) → ((n : ℕ) → is_user users n ≡ false → waiting pending n ≡ 0) → length pending ≤ weigh (λ u. waiting pending u.number) users
bound_pending users [] all = omega arith
bound_pending users (p ∷ pending) all =
    let rest = bound_pending users pending (λ n none. let h = all n none in let k = fewer p pending n (eqb p.user n) in omega (arith, h, k)) in
    let more = weigh_one_more (λ u. waiting pending u.number) (λ u. waiting (p ∷ pending) u.number) p.user
    (λ u. fewer p pending u.number (eqb p.user u.number)) (λ u is. one_at p pending u.number (eq-eqb p.user u.number (sym is))) users
    (its_user_there p pending users all (is_user users p.user) refl) in
    omega (arith, rest, more)

bound_each : (users : List User) (pending : List PendingToken) → ((n : ℕ) → waiting pending n ≤ 8) → weigh (λ u. waiting pending u.number) users ≤ 8 * length users
bound_each [] pending all = omega arith
bound_each (u ∷ users) pending all = let h = all u.number in let rest = bound_each users pending all in omega (arith, h, rest)

length_ids : (users : List User) → length (all_ids users) ≡ weigh (λ u. length u.tokens) users
length_ids [] = refl
length_ids (u ∷ users) = let h = length_ids users in let k = length-append (ids u.tokens) (all_ids users) in let m = length-map u.tokens (λ (t : Token). t.id) in omega (arith, h, k, m)

-- so there are few ids
pub few_ids : (slots : ℕ) (users : List User) (pending : List PendingToken) → AreSound slots users pending → length (all_ids users ++ pending_ids pending) < 2 ^ 63
few_ids slots users pending a =
    let t = bound_tokens users a.ascending (λ n. let h = a.tokens n in omega (arith, h)) in
    let p = bound_pending users pending a.waiting in
    let e = bound_each users pending (λ n. let h = a.tokens n in omega (arith, h)) in
    let l = length_ids users in
    let m = length-map pending (λ (p : PendingToken). p.id) in
    let k = length-append (all_ids users) (pending_ids pending) in
    let few = a.few in
    omega (arith, t, p, e, l, m, k, few)
