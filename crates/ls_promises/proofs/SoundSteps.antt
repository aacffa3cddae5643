-- How each change of users and tokens keeps the limits.
use Rattle.std.proofs.Common.{◌≡◌, ◌≢◌, ◌≤◌, ◌<◌, ◌+◌, ℕ, Bool, true, false, not, cond, eqb, eq-eqb, List, [], ◌∷◌, ◌++◌, Option, None, Some, length, length-append, refl, sym, ◌∙◌, ap, subst, arith}
use Rattle.std.proofs.lemmas.List.{length-map}
use Rattle.std.specs.Prelude.{◌||◌, filter, is_some, option_map}
use Rattle.std.specs.Option.{option_map_or}
use Rattle.ls_credential.specs.Rules.{KindAndText}
use Rattle.ls_promises.proofs.FreshLemmas.{fresh_free}
use Rattle.ls_promises.proofs.LimitLemmas.{waiting, occurs, ids, all_ids, pending_ids, or_true_left, or_true_right, occurs-append, occurs_weigh, not_contained, ids-append, waiting_filter, pending_ids_filter, pending_ids-push, waiting-push, moving, moving_length, moving_others, moving_ids, length_moving, numbers-changed, ascending_with, ascending_without, weigh-changed, weigh-with, weigh-without, weigh_fewer, length-changed, length-with, length-without}
use Rattle.ls_promises.proofs.Lookups.{eqb_is, eqb_differs, not_eqb, user_of-changed, user_of-with, user_of-with_other, user_of-without, user_of-without_other, seen_other}
use Rattle.ls_promises.proofs.SoundParts.{taken, told, SecureDiffer, AreSound, user_kept, tokens_other, tokens_here, tokens_found, at_number, secure_kept}
use Rattle.ls_promises.specs.Soundness.{IsAscending, AreUsers}
use Rattle.ls_vault.specs.Credentials.{is_first, secure_ids, secure_after, given}
use Rattle.ls_vault.specs.Fresh.{fresh, drawn_number}
use Rattle.ls_vault.specs.Kinds.{is_empty}
use Rattle.ls_vault.specs.TokenChanges.{with_tokens}
use Rattle.ls_vault.specs.Tokens.{pending_of, pending_of_others, without_first}
use Rattle.ls_vault.specs.Users.{user_of, is_user, tokens_of, changed, with_user, without_user}
use Rattle.ls_arming.specs.Numbers.{contains}
use Rattle.ls_vault.specs.declared.token.PendingToken.{PendingToken}
use Rattle.ls_vault.specs.declared.token.Token.{Token}
use Rattle.ls_vault.specs.declared.user.User.{User}

-- ---- a new user

module _ (users : List User) (new : User) where
  abbrev n : ℕ
  n = new.number

  with_here : is_user (with_user users new) n ≡ true
  with_here = ap is_some (user_of-with users new)

  with_other : (m : ℕ) → n ≢ m → is_user (with_user users new) m ≡ is_user users m
  with_other m differ = ap is_some (user_of-with_other users new m differ)

  pub are_users_with : (ns : List ℕ) → AreUsers users ns → AreUsers (with_user users new) ns
  are_users_with ns all m is =
      at_number (λ m. is_user users m ≡ true → is_user (with_user users new) m ≡ true) n (λ there. with_here) (λ m differ there. with_other m differ ∙ there) m (all m is)

  tokens_with_other : (m : ℕ) → n ≢ m → tokens_of (with_user users new) m ≡ tokens_of users m
  tokens_with_other m differ = ap (λ (o : Option User). option_map_or (λ u. u.tokens) o []) (user_of-with_other users new m differ)

  -- one of a user that was there
  old : (m : ℕ) (u : User) → new.secure ≡ 0 → user_of (with_user users new) m ≡ Some u → 0 < u.secure → user_of users m ≡ Some u
  old m u zero is some =
      at_number (λ m. user_of (with_user users new) m ≡ Some u → user_of users m ≡ Some u) n
      (λ is. absurd (let e : new ≡ u = same (sym (user_of-with users new) ∙ is) in let s = ap (λ (v : User). v.secure) e in omega (arith, s, zero, some)))
      (λ m differ is. sym (user_of-with_other users new m differ) ∙ is) m is
    where
      same : Some new ≡ Some u → new ≡ u
      same e = cc

  pub sound_with : (slots : ℕ) (pending : List PendingToken) → user_of users n ≡ None → new.tokens ≡ [] → new.secure ≡ 0 → length users < 16 → (0 < slots → taken users < slots)
      → AreSound slots users pending → AreSound slots (with_user users new) pending
  sound_with slots pending none no_tokens zero few room a = record {
    few = let k = length-with users new in omega (arith, k, few);
    ascending = ascending_with users new a.ascending none;
    tokens = at_number (λ m. length (tokens_of (with_user users new) m) + waiting pending m ≤ 8) n
        (let t = ap length (tokens_found (with_user users new) n new (user_of-with users new) ∙ no_tokens) in let w = a.waiting n (ap is_some none) in omega (arith, t, w))
        (λ m differ. subst (λ (ts : List Token). length ts + waiting pending m ≤ 8) (sym (tokens_with_other m differ)) (a.tokens m));
    fit = λ some. let h = room some in let k = length-with users new in let w = weigh-with (λ u. length u.tokens) users new in let z = ap length no_tokens in omega (arith, h, k, w, z);
    ids = λ id. let h = a.ids id in let w = weigh-with (λ u. occurs id (ids u.tokens)) users new in let z = ap (λ (ts : List Token). occurs id (ids ts)) no_tokens in omega (arith, h, w, z);
    secure = λ m k u v um vk equal some. a.secure m k u v (old m u zero um some) (old k v zero vk (omega (arith, equal, some))) equal some;
    waiting = at_number (λ m. is_user (with_user users new) m ≡ false → waiting pending m ≡ 0) n
        (λ not. absurd (let e = with_here in cc)) (λ m differ not. a.waiting m (sym (with_other m differ) ∙ not));
  }

-- ---- a user that is gone

module _ (users : List User) (n : ℕ) where
  pub without_here : is_user (without_user users n) n ≡ false
  without_here = ap is_some (user_of-without users n)

  pub without_other : (m : ℕ) → n ≢ m → is_user (without_user users n) m ≡ is_user users m
  without_other m differ = ap is_some (user_of-without_other users n m differ)

  left : (m : ℕ) (u : User) → user_of (without_user users n) m ≡ Some u → user_of users m ≡ Some u
  left m u is =
      at_number (λ m. user_of (without_user users n) m ≡ Some u → user_of users m ≡ Some u) n
      (λ is. absurd (let e = user_of-without users n in differ (sym e ∙ is))) (λ m other is. sym (user_of-without_other users n m other) ∙ is) m is
    where
      differ : None ≡ Some u → ⊥
      differ e = cc

  pub none_waits : (pending : List PendingToken) → waiting (pending_of_others pending n) n ≡ 0
  none_waits [] = refl
  none_waits (p ∷ pending) = by_test (eqb p.user n) refl (none_waits pending)
    where
      by_test : (b : Bool) → eqb p.user n ≡ b → waiting (pending_of_others pending n) n ≡ 0 → waiting (cond (not b) (p ∷ pending_of_others pending n) (pending_of_others pending n)) n ≡ 0
      by_test true is rest = rest
      by_test false is rest = ap (λ b. length (cond b (p ∷ pending_of (pending_of_others pending n) n) (pending_of (pending_of_others pending n) n))) is ∙ rest

  pub sound_without : (slots : ℕ) (pending : List PendingToken) → AreSound slots users pending → AreSound slots (without_user users n) (pending_of_others pending n)
  sound_without slots pending a = record {
    few = let h = a.few in let k = length-without users n in omega (arith, h, k);
    ascending = ascending_without users n a.ascending;
    tokens = at_number (λ m. length (tokens_of (without_user users n) m) + waiting (pending_of_others pending n) m ≤ 8) n
        (let t = ap (λ (o : Option User). length (option_map_or (λ u. u.tokens) o [])) (user_of-without users n) in let w = none_waits pending in omega (arith, t, w))
        (λ m differ. let t = ap (λ (o : Option User). length (option_map_or (λ u. u.tokens) o [])) (user_of-without_other users n m differ) in
        let w = waiting_filter (λ p. not (eqb p.user n)) pending m in let h = a.tokens m in omega (arith, t, w, h));
    fit = λ some. let h = a.fit some in let k = length-without users n in let w = weigh-without (λ u. length u.tokens) users n in omega (arith, h, k, w);
    ids = λ id. let h = a.ids id in let w = weigh-without (λ u. occurs id (ids u.tokens)) users n in let p = pending_ids_filter id (λ p. not (eqb p.user n)) pending in omega (arith, h, w, p);
    secure = λ m k u v um vk equal some. a.secure m k u v (left m u um) (left k v vk) equal some;
    waiting = at_number (λ m. is_user (without_user users n) m ≡ false → waiting (pending_of_others pending n) m ≡ 0) n
        (λ not. none_waits pending)
        (λ m differ none. let h = a.waiting m (sym (without_other m differ) ∙ none) in let w = waiting_filter (λ p. not (eqb p.user n)) pending m in omega (arith, h, w));
  }

-- ---- a new credential

contained_secure : (users : List User) (m : ℕ) (u : User) → user_of users m ≡ Some u → contains (secure_ids users) u.secure ≡ true
contained_secure [] m u is = absurd (cc)
contained_secure (x ∷ users) m u is = by_test (eqb x.number m) is (λ rest. contained_secure users m u rest)
  where
    by_test : (b : Bool) → cond b (Some x) (user_of users m) ≡ Some u → (user_of users m ≡ Some u → contains (secure_ids users) u.secure ≡ true) → (eqb x.secure u.secure || contains (secure_ids users) u.secure) ≡ true
    by_test true is rest = let e : x ≡ u = cc in or_true_left (eqb x.secure u.secure) _ (eq-eqb x.secure u.secure (ap (λ (v : User). v.secure) e))
    by_test false is rest = or_true_right (eqb x.secure u.secure) _ (rest is)

module _ (users : List User) (n : ℕ) (new : KindAndText) (drawn : List ℕ) (v : User) (found : user_of users n ≡ Some v) (few : length users ≤ 16) (differ : SecureDiffer users) where
  abbrev after : List User
  after = changed users n (given users new drawn)

  not_fresh : (m : ℕ) (u : User) → user_of users m ≡ Some u → u.secure ≢ fresh (drawn_number drawn) (secure_ids users)
  not_fresh m u is same =
      let l = length-map users (λ (u : User). u.secure) in
      let free = fresh_free (drawn_number drawn) (secure_ids users) (omega (arith, l, few)) in
      let there = contained_secure users m u is in
      let e = ap (contains (secure_ids users)) same in
      absurd (cc)

  -- its secure id is no other user's
  its_own : (m : ℕ) (u : User) → n ≢ m → user_of users m ≡ Some u → secure_after users new drawn v ≡ u.secure → 0 < u.secure → n ≡ m
  its_own m u other is equal some = by_tests (is_empty new.kind) (is_first new v) equal
    where
      by_tests : (b d : Bool) → cond b 0 (cond d (fresh (drawn_number drawn) (secure_ids users)) v.secure) ≡ u.secure → n ≡ m
      by_tests true d equal = absurd (omega (arith, equal, some))
      by_tests false true equal = absurd (not_fresh m u is (sym equal))
      by_tests false false equal = differ n m v u found is equal (omega (arith, equal, some))

  at_this : (u : User) → user_of after n ≡ Some u → u.secure ≡ secure_after users new drawn v
  at_this u is =
      let e : given users new drawn v ≡ u = same (sym (user_of-changed (given users new drawn) (λ u. refl) n users ∙ ap (λ (o : Option User). option_map (given users new drawn) o) found) ∙ is) in
      sym (ap (λ (x : User). x.secure) e)
    where
      same : Some (given users new drawn v) ≡ Some u → given users new drawn v ≡ u
      same e = cc

  at_that : (m : ℕ) (u : User) → n ≢ m → user_of after m ≡ Some u → (w : User) × (user_of users m ≡ Some w) × (w.secure ≡ u.secure)
  at_that m u other is =
      by_seen (user_of users m) refl (sym (seen_other (λ u. u.secure) (given users new drawn) (λ u. refl) n m other users) ∙ ap (λ (o : Option User). option_map (λ u. u.secure) o) is)
    where
      by_seen : (o : Option User) → user_of users m ≡ o → option_map (λ u. u.secure) o ≡ Some u.secure → (w : User) × (user_of users m ≡ Some w) × (w.secure ≡ u.secure)
      by_seen None there is = absurd (cc)
      by_seen (Some w) there is = (w, there, cc)

  pub secure_given : SecureDiffer after
  secure_given m k u w um wk equal some = by_tests (eqb n m) (eqb n k) refl refl
    where
      by_tests : (b d : Bool) → eqb n m ≡ b → eqb n k ≡ d → m ≡ k
      by_tests true true nm nk = sym (eqb_is n m nm) ∙ eqb_is n k nk
      by_tests true false nm nk =
          let x = at_that k w (eqb_differs n k nk) wk in
          let e = at_this u (ap (user_of after) (eqb_is n m nm) ∙ um) in
          sym (eqb_is n m nm) ∙ its_own k x.0 (eqb_differs n k nk) x.1 (sym e ∙ (equal ∙ sym x.2)) (omega (arith, x.2, equal, some))
      by_tests false true nm nk =
          let x = at_that m u (eqb_differs n m nm) um in
          let e = at_this w (ap (user_of after) (eqb_is n k nk) ∙ wk) in
          sym (its_own m x.0 (eqb_differs n m nm) x.1 (sym e ∙ (sym equal ∙ sym x.2)) (omega (arith, x.2, some))) ∙ eqb_is n k nk
      by_tests false false nm nk =
          let x = at_that m u (eqb_differs n m nm) um in
          let y = at_that k w (eqb_differs n k nk) wk in
          differ m k x.0 y.0 x.1 y.1 (x.2 ∙ (equal ∙ sym y.2)) (omega (arith, x.2, some))

-- ---- a token that waits

module _ (slots : ℕ) (users : List User) (pending : List PendingToken) (p : PendingToken) (a : AreSound slots users pending) where
  -- its id is no other token's
  id_free : contains (all_ids users ++ pending_ids pending) p.id ≡ false → (id : ℕ) → told id users (pending ++ p ∷ []) ≤ 1
  id_free free = at_number (λ id. told id users (pending ++ p ∷ []) ≤ 1) p.id
      (let push = ap (occurs p.id) (pending_ids-push pending p) in
      let both = occurs-append p.id (pending_ids pending) (p.id ∷ []) in
      let here = ap {B = ℕ} (λ b. cond b 1 0) (eq-eqb p.id p.id refl) in
      let none = not_contained p.id (all_ids users ++ pending_ids pending) free in
      let parts = occurs-append p.id (all_ids users) (pending_ids pending) in
      let w = occurs_weigh p.id users in
      omega (arith, push, both, here, none, parts, w))
      (λ id differ.
      let push = ap (occurs id) (pending_ids-push pending p) in
      let both = occurs-append id (pending_ids pending) (p.id ∷ []) in
      let there = ap {B = ℕ} (λ b. cond b 1 0) (not_eqb p.id id differ) in
      let h = a.ids id in
      omega (arith, push, both, there, h))

  pub sound_token_add : is_user users p.user ≡ true → length (tokens_of users p.user) + waiting pending p.user < 8 → contains (all_ids users ++ pending_ids pending) p.id ≡ false
      → AreSound slots users (pending ++ p ∷ [])
  sound_token_add there few free = record {
    few = a.few;
    ascending = a.ascending;
    tokens = at_number (λ m. length (tokens_of users m) + waiting (pending ++ p ∷ []) m ≤ 8) p.user
        (let push = waiting-push pending p p.user in let here = ap {B = ℕ} (λ b. cond b 1 0) (eq-eqb p.user p.user refl) in omega (arith, push, here, few))
        (λ m differ. let push = waiting-push pending p m in let other = ap {B = ℕ} (λ b. cond b 1 0) (not_eqb p.user m differ) in let h = a.tokens m in omega (arith, push, other, h));
    fit = a.fit;
    ids = id_free free;
    secure = a.secure;
    waiting = at_number (λ m. is_user users m ≡ false → waiting (pending ++ p ∷ []) m ≡ 0) p.user
        (λ not. absurd (let e = sym there ∙ not in cc))
        (λ m differ not. let push = waiting-push pending p m in let other = ap {B = ℕ} (λ b. cond b 1 0) (not_eqb p.user m differ) in let h = a.waiting m not in omega (arith, push, other, h));
  }

-- ---- tokens that get active

module _ (slots : ℕ) (users : List User) (pending : List PendingToken) (n k : ℕ) (v : User) (found : user_of users n ≡ Some v) (a : AreSound slots users pending) where
  abbrev f : User → User
  f = with_tokens (moving k pending n)

  abbrev more : List User
  more = changed users n f

  abbrev still : List PendingToken
  still = without_first k pending n

  own_tokens : tokens_of more n ≡ v.tokens ++ moving k pending n
  own_tokens = tokens_here users n f (λ u. refl) v found

  pub sound_activate : (0 < slots → k + taken users ≤ slots) → AreSound slots more still
  sound_activate room = record {
    few = let h = a.few in let l = length-changed users n f in omega (arith, h, l);
    ascending = subst IsAscending (sym (numbers-changed users n f (λ u. refl))) a.ascending;
    tokens = at_number (λ m. length (tokens_of more m) + waiting still m ≤ 8) n
        (let t = ap length own_tokens in let l = length-append v.tokens (moving k pending n) in let m = moving_length k pending n in
        let h = a.tokens n in let o = ap length (tokens_found users n v found) in omega (arith, t, l, m, h, o))
        (λ m differ. let t = ap length (tokens_other users n f (λ u. refl) m differ) in let w = moving_others k pending n m differ in let h = a.tokens m in omega (arith, t, w, h));
    fit = λ some.
        let h = room some in let l = length-changed users n f in let w = weigh-changed (λ u. length u.tokens) users n f v found in
        let t = length-append v.tokens (moving k pending n) in let m = length_moving k pending n in omega (arith, h, l, w, t, m);
    ids = λ id.
        let h = a.ids id in let w = weigh-changed (λ u. occurs id (ids u.tokens)) users n f v found in
        let t = ap (occurs id) (ids-append v.tokens (moving k pending n)) in let o = occurs-append id (ids v.tokens) (ids (moving k pending n)) in
        let m = moving_ids k pending n id in omega (arith, h, w, t, o, m);
    secure = secure_kept users n f (λ u. refl) (λ u. refl) a.secure;
    waiting = λ m none.
        at_number (λ m. is_user users m ≡ false → waiting still m ≡ 0) n
        (λ not. absurd (let e = ap is_some found in cc))
        (λ m differ not. let w = moving_others k pending n m differ in let h = a.waiting m not in omega (arith, w, h)) m
        (sym (user_kept users n f (λ u. refl) m) ∙ none);
  }

-- ---- tokens that are gone

module _ (slots : ℕ) (users : List User) (pending : List PendingToken) (n : ℕ) (f : User → User) (q : PendingToken → Bool) (keeps : (u : User) → (f u).number ≡ u.number) (same : (u : User) → (f u).secure ≡ u.secure)
    (shorter : (u : User) → length (f u).tokens ≤ length u.tokens) (fewer : (u : User) (id : ℕ) → occurs id (ids (f u).tokens) ≤ occurs id (ids u.tokens)) where
  at_here : (o : Option User) → length (option_map_or (λ u. u.tokens) (option_map f o) []) ≤ length (option_map_or (λ u. u.tokens) o [])
  at_here None = omega arith
  at_here (Some u) = shorter u

  pub sound_fewer : AreSound slots users pending → AreSound slots (changed users n f) (filter q pending)
  sound_fewer a = record {
    few = let h = a.few in let l = length-changed users n f in omega (arith, h, l);
    ascending = subst IsAscending (sym (numbers-changed users n f keeps)) a.ascending;
    tokens = at_number (λ m. length (tokens_of (changed users n f) m) + waiting (filter q pending) m ≤ 8) n
        (let t = ap (λ (o : Option User). length (option_map_or (λ u. u.tokens) o [])) (user_of-changed f keeps n users) in let l = at_here (user_of users n) in
        let w = waiting_filter q pending n in let h = a.tokens n in omega (arith, t, l, w, h))
        (λ m differ. let t = ap length (tokens_other users n f keeps m differ) in let w = waiting_filter q pending m in let h = a.tokens m in omega (arith, t, w, h));
    fit = λ some.
        let h = a.fit some in let l = length-changed users n f in let w = weigh_fewer (λ u. length u.tokens) n f shorter users in omega (arith, h, l, w);
    ids = λ id.
        let h = a.ids id in let w = weigh_fewer (λ u. occurs id (ids u.tokens)) n f (λ u. fewer u id) users in let p = pending_ids_filter id q pending in omega (arith, h, w, p);
    secure = secure_kept users n f keeps same a.secure;
    waiting = λ m none. let h = a.waiting m (sym (user_kept users n f keeps m) ∙ none) in let w = waiting_filter q pending m in omega (arith, h, w);
  }
