-- A token that is none any more.
use Rattle.std.proofs.Common.{◌≡◌, ℕ, zero, suc, Bool, true, false, not, cond, eqb, List, [], ◌∷◌, ◌++◌, Option, None, Some, refl, sym, ◌∙◌, ap, subst}
use Rattle.std.specs.Prelude.{◌&&◌, ◌||◌, map, take, filter, option_map, bytes_eq}
use Rattle.std.specs.List.{list_any}
use Rattle.std.specs.Option.{option_map_or}
use Rattle.ls_promises.proofs.Along.{or_left, or_right, none_along}
use Rattle.ls_promises.proofs.Lookups.{eqb_is, eqb_differs, seen_other, user_of-changed, user_of-with, user_of-with_other, user_of-without, user_of-without_other}
use Rattle.ls_promises.proofs.PendingSteps.{Pends, at_pending}
use Rattle.ls_promises.proofs.Steps.{with_auto, Moved, at_accepted, at_committed_if}
use Rattle.ls_promises.proofs.UnlockLemmas.{by_token}
use Rattle.ls_promises.specs.Answers.{adds_token, opens_by_token, ends_token, is_opened, is_fine}
use Rattle.ls_promises.specs.Unlocks.{OpensByToken}
use Rattle.ls_script.specs.declared.command.Command.{Command}
use Rattle.ls_script.specs.declared.command.Command.TheVariants as command
use Rattle.ls_script.specs.declared.reply.Refusal.{Refusal}
use Rattle.ls_script.specs.declared.reply.Reply.{Reply}
use Rattle.ls_script.specs.declared.reply.Reply.TheVariants as reply
use Rattle.ls_script.specs.declared.reply.Revealed.{Revealed}
use Rattle.ls_vault.specs.Credentials.{given}
use Rattle.ls_vault.specs.Effects.{effect}
use Rattle.ls_vault.specs.Fresh.{fresh, drawn_number}
use Rattle.ls_vault.specs.Histories.{Event, history, passes}
use Rattle.ls_vault.specs.Limits.{activated_count}
use Rattle.ls_vault.specs.Refusals.{refusal}
use Rattle.ls_vault.specs.Step.{unless, step}
use Rattle.ls_vault.specs.TokenChanges.{with_tokens, without_its, plain, token_dropped, escrow_ended}
use Rattle.ls_vault.specs.Tokens.{token_of, without_token, pending_of, pending_of_others, without_pending, without_first, activated, is_active, token_ids}
use Rattle.ls_vault.specs.Unlocking.{cleared, failed}
use Rattle.ls_vault.specs.UserChanges.{new_user, dropped}
use Rattle.ls_vault.specs.Users.{user_of, changed, with_user, without_user}
use Rattle.ls_vault.specs.declared.state.State.{State}
use Rattle.ls_vault.specs.declared.token.PendingToken.{PendingToken}
use Rattle.ls_vault.specs.declared.token.Token.{Token}
use Rattle.ls_vault.specs.declared.user.User.{User}

-- ---- tests of some element

either_false : (a b : Bool) → a ≡ false → b ≡ false → (a || b) ≡ false
either_false true b p q = p
either_false false b p q = q

any-append : {X : Type 0} (p : X → Bool) (xs ys : List X) → list_any p xs ≡ false → list_any p ys ≡ false → list_any p (xs ++ ys) ≡ false
any-append p [] ys none more = more
any-append p (x ∷ xs) ys none more = either_false (p x) _ (or_left (p x) _ none) (any-append p xs ys (or_right (p x) _ none) more)

any-filter : {X : Type 0} (p q : X → Bool) (xs : List X) → list_any p xs ≡ false → list_any p (filter q xs) ≡ false
any-filter p q [] none = refl
any-filter p q (x ∷ xs) none = by_test (q x) (or_left (p x) _ none) (any-filter p q xs (or_right (p x) _ none))
  where
    by_test : (b : Bool) → p x ≡ false → list_any p (filter q xs) ≡ false → list_any p (cond b (x ∷ filter q xs) (filter q xs)) ≡ false
    by_test true here rest = either_false (p x) _ here rest
    by_test false here rest = rest

any-take : {X : Type 0} (p : X → Bool) (k : ℕ) (xs : List X) → list_any p xs ≡ false → list_any p (take k xs) ≡ false
any-take p zero xs none = refl
any-take p (suc k) [] none = refl
any-take p (suc k) (x ∷ xs) none = either_false (p x) _ (or_left (p x) _ none) (any-take p k xs (or_right (p x) _ none))

-- what a filter leaves out fails a test that asks for it
any-left_out : {X : Type 0} (p q : X → Bool) → ((x : X) → q x ≡ false → p x ≡ false) → (xs : List X) → list_any p (filter (λ x. not (q x)) xs) ≡ false
any-left_out p q out [] = refl
any-left_out p q out (x ∷ xs) = by_test (q x) refl (any-left_out p q out xs)
  where
    by_test : (b : Bool) → q x ≡ b → list_any p (filter (λ x. not (q x)) xs) ≡ false → list_any p (cond (not b) (x ∷ filter (λ x. not (q x)) xs) (filter (λ x. not (q x)) xs)) ≡ false
    by_test true is rest = rest
    by_test false is rest = either_false (p x) _ (out x is) rest

and_none : (a b : Bool) → a ≡ false → (a && b) ≡ false
and_none true b is = absurd (cc)
and_none false b is = refl

module _ (n id : ℕ) (bytes : List ℕ) where
  abbrev pub it : Token → Bool
  it t = eqb t.id id && bytes_eq t.bytes bytes

  abbrev pub its : PendingToken → Bool
  its p = eqb p.user n && (eqb p.id id && bytes_eq p.bytes bytes)

  abbrev has_it : User → Bool
  has_it u = list_any it u.tokens

  -- no active token is it, and no pending one
  abbrev NoneActive : List User → Type 0
  NoneActive users = option_map_or has_it (user_of users n) false ≡ false

  abbrev NonePending : List PendingToken → Type 0
  NonePending pending = list_any its pending ≡ false

  pub record Gone (s : State) : Type 0 where
    pub active : NoneActive s.vault.users
    pub pending : NonePending s.session.pending

  -- ---- active tokens
  at_same : (f : User → User) → ((u : User) → has_it u ≡ false → has_it (f u) ≡ false) → (o : Option User) → option_map_or has_it o false ≡ false → option_map_or has_it (option_map f o) false ≡ false
  at_same f still None none = refl
  at_same f still (Some u) none = still u none

  as_seen : (o q : Option User) → option_map has_it o ≡ option_map has_it q → option_map_or has_it q false ≡ false → option_map_or has_it o false ≡ false
  as_seen None q same none = refl
  as_seen (Some u) None same none = absurd (cc)
  as_seen (Some u) (Some v) same none = let e : has_it u ≡ has_it v = cc in e ∙ none

  changed_cases : (users : List User) (m : ℕ) (f : User → User) (b : Bool) → eqb m n ≡ b → ((u : User) → (f u).number ≡ u.number) → ((u : User) → has_it u ≡ false → has_it (f u) ≡ false)
      → NoneActive users → NoneActive (changed users m f)
  changed_cases users m f true this number still none =
      subst (λ k. NoneActive (changed users k f)) (sym (eqb_is m n this))
      (subst (λ (o : Option User). option_map_or has_it o false ≡ false) (sym (user_of-changed f number n users)) (at_same f still (user_of users n) none))
  changed_cases users m f false other number still none =
      as_seen (user_of (changed users m f) n) (user_of users n) (seen_other has_it f number m n (eqb_differs m n other) users) none

  none_changed : (users : List User) (m : ℕ) (f : User → User) → ((u : User) → (f u).number ≡ u.number) → ((u : User) → has_it u ≡ false → has_it (f u) ≡ false)
      → NoneActive users → NoneActive (changed users m f)
  none_changed users m f number still none = changed_cases users m f (eqb m n) refl number still none

  none_with : (users : List User) (user : User) → has_it user ≡ false → NoneActive users → NoneActive (with_user users user)
  none_with users user here none = by_number (eqb user.number n) refl
    where
      by_number : (b : Bool) → eqb user.number n ≡ b → NoneActive (with_user users user)
      by_number true this =
          subst (λ k. option_map_or has_it (user_of (with_user users user) k) false ≡ false) (eqb_is user.number n this)
          (subst (λ (o : Option User). option_map_or has_it o false ≡ false) (sym (user_of-with users user)) here)
      by_number false other =
          subst (λ (o : Option User). option_map_or has_it o false ≡ false) (sym (user_of-with_other users user n (eqb_differs user.number n other))) none

  none_without : (users : List User) (m : ℕ) → NoneActive users → NoneActive (without_user users m)
  none_without users m none = by_number (eqb m n) refl
    where
      by_number : (b : Bool) → eqb m n ≡ b → NoneActive (without_user users m)
      by_number true this =
          subst (λ k. NoneActive (without_user users k)) (sym (eqb_is m n this))
          (subst (λ (o : Option User). option_map_or has_it o false ≡ false) (sym (user_of-without users n)) refl)
      by_number false other =
          subst (λ (o : Option User). option_map_or has_it o false ≡ false) (sym (user_of-without_other users m n (eqb_differs m n other))) none

  -- ---- pending tokens

  -- those of another user aren't it, and those of this user are it as active ones
  any_activated : (m : ℕ) (pending : List PendingToken) → eqb m n ≡ true → NonePending pending → list_any it (map activated (pending_of pending m)) ≡ false
  any_activated m [] this none = refl
  any_activated m (p ∷ pending) this none = by_user (eqb p.user m) refl (or_left (its p) _ none) (any_activated m pending this (or_right (its p) _ none))
    where
      by_user : (b : Bool) → eqb p.user m ≡ b → its p ≡ false → list_any it (map activated (pending_of pending m)) ≡ false
          → list_any it (map activated (cond b (p ∷ pending_of pending m) (pending_of pending m))) ≡ false
      by_user true is here rest =
          either_false (it (activated p)) _ (sym (ap (λ k. eqb k n && it (activated p)) (eqb_is p.user m is) ∙ ap (λ b. b && it (activated p)) this) ∙ here) rest
      by_user false is here rest = rest

  any_map_take : (k : ℕ) (ps : List PendingToken) → list_any it (map activated ps) ≡ false → list_any it (map activated (take k ps)) ≡ false
  any_map_take zero ps none = refl
  any_map_take (suc k) [] none = refl
  any_map_take (suc k) (p ∷ ps) none = either_false (it (activated p)) _ (or_left (it (activated p)) _ none) (any_map_take k ps (or_right (it (activated p)) _ none))

  any_without_first : (k : ℕ) (pending : List PendingToken) (m : ℕ) → NonePending pending → NonePending (without_first k pending m)
  any_without_first zero pending m none = none
  any_without_first (suc k) [] m none = refl
  any_without_first (suc k) (p ∷ pending) m none =
      by_user (eqb p.user m) (or_left (its p) _ none) (any_without_first k pending m (or_right (its p) _ none)) (any_without_first (suc k) pending m (or_right (its p) _ none))
    where
      by_user : (b : Bool) → its p ≡ false → NonePending (without_first k pending m) → NonePending (without_first (suc k) pending m)
          → NonePending (cond b (without_first k pending m) (p ∷ without_first (suc k) pending m))
      by_user true here rest more = rest
      by_user false here rest more = either_false (its p) _ here more

  -- ---- a step
  module _ (slots : ℕ) (s : State) (moment : ℕ) (drawn : List ℕ) (gone : Gone s) where
    -- the tokens that become active aren't it, at least where they are this user's
    activated_none : (user k : ℕ) → NoneActive (changed s.vault.users user (with_tokens (map activated (take k (pending_of s.session.pending user)))))
    activated_none user k = by_user (eqb user n) refl
      where
        more : List Token
        more = map activated (take k (pending_of s.session.pending user))

        by_user : (b : Bool) → eqb user n ≡ b → NoneActive (changed s.vault.users user (with_tokens (map activated (take k (pending_of s.session.pending user)))))
        by_user true this =
            none_changed s.vault.users user (with_tokens _) (λ u. refl)
            (λ u none. any-append it u.tokens _ none (any_map_take k (pending_of s.session.pending user) (any_activated user s.session.pending this gone.pending))) gone.active
        by_user false other =
            as_seen (user_of (changed s.vault.users user (with_tokens _)) n) (user_of s.vault.users n)
            (seen_other has_it (with_tokens _) (λ u. refl) user n (eqb_differs user n other) s.vault.users) gone.active

    moved : (c : Command) → Moved NoneActive slots s moment drawn c
    moved (command.Add user escrow) = none_with s.vault.users (new_user user escrow drawn) refl gone.active
    moved (command.Drop user) = none_without s.vault.users user gone.active
    moved (command.Attempt user offered) =
        (none_changed s.vault.users user cleared (λ u. refl) (λ u none. none) gone.active, none_changed s.vault.users user (failed moment) (λ u. refl) (λ u none. none) gone.active)
    moved (command.Change user new) = none_changed s.vault.users user (given s.vault.users new drawn) (λ u. refl) (λ u none. none) gone.active
    moved (command.Activate user) = activated_none user (activated_count slots s user)
    moved (command.TokenDrop user i) = none_changed s.vault.users user (without_its i) (λ u. refl) (λ u none. any-filter it _ u.tokens none) gone.active
    moved (command.EscrowOff user) = none_changed s.vault.users user plain (λ u. refl) (λ u none. refl) gone.active
    moved (command.AutoPin user on) = none_changed s.vault.users user (with_auto on) (λ u. refl) (λ u none. none) gone.active
    moved c = tt

    -- an added token isn't it, where its adding wasn't told so
    added_none : (user : ℕ) (added : List ℕ) (i : ℕ) → adds_token n id bytes (command.TokenAdd user added) (reply.TokenId i) ≡ false → NonePending (s.session.pending ++ record { user = user; id = i; bytes = added } ∷ [])
    added_none user added i not =
        any-append its s.session.pending _ gone.pending (either_false _ false (swapped (eqb user n) (bytes_eq added bytes) (eqb i id) not) refl)
      where
        swapped : (a b c : Bool) → (a && (b && c)) ≡ false → (a && (c && b)) ≡ false
        swapped true true true is = is
        swapped true true false is = refl
        swapped true false true is = refl
        swapped true false false is = refl
        swapped false b c is = refl

    pends : (c : Command) → adds_token n id bytes c (step slots s c moment drawn).reply ≡ false → refusal slots s c moment ≡ None → Pends NonePending slots s moment drawn c
    pends (command.Drop user) not accepted = any-filter its _ s.session.pending gone.pending
    pends (command.TokenAdd user added) not accepted =
        added_none user added (fresh (drawn_number drawn) (token_ids s))
        (sym (ap (λ (r : Option Refusal). adds_token n id bytes (command.TokenAdd user added) (unless r s (effect slots s (command.TokenAdd user added) moment drawn)).reply) accepted) ∙ not)
    pends (command.Activate user) not accepted = any_without_first (activated_count slots s user) s.session.pending user gone.pending
    pends (command.TokenDrop user i) not accepted = any-filter its _ s.session.pending gone.pending
    pends (command.EscrowOff user) not accepted = any-filter its _ s.session.pending gone.pending
    pends c not accepted = tt

    pub stays_gone : (c : Command) → adds_token n id bytes c (step slots s c moment drawn).reply ≡ false → Gone (step slots s c moment drawn).state
    stays_gone c not = record {
      active = at_accepted NoneActive slots s moment drawn c gone.active (λ accepted. moved c);
      pending = at_pending NonePending slots s moment drawn c gone.pending (pends c not);
    }

  -- ---- it opens nothing

  opened_is : (r : Reply) → is_opened r ≡ true → (revealed : Revealed) × (r ≡ reply.Opened revealed)
  opened_is (reply.Opened revealed) is = (revealed, refl)
  opened_is r is = absurd (cc)

  -- one that is found is one of them
  found_any : (ts : List Token) (t : Token) → token_of ts id ≡ Some t → bytes_eq t.bytes bytes ≡ true → list_any it ts ≡ true
  found_any [] t found same = absurd (cc)
  found_any (x ∷ ts) t found same = by_id (eqb x.id id) refl found (λ rest. found_any ts t rest same)
    where
      or_left_true : (a b : Bool) → a ≡ true → (a || b) ≡ true
      or_left_true true b is = is
      or_left_true false b is = absurd (cc)

      or_right_true : (a b : Bool) → b ≡ true → (a || b) ≡ true
      or_right_true true b is = refl
      or_right_true false b is = is

      and_both : (a b : Bool) → a ≡ true → b ≡ true → (a && b) ≡ true
      and_both true b p q = q
      and_both false b p q = absurd (cc)

      by_id : (b : Bool) → eqb x.id id ≡ b → cond b (Some x) (token_of ts id) ≡ Some t → (token_of ts id ≡ Some t → list_any it ts ≡ true) → (it x || list_any it ts) ≡ true
      by_id true is found rest =
          let e : x ≡ t = cc in
          or_left_true (it x) _ (and_both (eqb x.id id) (bytes_eq x.bytes bytes) is (ap (λ (y : Token). bytes_eq y.bytes bytes) e ∙ same))
      by_id false is found rest = or_right_true (it x) _ (rest found)

  by_found : (o : Option User) (u : User) → o ≡ Some u → option_map_or has_it o false ≡ has_it u
  by_found o u is = ap (λ (o : Option User). option_map_or has_it o false) is

  -- these bytes under this id don't open
  closed : (slots : ℕ) (s : State) (moment : ℕ) (drawn : List ℕ) → Gone s → (offered : List ℕ) → bytes_eq offered bytes ≡ true
      → (b : Bool) → is_opened (step slots s (command.TokenAttempt n id offered) moment drawn).reply ≡ b → b ≡ false
  closed slots s moment drawn gone offered same false is = refl
  closed slots s moment drawn gone offered same true is =
      let h = opened_is (step slots s (command.TokenAttempt n id offered) moment drawn).reply is in
      let o : OpensByToken s n id offered h.0 = (by_token slots s n id offered moment drawn h.0).0 h.1 in
      let any : has_it o.found ≡ true = found_any o.found.tokens o.token o.active (ap (λ (b : List ℕ). bytes_eq b bytes) (sym o.same) ∙ same) in
      let none : has_it o.found ≡ false = sym (by_found (user_of s.vault.users n) o.found o.there) ∙ gone.active in
      absurd (cc)

  never_cases : (slots : ℕ) (s : State) (moment : ℕ) (drawn : List ℕ) → Gone s → (u i : ℕ) (offered : List ℕ) (a b d : Bool) → eqb u n ≡ a → eqb i id ≡ b → bytes_eq offered bytes ≡ d
      → (a && (b && (d && is_opened (step slots s (command.TokenAttempt u i offered) moment drawn).reply))) ≡ false
  never_cases slots s moment drawn gone u i offered false b d ua ib od = refl
  never_cases slots s moment drawn gone u i offered true false d ua ib od = refl
  never_cases slots s moment drawn gone u i offered true true false ua ib od = refl
  never_cases slots s moment drawn gone u i offered true true true ua ib od =
      subst (λ k. is_opened (step slots s (command.TokenAttempt k i offered) moment drawn).reply ≡ false) (sym (eqb_is u n ua))
      (subst (λ j. is_opened (step slots s (command.TokenAttempt n j offered) moment drawn).reply ≡ false) (sym (eqb_is i id ib))
      (closed slots s moment drawn gone offered od (is_opened (step slots s (command.TokenAttempt n id offered) moment drawn).reply) refl))

  pub never : (slots : ℕ) (s : State) (c : Command) (moment : ℕ) (drawn : List ℕ) → Gone s → opens_by_token n id bytes c (step slots s c moment drawn).reply ≡ false
  never slots s (command.TokenAttempt u i offered) moment drawn gone = never_cases slots s moment drawn gone u i offered (eqb u n) (eqb i id) (bytes_eq offered bytes) refl refl refl
  never slots s c moment drawn gone = refl

  -- ---- it ends

  its_user : (p : PendingToken) → eqb p.user n ≡ false → its p ≡ false
  its_user p other = and_none (eqb p.user n) _ other

  none_of_others : (pending : List PendingToken) → NonePending (pending_of_others pending n)
  none_of_others pending = any-left_out its (λ p. eqb p.user n) its_user pending

  none_without_pending : (pending : List PendingToken) → NonePending (without_pending pending n id)
  none_without_pending pending = any-left_out its (λ p. eqb p.user n && eqb p.id id) (λ p other. out (eqb p.user n) (eqb p.id id) (bytes_eq p.bytes bytes) other) pending
    where
      out : (a b d : Bool) → (a && b) ≡ false → (a && (b && d)) ≡ false
      out true true d is = absurd (cc)
      out true false d is = refl
      out false b d is = refl

  none_without_token : (ts : List Token) → list_any it (without_token ts id) ≡ false
  none_without_token ts = any-left_out it (λ t. eqb t.id id) (λ t other. and_none (eqb t.id id) _ other) ts

  -- a change of this user that leaves no such token
  none_here : (users : List User) (f : User → User) → ((u : User) → (f u).number ≡ u.number) → ((u : User) → has_it (f u) ≡ false) → NoneActive (changed users n f)
  none_here users f number ends = subst (λ (o : Option User). option_map_or has_it o false ≡ false) (sym (user_of-changed f number n users)) (at_ended (user_of users n))
    where
      at_ended : (o : Option User) → option_map_or has_it (option_map f o) false ≡ false
      at_ended None = refl
      at_ended (Some u) = ends u

  and_fst : (a b : Bool) → (a && b) ≡ true → a ≡ true
  and_fst true b is = refl
  and_fst false b is = absurd (cc)

  and_snd : (a b : Bool) → (a && b) ≡ true → b ≡ true
  and_snd true b is = is
  and_snd false b is = absurd (cc)

  dropped_gone : (s : State) → Gone (token_dropped s n id)
  dropped_gone s =
      at_committed_if Gone (is_active s n id) _
      (record { active = none_here s.vault.users (without_its id) (λ u. refl) (λ u. none_without_token u.tokens); pending = none_without_pending s.session.pending })
      (record { active = none_here s.vault.users (without_its id) (λ u. refl) (λ u. none_without_token u.tokens); pending = none_without_pending s.session.pending })

  fine_only : (s t : State) (r : Option Refusal) → is_fine (unless r s (record { reply = reply.Fine; state = t })).reply ≡ true → Gone t → Gone (unless r s (record { reply = reply.Fine; state = t })).state
  fine_only s t None is gone = gone
  fine_only s t (Some why) is gone = absurd (cc)

  pub ended : (slots : ℕ) (s : State) (c : Command) (moment : ℕ) (drawn : List ℕ) → ends_token n id c (step slots s c moment drawn).reply ≡ true → Gone (step slots s c moment drawn).state
  ended slots s (command.Drop u) moment drawn is =
      let this = eqb_is u n (and_fst (eqb u n) _ is) in
      fine_only s _ (refusal slots s (command.Drop u) moment) (and_snd (eqb u n) _ is)
      (subst (λ k. Gone (dropped s k)) (sym this)
      (record { active = subst (λ (o : Option User). option_map_or has_it o false ≡ false) (sym (user_of-without s.vault.users n)) refl; pending = none_of_others s.session.pending }))
  ended slots s (command.TokenDrop u i) moment drawn is =
      let this = eqb_is u n (and_fst (eqb u n) _ is) in
      let that = eqb_is i id (and_fst (eqb i id) _ (and_snd (eqb u n) _ is)) in
      fine_only s _ (refusal slots s (command.TokenDrop u i) moment) (and_snd (eqb i id) _ (and_snd (eqb u n) _ is))
      (subst (λ k. Gone (token_dropped s k i)) (sym this) (subst (λ j. Gone (token_dropped s n j)) (sym that) (dropped_gone s)))
  ended slots s (command.EscrowOff u) moment drawn is =
      let this = eqb_is u n (and_fst (eqb u n) _ is) in
      fine_only s _ (refusal slots s (command.EscrowOff u) moment) (and_snd (eqb u n) _ is)
      (subst (λ k. Gone (escrow_ended s k)) (sym this)
      (record { active = none_here s.vault.users plain (λ u. refl) (λ u. refl); pending = none_of_others s.session.pending }))
  ended slots s c moment drawn is = absurd (cc)

  pub never_along : (slots : ℕ) (s : State) (events : List Event) → Gone s → list_any (passes (adds_token n id bytes)) (history slots s events) ≡ false
      → list_any (passes (opens_by_token n id bytes)) (history slots s events) ≡ false
  never_along slots =
      none_along slots Gone (adds_token n id bytes) (λ s c moment drawn gone not. stays_gone slots s moment drawn gone c not)
      (λ s boot books gone. record { active = gone.active; pending = refl }) (opens_by_token n id bytes) (λ s c moment drawn gone. never slots s c moment drawn gone)
