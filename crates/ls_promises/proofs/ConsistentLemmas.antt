-- Each command and each restart leaves a state consistent.
use Rattle.std.proofs.Common.{◌≡◌, ◌≢◌, ◌≤◌, ◌+◌, ◌%◌, ◌^◌, ℕ, zero, suc, Bool, true, false, not, cond, eqb, List, [], ◌∷◌, ◌++◌, Option, None, Some, length, length-append, refl, sym, ◌∙◌, ap, subst, arith}
use Rattle.std.specs.Prelude.{◌==◌, ◌&&◌, nat_lt, filter, bytes_eq}
use Rattle.ls_credential.specs.Rules.{KindAndText}
use Rattle.ls_promises.proofs.EachLemmas.{Each, each_none, each_changed, each_with, each_without, found_before, other_found}
use Rattle.ls_promises.proofs.LimitLemmas.{waiting, moving, moving_length, moving_others, waiting_filter, waiting-push, length_filter}
use Rattle.ls_promises.proofs.Lookups.{KeepsNumber, not_eqb, user_of-with, user_of-with_other, user_of-without, user_of-without_other}
use Rattle.ls_promises.proofs.SoundCommands.{of_accepted, passed, sound_step, sound_restart}
use Rattle.ls_promises.proofs.SoundParts.{tokens_found, at_number}
use Rattle.ls_promises.proofs.SoundSteps.{none_waits}
use Rattle.ls_promises.proofs.Steps.{cond_both, with_auto, Moved, at_unless, at_user, at_committed_if, at_step}
use Rattle.ls_promises.specs.Consistency.{IsConsistent}
use Rattle.ls_promises.specs.Soundness.{IsSound}
use Rattle.ls_script.specs.declared.command.Command.{Command}
use Rattle.ls_script.specs.declared.command.Command.TheVariants as command
use Rattle.ls_vault.specs.Arming.{unarmed, resumed, is_good}
use Rattle.ls_vault.specs.Credentials.{secure_ids, given}
use Rattle.ls_vault.specs.Effects.{effect, auto_set}
use Rattle.ls_vault.specs.Fresh.{odd, first_free, fresh, drawn_number}
use Rattle.ls_vault.specs.Histories.{Event, command as served, restarted, state_after}
use Rattle.ls_vault.specs.Kinds.{is_empty}
use Rattle.ls_vault.specs.Limits.{is_worn, activated_count, token_count}
use Rattle.ls_vault.specs.Refusals.{refusal, differs, token_add_refusal}
use Rattle.ls_vault.specs.Step.{step, restart}
use Rattle.ls_vault.specs.TokenChanges.{with_tokens, first_activated, without_its, plain}
use Rattle.ls_vault.specs.Tokens.{pending_of_others, without_pending, without_first, is_active}
use Rattle.ls_vault.specs.Unlocking.{cleared, failed, attempted, token_attempted}
use Rattle.ls_vault.specs.UserChanges.{new_user}
use Rattle.ls_vault.specs.Users.{user_of, is_user, changed, with_user, without_user}
use Rattle.ls_arming.specs.Numbers.{contains}
use Rattle.ls_vault.specs.declared.state.Outcome.{Outcome}
use Rattle.ls_vault.specs.declared.state.State.{State}
use Rattle.ls_vault.specs.declared.token.PendingToken.{PendingToken}
use Rattle.ls_vault.specs.declared.token.Token.{Token}
use Rattle.ls_vault.specs.declared.user.User.{User}
use Rattle.ls_arming.specs.declared.arming.Arming.{Arming}
use Rattle.ls_vault.specs.declared.vault.Books.{Books}

-- ---- secure ids

-- a fresh one isn't 0
odd_free : (k d : ℕ) (taken : List ℕ) → d % 2 ≡ 1 → first_free k d taken % 2 ≡ 1
unfolding first_free
odd_free zero d taken is = is
odd_free (suc k) d taken is =
    cond_both (λ n. n % 2 ≡ 1) (contains taken d) (first_free k ((d + 2) % 2 ^ 64) taken) d (odd_free k ((d + 2) % 2 ^ 64) taken (omega (arith, is))) is

fresh_some : (d : ℕ) (taken : List ℕ) → eqb (fresh d taken) 0 ≡ false
fresh_some d taken = not_eqb (fresh d taken) 0 (λ e. let h = odd_free (length taken) (odd d) taken (omega arith) in omega (arith, e, h))

abbrev HasId : User → Type 0
HasId u = is_empty u.credential.kind ≡ (u.secure == 0)

id_given : (users : List User) (new : KindAndText) (drawn : List ℕ) (u : User) → HasId u → HasId (given users new drawn u)
id_given users new drawn u has = by_new (is_empty new.kind) (is_empty u.credential.kind) has
  where
    by_new : (b d : Bool) → d ≡ (u.secure == 0) → b ≡ eqb (cond b 0 (cond (d && not b) (fresh (drawn_number drawn) (secure_ids users)) u.secure)) 0
    by_new true d has = refl
    by_new false true has = sym (fresh_some (drawn_number drawn) (secure_ids users))
    by_new false false has = has

module _ (slots : ℕ) (s : State) (moment : ℕ) (drawn : List ℕ) (all : Each HasId s.vault.users) where
  id_kept : (f : User → User) → KeepsNumber f → ((u : User) → HasId u → HasId (f u)) → (user : ℕ) → Each HasId (changed s.vault.users user f)
  id_kept f keeps same user = each_changed HasId s.vault.users user f keeps (λ u there has. same u has) all

  id_moved : (c : Command) → Moved (Each HasId) slots s moment drawn c
  id_moved (command.Add user escrow) = each_with HasId s.vault.users (new_user user escrow drawn) refl all
  id_moved (command.Drop user) = each_without HasId s.vault.users user all
  id_moved (command.Attempt user offered) = (id_kept cleared (λ u. refl) (λ u has. has) user, id_kept (failed moment) (λ u. refl) (λ u has. has) user)
  id_moved (command.Change user new) = id_kept (given s.vault.users new drawn) (λ u. refl) (id_given s.vault.users new drawn) user
  id_moved (command.Lock user) = tt
  id_moved (command.Status user) = tt
  id_moved command.Users = tt
  id_moved (command.TokenAdd user bytes) = tt
  id_moved (command.Activate user) = id_kept (with_tokens _) (λ u. refl) (λ u has. has) user
  id_moved (command.TokenDrop user id) = id_kept (without_its id) (λ u. refl) (λ u has. has) user
  id_moved (command.TokenState user id) = tt
  id_moved (command.TokenAttempt user id offered) = tt
  id_moved (command.EscrowOff user) = id_kept plain (λ u. refl) (λ u has. has) user
  id_moved command.Prepare = tt
  id_moved command.Arm = tt
  id_moved command.Resume = tt
  id_moved (command.AutoPin user on) = id_kept (with_auto on) (λ u. refl) (λ u has. has) user
  id_moved (command.PinLength user) = tt

  id_step : (c : Command) → Each HasId (step slots s c moment drawn).state.vault.users
  id_step c = at_step (Each HasId) slots s moment drawn c all (id_moved c)

-- ---- users without tokens

-- where the user may have no tokens it has none
abbrev PlainAt : List User → List PendingToken → ℕ → Type 0
PlainAt users pending m = (u : User) → user_of users m ≡ Some u → u.escrow ≡ false → length u.tokens + waiting pending m ≡ 0

abbrev ArePlain : List User → List PendingToken → Type 0
ArePlain users pending = (m : ℕ) → PlainAt users pending m

to_count : (s : State) (m : ℕ) → PlainAt s.vault.users s.session.pending m → (u : User) → user_of s.vault.users m ≡ Some u → u.escrow ≡ false → token_count s m ≡ 0
to_count s m all u there bare = ap (λ (ts : List Token). length ts + waiting s.session.pending m) (tokens_found s.vault.users m u there) ∙ all u there bare

from_count : (s : State) (m : ℕ) → ((u : User) → user_of s.vault.users m ≡ Some u → u.escrow ≡ false → token_count s m ≡ 0) → PlainAt s.vault.users s.session.pending m
from_count s m all u there bare = sym (ap (λ (ts : List Token). length ts + waiting s.session.pending m) (tokens_found s.vault.users m u there)) ∙ all u there bare

module _ (users : List User) (pending : List PendingToken) (all : ArePlain users pending) where
  -- a user is changed, and pending tokens with it
  plain_changed : (n : ℕ) (f : User → User) (after : List PendingToken) → KeepsNumber f
      → ((u : User) → user_of users n ≡ Some u → (u.escrow ≡ false → length u.tokens + waiting pending n ≡ 0) → (f u).escrow ≡ false → length (f u).tokens + waiting after n ≡ 0)
      → ((m : ℕ) → n ≢ m → waiting after m ≤ waiting pending m) → ArePlain (changed users n f) after
  plain_changed n f after keeps here less =
      at_number (λ m. PlainAt (changed users n f) after m) n
      (λ u is bare.
      let h = found_before users n f keeps u is in
      subst (λ (w : User). w.escrow ≡ false → length w.tokens + waiting after n ≡ 0) h.2 (here h.0 h.1 (all n h.0 h.1)) bare)
      (λ m differ u is bare. let h = all m u (sym (other_found users n m f keeps differ) ∙ is) bare in let k = less m differ in omega (arith, h, k))

  -- a user is changed in something else
  plain_kept : (n : ℕ) (f : User → User) → KeepsNumber f → ((u : User) → (f u).escrow ≡ u.escrow) → ((u : User) → (f u).tokens ≡ u.tokens) → ArePlain (changed users n f) pending
  plain_kept n f keeps escrow tokens =
      plain_changed n f pending keeps
      (λ u there old bare. let h = old (sym (escrow u) ∙ bare) in let k = ap length (tokens u) in omega (arith, h, k))
      (λ m differ. omega arith)

  plain_with : (new : User) → waiting pending new.number ≡ 0 → new.tokens ≡ [] → ArePlain (with_user users new) pending
  plain_with new none no_tokens =
      at_number (λ m. PlainAt (with_user users new) pending m) new.number
      (λ u is bare. let e : new ≡ u = same u (sym (user_of-with users new) ∙ is) in let k = ap (λ (v : User). length v.tokens) e in let z = ap length no_tokens in omega (arith, k, z, none))
      (λ m differ u is bare. all m u (sym (user_of-with_other users new m differ) ∙ is) bare)
    where
      same : (u : User) → Some new ≡ Some u → new ≡ u
      same u e = cc

  plain_without : (n : ℕ) → ArePlain (without_user users n) (pending_of_others pending n)
  plain_without n =
      at_number (λ m. PlainAt (without_user users n) (pending_of_others pending n) m) n
      (λ u is bare. absurd (let e = user_of-without users n in none u (sym e ∙ is)))
      (λ m differ u is bare.
      let h = all m u (sym (user_of-without_other users n m differ) ∙ is) bare in
      let k = waiting_filter (λ p. not (eqb p.user n)) pending m in
      omega (arith, h, k))
    where
      none : (u : User) → None ≡ Some u → ⊥
      none u e = cc

  plain_push : (p : PendingToken) → ((u : User) → user_of users p.user ≡ Some u → u.escrow ≡ true) → ArePlain users (pending ++ p ∷ [])
  plain_push p may =
      at_number (λ m. PlainAt users (pending ++ p ∷ []) m) p.user
      (λ u is bare. absurd (let e = may u is in cc))
      (λ m differ u is bare.
      let h = all m u is bare in
      let k = waiting-push pending p m in
      let z = ap {B = ℕ} (λ b. cond b 1 0) (not_eqb p.user m differ) in
      omega (arith, h, k, z))

  plain_activated : (n k : ℕ) → ArePlain (changed users n (with_tokens (moving k pending n))) (without_first k pending n)
  plain_activated n k =
      plain_changed n (with_tokens (moving k pending n)) (without_first k pending n) (λ u. refl)
      (λ u there old bare.
      let h = old bare in
      let e = length-append u.tokens (moving k pending n) in
      let m = moving_length k pending n in
      omega (arith, h, e, m))
      (λ m differ. let e = moving_others k pending n m differ in omega (arith, e))

  plain_dropped : (n id : ℕ) → ArePlain (changed users n (without_its id)) (without_pending pending n id)
  plain_dropped n id =
      plain_changed n (without_its id) (without_pending pending n id) (λ u. refl)
      (λ u there old bare.
      let h = old bare in
      let e = length_filter (λ t. not (t.id == id)) u.tokens in
      let w = waiting_filter (λ p. not (p.user == n && p.id == id)) pending n in
      omega (arith, h, e, w))
      (λ m differ. waiting_filter (λ p. not (p.user == n && p.id == id)) pending m)

  plain_ended : (n : ℕ) → ArePlain (changed users n plain) (pending_of_others pending n)
  plain_ended n =
      plain_changed n plain (pending_of_others pending n) (λ u. refl)
      (λ u there old bare. let w = none_waits users n pending in omega (arith, w))
      (λ m differ. waiting_filter (λ p. not (eqb p.user n)) pending m)

module _ (slots : ℕ) (s : State) (moment : ℕ) (drawn : List ℕ) (sound : IsSound slots s) (all : ArePlain s.vault.users s.session.pending) where
  abbrev Plain : State → Type 0
  Plain t = ArePlain t.vault.users t.session.pending

  plain_unarmed : (o : Option Arming) → Plain (unarmed o s)
  plain_unarmed None = cond_both Plain (length s.books.dead == 0) _ _ all (cond_both Plain (is_worn s) _ _ all all)
  plain_unarmed (Some arming) = cond_both Plain (is_worn s) _ _ all all

  plain_resumed : (o : Option Arming) → Plain (resumed o s).state
  plain_resumed None = all
  plain_resumed (Some a) =
      cond_both (λ (o : Outcome). Plain o.state) (is_good a.boot s.session.boot) _ _ (cond_both Plain (is_worn s) _ _ all all) (cond_both Plain (is_worn s) _ _ all all)

  plain_effect : (c : Command) → refusal slots s c moment ≡ None → Plain (effect slots s c moment drawn).state
  plain_effect (command.Add user escrow) accepted =
      let h = passed (is_user s.vault.users user) _ _ accepted in
      plain_with s.vault.users s.session.pending all (new_user user escrow drawn) (sound.waiting user h.0) refl
  plain_effect (command.Drop user) accepted = plain_without s.vault.users s.session.pending all user
  plain_effect (command.Attempt user offered) accepted =
      at_user Plain (user_of s.vault.users user) s (attempted s user offered moment) all
      (λ u found. cond_both (λ (o : Outcome). Plain o.state) (bytes_eq offered.text u.credential.text) _ _
      (plain_kept s.vault.users s.session.pending all user cleared (λ u. refl) (λ u. refl) (λ u. refl))
      (plain_kept s.vault.users s.session.pending all user (failed moment) (λ u. refl) (λ u. refl) (λ u. refl)))
  plain_effect (command.Change user new) accepted = plain_kept s.vault.users s.session.pending all user (given s.vault.users new drawn) (λ u. refl) (λ u. refl) (λ u. refl)
  plain_effect (command.Lock user) accepted = all
  plain_effect (command.Status user) accepted = at_user Plain (user_of s.vault.users user) s _ all (λ u found. all)
  plain_effect command.Users accepted = all
  plain_effect (command.TokenAdd user bytes) accepted =
      let h = of_accepted (user_of s.vault.users user) (token_add_refusal s user) accepted in
      let e = passed (not h.0.escrow) _ _ h.2 in
      plain_push s.vault.users s.session.pending all _ (λ u is. may h.0.escrow u.escrow (ap (λ (v : User). v.escrow) (same h.0 u (sym h.1 ∙ is))) e.0)
    where
      same : (v u : User) → Some v ≡ Some u → v ≡ u
      same v u e = cc

      may : (b d : Bool) → b ≡ d → not b ≡ false → d ≡ true
      may true d e is = sym e
      may false d e is = absurd (cc)
  plain_effect (command.Activate user) accepted =
      at_committed_if Plain (nat_lt 0 (activated_count slots s user)) (first_activated (activated_count slots s user) s user)
      (plain_activated s.vault.users s.session.pending all user (activated_count slots s user)) (plain_activated s.vault.users s.session.pending all user (activated_count slots s user))
  plain_effect (command.TokenDrop user id) accepted =
      at_committed_if Plain (is_active s user id) _ (plain_dropped s.vault.users s.session.pending all user id) (plain_dropped s.vault.users s.session.pending all user id)
  plain_effect (command.TokenState user id) accepted = all
  plain_effect (command.TokenAttempt user id offered) accepted = at_user Plain (user_of s.vault.users user) s (token_attempted s user) all (λ u found. all)
  plain_effect (command.EscrowOff user) accepted = plain_ended s.vault.users s.session.pending all user
  plain_effect command.Prepare accepted = plain_unarmed s.vault.arming
  plain_effect command.Arm accepted = all
  plain_effect command.Resume accepted = plain_resumed s.vault.arming
  plain_effect (command.AutoPin user on) accepted =
      at_user Plain (user_of s.vault.users user) s (λ u. record { reply = _; state = auto_set s user on u }) all
      (λ u found.
      let b = plain_kept s.vault.users s.session.pending all user (with_auto on) (λ u. refl) (λ u. refl) (λ u. refl) in
      at_committed_if Plain (differs u.auto on) _ b b)
  plain_effect (command.PinLength user) accepted = at_user Plain (user_of s.vault.users user) s _ all (λ u found. all)

  plain_step : (c : Command) → Plain (step slots s c moment drawn).state
  plain_step c = at_unless Plain (refusal slots s c moment) s (effect slots s c moment drawn) all (λ accepted. plain_effect c accepted)

-- ---- who is captured

module _ (slots : ℕ) (s : State) (moment : ℕ) (drawn : List ℕ) (none : s.session.prepared ≡ false → s.session.captured ≡ []) where
  abbrev Idle : State → Type 0
  Idle t = t.session.prepared ≡ false → t.session.captured ≡ []

  idle_opened : (b : Bool) (more : List ℕ) → s.session.prepared ≡ b → b ≡ false → cond b more s.session.captured ≡ []
  idle_opened true more is not = absurd (cc)
  idle_opened false more is not = none is

  idle_resumed : (o : Option Arming) → Idle (resumed o s).state
  idle_resumed None = none
  idle_resumed (Some a) =
      cond_both (λ (o : Outcome). Idle o.state) (is_good a.boot s.session.boot) _ _ (cond_both Idle (is_worn s) _ _ none none) (cond_both Idle (is_worn s) _ _ none none)

  idle_effect : (c : Command) → Idle (effect slots s c moment drawn).state
  idle_effect (command.Add user escrow) = none
  idle_effect (command.Drop user) = λ is. ap (λ (ns : List ℕ). filter (λ m. not (m == user)) ns) (none is)
  idle_effect (command.Attempt user offered) =
      at_user Idle (user_of s.vault.users user) s (attempted s user offered moment) none
      (λ u found. cond_both (λ (o : Outcome). Idle o.state) (bytes_eq offered.text u.credential.text) _ _
      (λ not. idle_opened s.session.prepared _ refl not) none)
  idle_effect (command.Change user new) = none
  idle_effect (command.Lock user) = none
  idle_effect (command.Status user) = at_user Idle (user_of s.vault.users user) s _ none (λ u found. none)
  idle_effect command.Users = none
  idle_effect (command.TokenAdd user bytes) = none
  idle_effect (command.Activate user) =
      at_committed_if Idle (nat_lt 0 (activated_count slots s user)) (first_activated (activated_count slots s user) s user) none none
  idle_effect (command.TokenDrop user id) = at_committed_if Idle (is_active s user id) _ none none
  idle_effect (command.TokenState user id) = none
  idle_effect (command.TokenAttempt user id offered) =
      at_user Idle (user_of s.vault.users user) s (token_attempted s user) none (λ u found not. idle_opened s.session.prepared _ refl not)
  idle_effect (command.EscrowOff user) = none
  idle_effect command.Prepare = λ not. refl
  idle_effect command.Arm = λ not. refl
  idle_effect command.Resume = idle_resumed s.vault.arming
  idle_effect (command.AutoPin user on) =
      at_user Idle (user_of s.vault.users user) s (λ u. record { reply = _; state = auto_set s user on u }) none
      (λ u found. at_committed_if Idle (differs u.auto on) _ none none)
  idle_effect (command.PinLength user) = at_user Idle (user_of s.vault.users user) s _ none (λ u found. none)

  idle_step : (c : Command) → Idle (step slots s c moment drawn).state
  idle_step c = at_unless Idle (refusal slots s c moment) s (effect slots s c moment drawn) none (λ accepted. idle_effect c)

-- ---- the three

pub consistent_empty : (s : State) → s.vault.users ≡ [] → s.session.captured ≡ [] → IsConsistent s
consistent_empty s users captured = record {
  secure = subst (λ (us : List User). Each HasId us) (sym users) (each_none HasId);
  plain = λ m u there. absurd (let e = ap (λ (us : List User). user_of us m) users in nobody u (sym e ∙ there));
  captured = λ not. captured;
}
  where
    nobody : (u : User) → None ≡ Some u → ⊥
    nobody u e = cc

pub consistent_step : (slots : ℕ) (s : State) (c : Command) (moment : ℕ) (drawn : List ℕ) → IsSound slots s → IsConsistent s → IsConsistent (step slots s c moment drawn).state
consistent_step slots s c moment drawn sound a = record {
  secure = id_step slots s moment drawn a.secure c;
  plain = λ m. to_count (step slots s c moment drawn).state m (plain_step slots s moment drawn sound (λ n. from_count s n (a.plain n)) c m);
  captured = idle_step slots s moment drawn a.captured c;
}

pub consistent_restart : (s : State) (boot : ℕ) (books : Books) → IsConsistent s → IsConsistent (restart s boot books)
consistent_restart s boot books a = record {
  secure = a.secure;
  plain = λ m u there not. let h = a.plain m u there not in omega (arith, h);
  captured = λ not. refl;
}

pub consistent_history : (slots : ℕ) (s : State) (events : List Event) → IsSound slots s → IsConsistent s → IsConsistent (state_after slots s events)
consistent_history slots s [] sound a = a
consistent_history slots s (served c moment drawn ∷ events) sound a =
    consistent_history slots (step slots s c moment drawn).state events (sound_step slots s c moment drawn sound) (consistent_step slots s c moment drawn sound a)
consistent_history slots s (restarted boot books ∷ events) sound a =
    consistent_history slots (restart s boot books) events (sound_restart slots s boot books sound) (consistent_restart s boot books a)
