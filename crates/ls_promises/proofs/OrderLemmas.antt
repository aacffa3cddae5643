-- Numbers of opened, captured and armed users ascend.
use Rattle.std.proofs.Common.{◌≡◌, ◌<◌, ℕ, Bool, true, false, not, cond, eqb, ltb, List, [], ◌∷◌, Option, None, Some, length, refl, sym, subst, arith}
use Rattle.std.proofs.lemmas.Bool.Decides.{nat_tests}
use Rattle.std.specs.Prelude.{◌==◌, nat_lt, bytes_eq, filter}
use Rattle.std.specs.List.{AllByRecursion}
use Rattle.ls_promises.proofs.LimitLemmas.{all_less}
use Rattle.ls_promises.proofs.Steps.{cond_both, arming_both, at_unless, at_user, at_committed_if}
use Rattle.ls_promises.specs.Soundness.{IsAscending, IsOrdered, armed_numbers}
use Rattle.ls_script.specs.declared.command.Command.{Command}
use Rattle.ls_script.specs.declared.command.Command.TheVariants as command
use Rattle.ls_vault.specs.Arming.{unarmed, prepared, resumed, is_good, taken, all_opened}
use Rattle.ls_vault.specs.Effects.{effect, auto_set}
use Rattle.ls_vault.specs.Histories.{Event, command as served, restarted, happening, state_after}
use Rattle.ls_vault.specs.Limits.{is_worn, activated_count}
use Rattle.ls_vault.specs.Refusals.{refusal, differs}
use Rattle.ls_vault.specs.States.{with_users, with_arming, with_dead, committed}
use Rattle.ls_vault.specs.Step.{step, restart}
use Rattle.ls_vault.specs.TokenChanges.{first_activated}
use Rattle.ls_vault.specs.Tokens.{is_active}
use Rattle.ls_vault.specs.Unlocking.{opened, cleared, attempted, token_attempted}
use Rattle.ls_arming.specs.Disarming.{disarmed}
use Rattle.ls_vault.specs.Users.{user_of, changed}
use Rattle.ls_arming.specs.Numbers.{with_number, with_numbers, without_number}
use Rattle.ls_vault.specs.declared.state.Outcome.{Outcome}
use Rattle.ls_vault.specs.declared.state.State.{State}
use Rattle.ls_arming.specs.declared.arming.Arming.{Arming}

-- ---- one number more, or less

all_with : (P : ℕ → Type 0) (ns : List ℕ) (n : ℕ) → AllByRecursion P ns → P n → AllByRecursion P (with_number ns n)
all_with P [] n all here = (here, tt)
all_with P (x ∷ ns) n all here = by_tests (ltb x n) (eqb x n) (all_with P ns n all.1 here)
  where
    by_tests : (b d : Bool) → AllByRecursion P (with_number ns n) → AllByRecursion P (cond b (x ∷ with_number ns n) (cond d (x ∷ ns) (n ∷ x ∷ ns)))
    by_tests true d rest = (all.0, rest)
    by_tests false true rest = all
    by_tests false false rest = (here, all)

order_with : (ns : List ℕ) (n : ℕ) → IsAscending ns → IsAscending (with_number ns n)
order_with [] n asc = (tt, tt)
order_with (x ∷ ns) n asc = by_tests (ltb x n) (eqb x n) refl refl (order_with ns n asc.1)
  where
    by_tests : (b d : Bool) → ltb x n ≡ b → eqb x n ≡ d → IsAscending (with_number ns n) → IsAscending (cond b (x ∷ with_number ns n) (cond d (x ∷ ns) (n ∷ x ∷ ns)))
    by_tests true d less same rest =
        let h : x < n = grind (arith, nat_tests, less) in
        (all_with (λ m. x < m) ns n asc.0 h, rest)
    by_tests false true less same rest = asc
    by_tests false false less other rest =
        let h : n < x = grind (arith, nat_tests, less, other) in
        ((h, all_less n x ns h asc.0), asc)

order_with_all : (more ns : List ℕ) → IsAscending ns → IsAscending (with_numbers ns more)
order_with_all [] ns asc = asc
order_with_all (n ∷ more) ns asc = order_with_all more (with_number ns n) (order_with ns n asc)

all_left : (P : ℕ → Type 0) (q : ℕ → Bool) (ns : List ℕ) → AllByRecursion P ns → AllByRecursion P (filter q ns)
all_left P q [] all = tt
all_left P q (x ∷ ns) all = by_test (q x) (all_left P q ns all.1)
  where
    by_test : (b : Bool) → AllByRecursion P (filter q ns) → AllByRecursion P (cond b (x ∷ filter q ns) (filter q ns))
    by_test true rest = (all.0, rest)
    by_test false rest = rest

order_left : (q : ℕ → Bool) (ns : List ℕ) → IsAscending ns → IsAscending (filter q ns)
order_left q [] asc = tt
order_left q (x ∷ ns) asc = by_test (q x) (order_left q ns asc.1)
  where
    by_test : (b : Bool) → IsAscending (filter q ns) → IsAscending (cond b (x ∷ filter q ns) (filter q ns))
    by_test true rest = (all_left (λ m. x < m) q ns asc.0, rest)
    by_test false rest = rest

order_without : (ns : List ℕ) (n : ℕ) → IsAscending ns → IsAscending (without_number ns n)
order_without ns n asc = order_left (λ m. not (m == n)) ns asc

order_disarmed : (o : Option Arming) (user : ℕ) → IsAscending (armed_numbers o) → IsAscending (armed_numbers (disarmed o user))
order_disarmed None user asc = tt
order_disarmed (Some arming) user asc =
    arming_both (λ (o : Option Arming). IsAscending (armed_numbers o)) arming.boot (without_number arming.users user) tt (order_without arming.users user asc)

-- ---- parts of a state

ordered : (t : State) → IsAscending t.session.opened → IsAscending t.session.captured → IsAscending (armed_numbers t.vault.arming) → IsOrdered t
ordered t opened captured armed = record { opened = opened; captured = captured; armed = armed }

order_opened : (t : State) (user : ℕ) → IsOrdered t → IsOrdered (opened t user)
order_opened t user a =
    ordered (opened t user) (order_with t.session.opened user a.opened)
    (cond_both IsAscending t.session.prepared (with_number t.session.captured user) t.session.captured (order_with t.session.captured user a.captured) a.captured)
    a.armed

order_taken : (t : State) (users : List ℕ) → IsOrdered t → IsOrdered (taken t users)
order_taken t users a =
    cond_both IsOrdered (is_worn t) (with_arming (with_dead t users) None) (committed (with_arming t None))
    (ordered (with_arming (with_dead t users) None) a.opened a.captured tt) (ordered (committed (with_arming t None)) a.opened a.captured tt)

order_unarmed : (o : Option Arming) (t : State) → IsOrdered t → IsOrdered (unarmed o t)
order_unarmed None t a =
    cond_both IsOrdered (length t.books.dead == 0) t (cond (is_worn t) t (committed (with_dead t []))) a
    (cond_both IsOrdered (is_worn t) t (committed (with_dead t [])) a (ordered (committed (with_dead t [])) a.opened a.captured a.armed))
order_unarmed (Some arming) t a =
    cond_both IsOrdered (is_worn t) (with_arming (with_dead t arming.users) None) (committed (with_arming (with_dead t []) None))
    (ordered (with_arming (with_dead t arming.users) None) a.opened a.captured tt)
    (ordered (committed (with_arming (with_dead t []) None)) a.opened a.captured tt)

order_resumed : (o : Option Arming) (t : State) → IsOrdered t → IsOrdered (resumed o t).state
order_resumed None t a = a
order_resumed (Some arming) t a =
    let b = order_taken t arming.users a in
    cond_both (λ (out : Outcome). IsOrdered out.state) (is_good arming.boot t.session.boot) _ _
    (ordered (all_opened (taken t arming.users) arming.users) (order_with_all arming.users (taken t arming.users).session.opened b.opened) b.captured b.armed)
    b

pub order_empty : (s : State) → s.vault.arming ≡ None → s.session.opened ≡ [] → s.session.captured ≡ [] → IsOrdered s
order_empty s arming opened captured =
    ordered s (subst IsAscending (sym opened) tt) (subst IsAscending (sym captured) tt)
    (subst (λ (o : Option Arming). IsAscending (armed_numbers o)) (sym arming) tt)

-- ---- each command that isn't refused

module _ (slots : ℕ) where
  module _ (s : State) (moment : ℕ) (drawn : List ℕ) (a : IsOrdered s) where
    -- what neither the session's numbers nor the arming are part of
    beside : (t : State) → t.session.opened ≡ s.session.opened → t.session.captured ≡ s.session.captured → t.vault.arming ≡ s.vault.arming → IsOrdered t
    beside t opened captured armed =
        ordered t (subst IsAscending (sym opened) a.opened) (subst IsAscending (sym captured) a.captured)
        (subst (λ (o : Option Arming). IsAscending (armed_numbers o)) (sym armed) a.armed)

    order_effect : (c : Command) → IsOrdered (effect slots s c moment drawn).state
    order_effect (command.Add user escrow) = beside _ refl refl refl
    order_effect (command.Drop user) =
        ordered (effect slots s (command.Drop user) moment drawn).state (order_without s.session.opened user a.opened)
        (order_without s.session.captured user a.captured) (order_disarmed s.vault.arming user a.armed)
    order_effect (command.Attempt user offered) =
        at_user IsOrdered (user_of s.vault.users user) s (attempted s user offered moment) a
        (λ u found. cond_both (λ (out : Outcome). IsOrdered out.state) (bytes_eq offered.text u.credential.text) _ _
        (order_opened (with_users s (changed s.vault.users user cleared)) user (beside _ refl refl refl))
        (beside _ refl refl refl))
    order_effect (command.Change user new) = beside _ refl refl refl
    order_effect (command.Lock user) =
        ordered (effect slots s (command.Lock user) moment drawn).state (order_without s.session.opened user a.opened) a.captured a.armed
    order_effect (command.Status user) = at_user IsOrdered (user_of s.vault.users user) s _ a (λ u found. a)
    order_effect command.Users = a
    order_effect (command.TokenAdd user bytes) = beside _ refl refl refl
    order_effect (command.Activate user) =
        at_committed_if IsOrdered (nat_lt 0 (activated_count slots s user)) (first_activated (activated_count slots s user) s user)
        (beside _ refl refl refl) (beside _ refl refl refl)
    order_effect (command.TokenDrop user id) =
        at_committed_if IsOrdered (is_active s user id) _ (beside _ refl refl refl) (beside _ refl refl refl)
    order_effect (command.TokenState user id) = a
    order_effect (command.TokenAttempt user id offered) =
        at_user IsOrdered (user_of s.vault.users user) s (token_attempted s user) a (λ u found. order_opened s user a)
    order_effect (command.EscrowOff user) = beside _ refl refl refl
    order_effect command.Prepare =
        let b = order_unarmed s.vault.arming s a in ordered (prepared s) b.opened tt b.armed
    order_effect command.Arm = ordered (effect slots s command.Arm moment drawn).state a.opened tt a.captured
    order_effect command.Resume = order_resumed s.vault.arming s a
    order_effect (command.AutoPin user on) =
        at_user IsOrdered (user_of s.vault.users user) s (λ u. record { reply = _; state = auto_set s user on u }) a
        (λ u found. at_committed_if IsOrdered (differs u.auto on) _ (beside _ refl refl refl) (beside _ refl refl refl))
    order_effect (command.PinLength user) = at_user IsOrdered (user_of s.vault.users user) s _ a (λ u found. a)

  pub order_step : (s : State) (c : Command) (moment : ℕ) (drawn : List ℕ) → IsOrdered s → IsOrdered (step slots s c moment drawn).state
  order_step s c moment drawn a =
      at_unless IsOrdered (refusal slots s c moment) s (effect slots s c moment drawn) a (λ accepted. order_effect s moment drawn a c)

  -- ---- a history

  order_event : (s : State) (event : Event) → IsOrdered s → IsOrdered (happening slots s event).state
  order_event s (served c moment drawn) a = order_step s c moment drawn a
  order_event s (restarted boot books) a = ordered (restart s boot books) tt tt a.armed

  pub order_history : (s : State) (events : List Event) → IsOrdered s → IsOrdered (state_after slots s events)
  order_history s [] a = a
  order_history s (event ∷ events) a = order_history (happening slots s event).state events (order_event s event a)
