-- Who is opened or captured was unlocked, or was armed.
use Rattle.std.proofs.Common.{◌≡◌, ◌≢◌, ℕ, Bool, true, false, cond, List, Option, None, Some, length, refl, ap}
use Rattle.std.specs.Prelude.{◌==◌, ◌&&◌, ◌||◌, nat_lt, bytes_eq}
use Rattle.std.specs.List.{list_any}
use Rattle.ls_promises.proofs.Along.{along}
use Rattle.ls_promises.proofs.LimitLemmas.{Each, each_with, each_with_all, without_contains}
use Rattle.ls_promises.proofs.Lookups.{eqb_differs}
use Rattle.ls_promises.proofs.Steps.{cond_both, at_unless, at_committed_if}
use Rattle.ls_promises.specs.Answers.{unlocks, opens}
use Rattle.ls_promises.specs.Soundness.{armed_numbers}
use Rattle.ls_script.specs.declared.command.Command.{Command}
use Rattle.ls_script.specs.declared.command.Command.TheVariants as command
use Rattle.ls_script.specs.declared.reply.Refusal.{Refusal}
use Rattle.ls_vault.specs.Arming.{unarmed, resumed, is_good, taken}
use Rattle.ls_vault.specs.Effects.{effect}
use Rattle.ls_vault.specs.Histories.{Event, history, state_after, passes}
use Rattle.ls_vault.specs.Limits.{is_worn, activated_count}
use Rattle.ls_vault.specs.Refusals.{refusal, differs}
use Rattle.ls_vault.specs.States.{on_user}
use Rattle.ls_vault.specs.Step.{unless, step}
use Rattle.ls_vault.specs.TokenChanges.{first_activated}
use Rattle.ls_vault.specs.Tokens.{is_active}
use Rattle.ls_vault.specs.Users.{user_of}
use Rattle.ls_arming.specs.Numbers.{contains, with_number, with_numbers, without_number}
use Rattle.ls_vault.specs.declared.session.SessionState.{SessionState}
use Rattle.ls_vault.specs.declared.state.Outcome.{Outcome}
use Rattle.ls_vault.specs.declared.state.State.{State}
use Rattle.ls_vault.specs.declared.user.User.{User}
use Rattle.ls_arming.specs.declared.arming.Arming.{Arming}

-- ---- numbers that are none of a list

others : (ns : List ℕ) (m : ℕ) → contains ns m ≡ false → Each (λ k. k ≢ m) ns
others ns m none k is same = absurd (let e : contains ns k ≡ contains ns m = ap (contains ns) same in cc)

none_of : (ns : List ℕ) (m : ℕ) → Each (λ k. k ≢ m) ns → contains ns m ≡ false
none_of ns m all = by_test (contains ns m) refl
  where
    by_test : (b : Bool) → contains ns m ≡ b → b ≡ false
    by_test false is = refl
    by_test true is = absurd (all m is refl)

none_with : (ns : List ℕ) (n m : ℕ) → n ≢ m → contains ns m ≡ false → contains (with_number ns n) m ≡ false
none_with ns n m differ none = none_of (with_number ns n) m (each_with (λ k. k ≢ m) ns n (others ns m none) differ)

none_with_all : (more ns : List ℕ) (m : ℕ) → contains more m ≡ false → contains ns m ≡ false → contains (with_numbers ns more) m ≡ false
none_with_all more ns m other none = none_of (with_numbers ns more) m (each_with_all (λ k. k ≢ m) more ns (others ns m none) (others more m other))

pub none_without : (ns : List ℕ) (n m : ℕ) → contains ns m ≡ false → contains (without_number ns n) m ≡ false
none_without ns n m none = none_of (without_number ns n) m (λ k is same. let h = without_contains ns n k is in others ns m none k h.0 same)

or_both : (a b : Bool) → (a || b) ≡ false → (a ≡ false) × (b ≡ false)
or_both true b is = absurd (cc)
or_both false b is = (refl, is)

and_false : (a : Bool) → (a && true) ≡ false → a ≡ false
and_false true is = is
and_false false is = refl

-- ---- each command that isn't refused

module _ (slots : ℕ) (s : State) (moment : ℕ) (drawn : List ℕ) (n : ℕ) where
  abbrev Closed : State → Type 0
  Closed t = contains t.session.opened n ≡ false

  abbrev Free : State → Type 0
  Free t = contains t.session.captured n ≡ false

  -- the user isn't opened or captured but by a reply that says so
  abbrev Kept : Command → Outcome → Type 0
  Kept c o = (Closed s → opens n c o.reply ≡ false → Closed o.state) × (Free s → unlocks n c o.reply ≡ false → Free o.state)

  kept_user : (c : Command) (o : Option User) (act : User → Outcome) → ((u : User) → Kept c (act u)) → Kept c (on_user o s act)
  kept_user c None act all = (λ closed is. closed, λ free is. free)
  kept_user c (Some u) act all = all u

  closed_unarmed : (o : Option Arming) (P : SessionState → Type 0) → P s.session → P (unarmed o s).session
  closed_unarmed None P p = cond_both (λ (t : State). P t.session) (length s.books.dead == 0) _ _ p (cond_both (λ (t : State). P t.session) (is_worn s) _ _ p p)
  closed_unarmed (Some arming) P p = cond_both (λ (t : State). P t.session) (is_worn s) _ _ p p

  closed_taken : (users : List ℕ) (P : SessionState → Type 0) → P s.session → P (taken s users).session
  closed_taken users P p = cond_both (λ (t : State). P t.session) (is_worn s) _ _ p p

  kept_resumed : (o : Option Arming) → Kept command.Resume (resumed o s)
  kept_resumed None = (λ closed is. closed, λ free is. free)
  kept_resumed (Some arming) =
      cond_both (Kept command.Resume) (is_good arming.boot s.session.boot) _ _
      (λ closed is. absurd (cc), λ free is. closed_taken arming.users (λ (x : SessionState). contains x.captured n ≡ false) free) (
        λ closed is. closed_taken arming.users (λ (x : SessionState). contains x.opened n ≡ false) closed,
        λ free is. closed_taken arming.users (λ (x : SessionState). contains x.captured n ≡ false) free,
      )

  -- a user that is unlocked is another
  kept_captured : (user : ℕ) → user ≢ n → Free s → contains (cond s.session.prepared (with_number s.session.captured user) s.session.captured) n ≡ false
  kept_captured user differ free =
      cond_both (λ (ns : List ℕ). contains ns n ≡ false) s.session.prepared _ _ (none_with s.session.captured user n differ free) free

  is_other : (user : ℕ) → (((user == n) && true) || false) ≡ false → user ≢ n
  is_other user is = let h = or_both ((user == n) && true) false is in eqb_differs user n (and_false (user == n) h.0)

  kept_effect : (c : Command) → Kept c (effect slots s c moment drawn)
  kept_effect (command.Add user escrow) = (λ closed is. closed, λ free is. free)
  kept_effect (command.Drop user) =
      (λ closed is. none_without s.session.opened user n closed, λ free is. none_without s.session.captured user n free)
  kept_effect (command.Attempt user offered) = kept_user (command.Attempt user offered) (user_of s.vault.users user) _
      (λ u. cond_both (Kept (command.Attempt user offered)) (bytes_eq offered.text u.credential.text) _ _ (
        λ closed is. none_with s.session.opened user n (is_other user is) closed,
        λ free is. kept_captured user (eqb_differs user n (and_false (user == n) is)) free,
      )
      (λ closed is. closed, λ free is. free))
  kept_effect (command.Change user new) = (λ closed is. closed, λ free is. free)
  kept_effect (command.Lock user) = (λ closed is. none_without s.session.opened user n closed, λ free is. free)
  kept_effect (command.Status user) = kept_user (command.Status user) (user_of s.vault.users user) _ (λ u. (λ closed is. closed, λ free is. free))
  kept_effect command.Users = (λ closed is. closed, λ free is. free)
  kept_effect (command.TokenAdd user bytes) = (λ closed is. closed, λ free is. free)
  kept_effect (command.Activate user) = (
    λ closed is. at_committed_if Closed (nat_lt 0 (activated_count slots s user)) (first_activated (activated_count slots s user) s user) closed closed,
    λ free is. at_committed_if Free (nat_lt 0 (activated_count slots s user)) (first_activated (activated_count slots s user) s user) free free,
  )
  kept_effect (command.TokenDrop user id) =
      (λ closed is. at_committed_if Closed (is_active s user id) _ closed closed, λ free is. at_committed_if Free (is_active s user id) _ free free)
  kept_effect (command.TokenState user id) = (λ closed is. closed, λ free is. free)
  kept_effect (command.TokenAttempt user id offered) = kept_user (command.TokenAttempt user id offered) (user_of s.vault.users user) _
      (λ u. (
        λ closed is. none_with s.session.opened user n (is_other user is) closed,
        λ free is. kept_captured user (eqb_differs user n (and_false (user == n) is)) free,
      ))
  kept_effect (command.EscrowOff user) = (λ closed is. closed, λ free is. free)
  kept_effect command.Prepare =
      (λ closed is. closed_unarmed s.vault.arming (λ (x : SessionState). contains x.opened n ≡ false) closed, λ free is. refl)
  kept_effect command.Arm = (λ closed is. closed, λ free is. refl)
  kept_effect command.Resume = kept_resumed s.vault.arming
  kept_effect (command.AutoPin user on) = kept_user (command.AutoPin user on) (user_of s.vault.users user) _
      (λ u. (λ closed is. at_committed_if Closed (differs u.auto on) _ closed closed, λ free is. at_committed_if Free (differs u.auto on) _ free free))
  kept_effect (command.PinLength user) = kept_user (command.PinLength user) (user_of s.vault.users user) _ (λ u. (λ closed is. closed, λ free is. free))

  kept_unless : (c : Command) (r : Option Refusal) (o : Outcome) → Kept c o → Kept c (unless r s o)
  kept_unless c None o kept = kept
  kept_unless c (Some why) o kept = (λ closed is. closed, λ free is. free)

  pub opened_by : (c : Command) → Kept c (step slots s c moment drawn)
  opened_by c = kept_unless c (refusal slots s c moment) (effect slots s c moment drawn) (kept_effect c)

  -- a resume opens none but armed users
  resumed_armed : (o : Option Arming) → contains (armed_numbers o) n ≡ false → Closed s → Closed (resumed o s).state
  resumed_armed None other closed = closed
  resumed_armed (Some arming) other closed =
      let left = closed_taken arming.users (λ (x : SessionState). contains x.opened n ≡ false) closed in
      cond_both (λ (o : Outcome). Closed o.state) (is_good arming.boot s.session.boot) _ _
      (none_with_all arming.users (taken s arming.users).session.opened n other left) left

  pub armed_opened : contains (armed_numbers s.vault.arming) n ≡ false → Closed s → Closed (step slots s command.Resume moment drawn).state
  armed_opened other closed =
      at_unless Closed (refusal slots s command.Resume moment) s (effect slots s command.Resume moment drawn) closed
      (λ accepted. resumed_armed s.vault.arming other closed)

-- over a history
pub closed_along : (slots n : ℕ) (s : State) (events : List Event) → contains s.session.opened n ≡ false → list_any (passes (opens n)) (history slots s events) ≡ false
    → contains (state_after slots s events).session.opened n ≡ false
closed_along slots n s events closed none =
    along slots (λ (t : State). contains t.session.opened n ≡ false) (opens n)
    (λ t c moment drawn was not. let h = opened_by slots t moment drawn n c in h.0 was not)
    (λ t boot books was. refl) s events closed none
