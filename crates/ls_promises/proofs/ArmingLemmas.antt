-- How often an arming opens.
use Rattle.std.proofs.Common.{◌≡◌, ◌≤◌, ◌+◌, ℕ, Bool, true, false, cond, List, [], ◌∷◌, Option, None, Some, refl, sym, ap, subst, arith}
use Rattle.std.proofs.lemmas.List.Recursion.{is_count_by}
use Rattle.std.specs.Prelude.{◌==◌, nat_lt, length, count_by, bytes_eq}
use Rattle.std.specs.List.{list_any}
use Rattle.ls_promises.proofs.Along.{or_left, or_right}
use Rattle.ls_promises.proofs.Steps.{cond_both, arming_both, at_committed_if}
use Rattle.ls_promises.specs.Answers.{arms, resumes}
use Rattle.ls_script.specs.declared.command.Command.{Command}
use Rattle.ls_script.specs.declared.command.Command.TheVariants as command
use Rattle.ls_script.specs.declared.reply.Refusal.{Refusal}
use Rattle.ls_script.specs.declared.reply.Reply.TheVariants as reply
use Rattle.ls_vault.specs.Arming.{unarmed, taken, resumed, is_good}
use Rattle.ls_vault.specs.Histories.{Event, command as served, restarted, Happening, happening, history, passes}
use Rattle.ls_vault.specs.Limits.{is_worn, activated_count}
use Rattle.ls_vault.specs.Refusals.{refusal, resume_refusal, arm_refusal, differs}
use Rattle.ls_vault.specs.States.{on_user}
use Rattle.ls_vault.specs.Step.{unless, step}
use Rattle.ls_vault.specs.Tokens.{is_active}
use Rattle.ls_vault.specs.Unlocking.{attempted, token_attempted}
use Rattle.ls_arming.specs.Disarming.{disarmed}
use Rattle.ls_vault.specs.Users.{user_of}
use Rattle.ls_arming.specs.Numbers.{without_number}
use Rattle.ls_vault.specs.declared.state.Outcome.{Outcome}
use Rattle.ls_vault.specs.declared.state.State.{State}
use Rattle.ls_vault.specs.declared.user.User.{User}
use Rattle.ls_arming.specs.declared.arming.Arming.{Arming}

-- how often the arming can still open
abbrev pub left : Option Arming → ℕ
left None = 0
left (Some arming) = 1

abbrev one_if : Bool → ℕ
one_if b = cond b 1 0

-- a resume takes one of them
abbrev Spends : State → Command → Outcome → Type 0
Spends s c o = one_if (resumes c o.reply) + left o.state.vault.arming ≤ left s.vault.arming

-- most commands leave it
abbrev Leaves : State → State → Type 0
Leaves s t = left t.vault.arming ≤ left s.vault.arming

at_unarmed : (o : Option Arming) (s : State) → o ≡ s.vault.arming → left (unarmed o s).vault.arming ≡ 0
at_unarmed None s is = cond_both None_armed (length s.books.dead == 0) _ _ none (cond_both None_armed (is_worn s) _ _ none none)
  where
    None_armed : State → Type 0
    None_armed t = left t.vault.arming ≡ 0

    none : left s.vault.arming ≡ 0
    none = ap left (sym is)
at_unarmed (Some arming) s is = cond_both (λ (t : State). left t.vault.arming ≡ 0) (is_worn s) _ _ refl refl

at_dropped : (o : Option Arming) (user : ℕ) → left (disarmed o user) ≤ left o
at_dropped None user = omega arith
at_dropped (Some arming) user = arming_both (λ (o : Option Arming). left o ≤ 1) arming.boot (without_number arming.users user) (omega arith) (omega arith)

at_taken : (s : State) (users : List ℕ) → left (taken s users).vault.arming ≡ 0
at_taken s users = cond_both (λ (t : State). left t.vault.arming ≡ 0) (is_worn s) _ _ refl refl

at_resume : (o : Option Arming) (s : State) → s.vault.arming ≡ o → Spends s command.Resume (unless (resume_refusal o) s (resumed o s))
at_resume None s is = omega arith
at_resume (Some arming) s is =
    subst (λ (o : Option Arming). one_if (resumes command.Resume (resumed (Some arming) s).reply) + left (resumed (Some arming) s).state.vault.arming ≤ left o) (sym is)
    (cond_both (λ (o : Outcome). one_if (resumes command.Resume o.reply) + left o.state.vault.arming ≤ 1) (is_good arming.boot s.session.boot) _ _
    (omega (arith, at_taken s arming.users)) (omega (arith, at_taken s arming.users)))

at_arm : (r : Option Refusal) (s : State) (t : State) → arms command.Arm (unless r s (record { reply = reply.Fine; state = t })).reply ≡ false
    → Spends s command.Arm (unless r s (record { reply = reply.Fine; state = t }))
at_arm None s t not = absurd (cc)
at_arm (Some why) s t not = omega arith

-- a command that resumes nothing, and leaves the arming or less of it
at_other : (r : Option Refusal) (s : State) (o : Outcome) → Leaves s o.state → 0 + left (unless r s o).state.vault.arming ≤ left s.vault.arming
at_other None s o leaves = omega (arith, leaves)
at_other (Some why) s o leaves = omega arith

at_user_same : (o : Option User) (s : State) (act : User → Outcome) → ((u : User) → (act u).state.vault.arming ≡ s.vault.arming) → Leaves s (on_user o s act).state
at_user_same None s act same = omega arith
at_user_same (Some u) s act same = let e = ap left (same u) in omega (arith, e)

module _ (slots : ℕ) (s : State) (moment : ℕ) (drawn : List ℕ) where
  abbrev done : Command → Outcome
  done c = step slots s c moment drawn

  same : (t : State) → t.vault.arming ≡ s.vault.arming → Leaves s t
  same t is = let e = ap left is in omega (arith, e)

  pub spends : (c : Command) → arms c (done c).reply ≡ false → Spends s c (done c)
  spends (command.Add user escrow) not = at_other (refusal slots s (command.Add user escrow) moment) s _ (omega arith)
  spends (command.Drop user) not = at_other (refusal slots s (command.Drop user) moment) s _ (at_dropped s.vault.arming user)
  spends (command.Attempt user offered) not =
      at_other (refusal slots s (command.Attempt user offered) moment) s _
      (at_user_same (user_of s.vault.users user) s (attempted s user offered moment)
      (λ u. cond_both (λ (o : Outcome). o.state.vault.arming ≡ s.vault.arming) (bytes_eq offered.text u.credential.text) _ _ refl refl))
  spends (command.Change user new) not = at_other (refusal slots s (command.Change user new) moment) s _ (omega arith)
  spends (command.Lock user) not = at_other (refusal slots s (command.Lock user) moment) s _ (omega arith)
  spends (command.Status user) not = at_other (refusal slots s (command.Status user) moment) s _ (at_user_same (user_of s.vault.users user) s _ (λ u. refl))
  spends command.Users not = omega arith
  spends (command.TokenAdd user bytes) not = at_other (refusal slots s (command.TokenAdd user bytes) moment) s _ (omega arith)
  spends (command.Activate user) not =
      at_other (refusal slots s (command.Activate user) moment) s _ (at_committed_if (Leaves s) (nat_lt 0 (activated_count slots s user)) _ (omega arith) (omega arith))
  spends (command.TokenDrop user id) not =
      at_other (refusal slots s (command.TokenDrop user id) moment) s _ (at_committed_if (Leaves s) (is_active s user id) _ (omega arith) (omega arith))
  spends (command.TokenState user id) not = at_other (refusal slots s (command.TokenState user id) moment) s _ (omega arith)
  spends (command.TokenAttempt user id offered) not =
      at_other (refusal slots s (command.TokenAttempt user id offered) moment) s _ (at_user_same (user_of s.vault.users user) s (token_attempted s user) (λ u. refl))
  spends (command.EscrowOff user) not = at_other (refusal slots s (command.EscrowOff user) moment) s _ (omega arith)
  spends command.Prepare not = let e = at_unarmed s.vault.arming s refl in omega (arith, e)
  spends command.Arm not = at_arm (arm_refusal s) s _ not
  spends command.Resume not = at_resume s.vault.arming s refl
  spends (command.AutoPin user on) not =
      at_other (refusal slots s (command.AutoPin user on) moment) s _
      (at_user_same (user_of s.vault.users user) s _
      (λ u. at_committed_if (λ (t : State). t.vault.arming ≡ s.vault.arming) (differs u.auto on) _ refl refl))
  spends (command.PinLength user) not = at_other (refusal slots s (command.PinLength user) moment) s _ (at_user_same (user_of s.vault.users user) s _ (λ u. refl))

-- how many pass a test
abbrev times : (Happening → Bool) → List Happening → ℕ
times p [] = 0
times p (h ∷ hs) = cond (p h) (1 + times p hs) (times p hs)

more : (b : Bool) (n : ℕ) → cond b (1 + n) n ≡ one_if b + n
more true n = refl
more false n = omega arith

spent : (slots : ℕ) (s : State) (event : Event) → passes arms (happening slots s event) ≡ false
    → one_if (passes resumes (happening slots s event)) + left (happening slots s event).state.vault.arming ≤ left s.vault.arming
spent slots s (served c moment drawn) not = spends slots s moment drawn c not
spent slots s (restarted boot books) not = omega arith

-- as often as the arming at the beginning can
pub spent_along : (slots : ℕ) (s : State) (events : List Event) → list_any (passes arms) (history slots s events) ≡ false
    → times (passes resumes) (history slots s events) ≤ left s.vault.arming
spent_along slots s [] none = omega arith
spent_along slots s (event ∷ events) none =
    let now = spent slots s event (or_left (passes arms (happening slots s event)) _ none) in
    let rest = spent_along slots (happening slots s event).state events (or_right (passes arms (happening slots s event)) _ none) in
    omega (arith, now, rest, more (passes resumes (happening slots s event)) (times (passes resumes) (history slots (happening slots s event).state events)))

pub times_is : (hs : List Happening) → times (passes resumes) hs ≡ count_by (passes resumes) hs
times_is hs = is_count_by (times (passes resumes)) (passes resumes) refl (λ _ _. refl) hs

pub at_most_once : (o : Option Arming) → left o ≤ 1
at_most_once None = omega arith
at_most_once (Some arming) = omega arith
