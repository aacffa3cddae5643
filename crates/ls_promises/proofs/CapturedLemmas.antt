-- Who is armed was captured, and who is captured was unlocked.
use Rattle.std.proofs.Common.{◌≡◌, ℕ, Bool, true, false, not, List, [], Option, None, Some, refl, ◌∙◌, ap}
use Rattle.std.specs.Prelude.{◌||◌, nat_lt, bytes_eq}
use Rattle.std.specs.List.{list_any}
use Rattle.ls_promises.proofs.Along.{along}
use Rattle.ls_promises.proofs.EndingLemmas.{none_unarmed, same_unarmed}
use Rattle.ls_promises.proofs.OpeningLemmas.{none_without, opened_by, armed_opened}
use Rattle.ls_promises.proofs.Steps.{cond_both, arming_both, at_unless, at_user, at_committed_if}
use Rattle.ls_promises.specs.Answers.{arms, unlocks, resumes}
use Rattle.ls_promises.specs.Soundness.{armed_numbers}
use Rattle.ls_script.specs.declared.command.Command.{Command}
use Rattle.ls_script.specs.declared.command.Command.TheVariants as command
use Rattle.ls_script.specs.declared.reply.Refusal.{Refusal}
use Rattle.ls_script.specs.declared.reply.Reply.TheVariants.{Fine}
use Rattle.ls_vault.specs.Arming.{unarmed, resumed, is_good, armed}
use Rattle.ls_vault.specs.Effects.{effect, auto_set}
use Rattle.ls_vault.specs.Histories.{Event, history, state_after, passes}
use Rattle.ls_vault.specs.Limits.{is_worn, activated_count}
use Rattle.ls_vault.specs.Refusals.{refusal, differs}
use Rattle.ls_vault.specs.Step.{unless, step}
use Rattle.ls_vault.specs.Tokens.{is_active}
use Rattle.ls_vault.specs.Unlocking.{attempted, token_attempted}
use Rattle.ls_arming.specs.Disarming.{disarmed}
use Rattle.ls_vault.specs.Users.{user_of}
use Rattle.ls_arming.specs.Numbers.{contains, without_number}
use Rattle.ls_vault.specs.declared.state.Outcome.{Outcome}
use Rattle.ls_vault.specs.declared.state.State.{State}
use Rattle.ls_arming.specs.declared.arming.Arming.{Arming}

-- ---- who is armed

module _ (slots : ℕ) (s : State) (moment : ℕ) (drawn : List ℕ) (n : ℕ) where
  abbrev Unarmed : State → Type 0
  Unarmed t = contains (armed_numbers t.vault.arming) n ≡ false

  abbrev Free : State → Type 0
  Free t = contains t.session.captured n ≡ false

  unarmed_without : (o : Option Arming) (user : ℕ) → contains (armed_numbers o) n ≡ false → contains (armed_numbers (disarmed o user)) n ≡ false
  unarmed_without None user p = refl
  unarmed_without (Some a) user p =
      arming_both (λ (o : Option Arming). contains (armed_numbers o) n ≡ false) a.boot (without_number a.users user) refl (none_without a.users user n p)

  nobody : (o : Option Arming) → o ≡ None → contains (armed_numbers o) n ≡ false
  nobody None is = refl
  nobody (Some a) is = absurd (cc)

  -- the command is no arming
  abbrev is_arming : Command → Bool
  is_arming command.Arm = true
  is_arming _ = false

  unarmed_effect : (c : Command) → Unarmed s → is_arming c ≡ false → Unarmed (effect slots s c moment drawn).state
  unarmed_effect (command.Add user escrow) p not = p
  unarmed_effect (command.Drop user) p not = unarmed_without s.vault.arming user p
  unarmed_effect (command.Attempt user offered) p not =
      at_user Unarmed (user_of s.vault.users user) s (attempted s user offered moment) p
      (λ u found. cond_both (λ (o : Outcome). Unarmed o.state) (bytes_eq offered.text u.credential.text) _ _ p p)
  unarmed_effect (command.Change user new) p not = p
  unarmed_effect (command.Lock user) p not = p
  unarmed_effect (command.Status user) p not = at_user Unarmed (user_of s.vault.users user) s _ p (λ u found. p)
  unarmed_effect command.Users p not = p
  unarmed_effect (command.TokenAdd user bytes) p not = p
  unarmed_effect (command.Activate user) p not = at_committed_if Unarmed (nat_lt 0 (activated_count slots s user)) _ p p
  unarmed_effect (command.TokenDrop user id) p not = at_committed_if Unarmed (is_active s user id) _ p p
  unarmed_effect (command.TokenState user id) p not = p
  unarmed_effect (command.TokenAttempt user id offered) p not = at_user Unarmed (user_of s.vault.users user) s (token_attempted s user) p (λ u found. p)
  unarmed_effect (command.EscrowOff user) p not = p
  unarmed_effect command.Prepare p not = nobody (unarmed s.vault.arming s).vault.arming (none_unarmed s s.vault.arming refl)
  unarmed_effect command.Arm p not = absurd (cc)
  unarmed_effect command.Resume p not = unarmed_resumed s.vault.arming p
    where
      unarmed_resumed : (o : Option Arming) → contains (armed_numbers o) n ≡ false → Unarmed (resumed o s).state
      unarmed_resumed None q = p
      unarmed_resumed (Some a) q =
          cond_both (λ (o : Outcome). Unarmed o.state) (is_good a.boot s.session.boot) _ _
          (cond_both Unarmed (is_worn s) _ _ refl refl) (cond_both Unarmed (is_worn s) _ _ refl refl)
  unarmed_effect (command.AutoPin user on) p not =
      at_user Unarmed (user_of s.vault.users user) s (λ u. record { reply = _; state = auto_set s user on u }) p
      (λ u found. at_committed_if Unarmed (differs u.auto on) _ p p)
  unarmed_effect (command.PinLength user) p not = at_user Unarmed (user_of s.vault.users user) s _ p (λ u found. p)

  unarmed_step : (c : Command) → Unarmed s → is_arming c ≡ false → Unarmed (step slots s c moment drawn).state
  unarmed_step c p not = at_unless Unarmed (refusal slots s c moment) s (effect slots s c moment drawn) p (λ accepted. unarmed_effect c p not)

  -- an arming that is refused
  refused_arm : (r : Option Refusal) → Unarmed s → arms command.Arm (unless r s (effect slots s command.Arm moment drawn)).reply ≡ false
      → Unarmed (unless r s (effect slots s command.Arm moment drawn)).state
  refused_arm None p not = absurd (cc)
  refused_arm (Some why) p not = p

  by_kind : (c : Command) (P : Command → Type 0) → P command.Arm → (is_arming c ≡ false → P c) → P c
  by_kind command.Arm P p q = p
  by_kind c P p q = q refl

  pub unarmed_others : (c : Command) → Unarmed s → arms c (step slots s c moment drawn).reply ≡ false → Unarmed (step slots s c moment drawn).state
  unarmed_others c p = by_kind c (λ (c : Command). arms c (step slots s c moment drawn).reply ≡ false → Unarmed (step slots s c moment drawn).state)
      (λ not. refused_arm (refusal slots s command.Arm moment) p not) (λ other not. unarmed_step c p other)

  pub unarmed_captured : (c : Command) → Unarmed s → Free s → Unarmed (step slots s c moment drawn).state
  unarmed_captured c p free = by_kind c (λ (c : Command). Unarmed (step slots s c moment drawn).state)
      (at_unless Unarmed (refusal slots s command.Arm moment) s (effect slots s command.Arm moment drawn) p (λ accepted. free))
      (λ other. unarmed_step c p other)

-- ---- an accepted arming

module _ (slots : ℕ) (s : State) (moment : ℕ) (drawn : List ℕ) where
  arm_by : (P : State → Type 0) → P (armed s) → (r : Option Refusal) → (unless r s (effect slots s command.Arm moment drawn)).reply ≡ Fine → P (unless r s (effect slots s command.Arm moment drawn)).state
  arm_by P p None is = p
  arm_by P p (Some why) is = absurd (cc)

  pub arm_users : (step slots s command.Arm moment drawn).reply ≡ Fine
      → (step slots s command.Arm moment drawn).state.vault.arming ≡ Some (record { boot = s.session.boot; users = s.session.captured })
  arm_users is = arm_by (λ (t : State). t.vault.arming ≡ Some (record { boot = s.session.boot; users = s.session.captured })) refl (refusal slots s command.Arm moment) is

  pub arm_spent : (step slots s command.Arm moment drawn).reply ≡ Fine → (step slots s command.Arm moment drawn).state.session.captured ≡ []
  arm_spent is = arm_by (λ (t : State). t.session.captured ≡ []) refl (refusal slots s command.Arm moment) is

-- ---- who wasn't unlocked

-- closed, not captured and not armed
pub record IsStranger (n : ℕ) (s : State) : Type 0 where
  pub closed : contains s.session.opened n ≡ false
  pub free : contains s.session.captured n ≡ false
  pub unarmed : contains (armed_numbers s.vault.arming) n ≡ false

module _ (slots n : ℕ) where
  or_two : (a b : Bool) → a ≡ false → b ≡ false → (a || b) ≡ false
  or_two true b p q = absurd (cc)
  or_two false b p q = q

  abbrev is_resume : Command → Bool
  is_resume command.Resume = true
  is_resume _ = false

  by_resume : (P : Command → Type 0) → P command.Resume → ((c : Command) → ((r : _) → resumes c r ≡ false) → P c) → (c : Command) → P c
  by_resume P p q command.Resume = p
  by_resume P p q (command.Add user escrow) = q (command.Add user escrow) (λ r. refl)
  by_resume P p q (command.Drop user) = q (command.Drop user) (λ r. refl)
  by_resume P p q (command.Attempt user offered) = q (command.Attempt user offered) (λ r. refl)
  by_resume P p q (command.Change user new) = q (command.Change user new) (λ r. refl)
  by_resume P p q (command.Lock user) = q (command.Lock user) (λ r. refl)
  by_resume P p q (command.Status user) = q (command.Status user) (λ r. refl)
  by_resume P p q command.Users = q command.Users (λ r. refl)
  by_resume P p q (command.TokenAdd user bytes) = q (command.TokenAdd user bytes) (λ r. refl)
  by_resume P p q (command.Activate user) = q (command.Activate user) (λ r. refl)
  by_resume P p q (command.TokenDrop user id) = q (command.TokenDrop user id) (λ r. refl)
  by_resume P p q (command.TokenState user id) = q (command.TokenState user id) (λ r. refl)
  by_resume P p q (command.TokenAttempt user id offered) = q (command.TokenAttempt user id offered) (λ r. refl)
  by_resume P p q (command.EscrowOff user) = q (command.EscrowOff user) (λ r. refl)
  by_resume P p q command.Prepare = q command.Prepare (λ r. refl)
  by_resume P p q command.Arm = q command.Arm (λ r. refl)
  by_resume P p q (command.AutoPin user on) = q (command.AutoPin user on) (λ r. refl)
  by_resume P p q (command.PinLength user) = q (command.PinLength user) (λ r. refl)

  closed_step : (s : State) (c : Command) (moment : ℕ) (drawn : List ℕ) → IsStranger n s → unlocks n c (step slots s c moment drawn).reply ≡ false
      → contains (step slots s c moment drawn).state.session.opened n ≡ false
  closed_step s c moment drawn was not =
      by_resume (λ (c : Command). unlocks n c (step slots s c moment drawn).reply ≡ false → contains (step slots s c moment drawn).state.session.opened n ≡ false)
      (λ not. armed_opened slots s moment drawn n was.unarmed was.closed)
      (λ c other not. let h = opened_by slots s moment drawn n c in h.0 was.closed (or_two (unlocks n c (step slots s c moment drawn).reply) _ not (other _)))
      c not

  pub stranger_step : (s : State) (c : Command) (moment : ℕ) (drawn : List ℕ) → IsStranger n s → unlocks n c (step slots s c moment drawn).reply ≡ false
      → IsStranger n (step slots s c moment drawn).state
  stranger_step s c moment drawn was not = record {
    closed = closed_step s c moment drawn was not;
    free = let h = opened_by slots s moment drawn n c in h.1 was.free not;
    unarmed = unarmed_captured slots s moment drawn n c was.unarmed was.free;
  }

  pub stranger_along : (s : State) (events : List Event) → IsStranger n s → list_any (passes (unlocks n)) (history slots s events) ≡ false → IsStranger n (state_after slots s events)
  stranger_along s events was none =
      along slots (IsStranger n) (unlocks n) stranger_step
      (λ t boot books was. record { closed = refl; free = refl; unarmed = was.unarmed }) s events was none

  pub free_along : (s : State) (events : List Event) → contains s.session.captured n ≡ false → list_any (passes (unlocks n)) (history slots s events) ≡ false
      → contains (state_after slots s events).session.captured n ≡ false
  free_along s events was none =
      along slots (λ (t : State). contains t.session.captured n ≡ false) (unlocks n)
      (λ t c moment drawn was not. let h = opened_by slots t moment drawn n c in h.1 was not)
      (λ t boot books was. refl) s events was none

  abbrev Apart : State → Type 0
  Apart t = (contains t.session.captured n ≡ false) × (contains (armed_numbers t.vault.arming) n ≡ false)

  pub unarmed_along : (s : State) (events : List Event) → Apart s → list_any (passes (unlocks n)) (history slots s events) ≡ false → Apart (state_after slots s events)
  unarmed_along s events was none =
      along slots Apart (unlocks n)
      (λ t c moment drawn was not. let h = opened_by slots t moment drawn n c in (h.1 was.0 not, unarmed_captured slots t moment drawn n c was.1 was.0))
      (λ t boot books was. (refl, was.1)) s events was none

  pub prepared_stranger : (s : State) (moment : ℕ) (drawn : List ℕ) → contains s.session.opened n ≡ false → IsStranger n (step slots s command.Prepare moment drawn).state
  prepared_stranger s moment drawn closed = record {
    closed = ap (λ ns. contains ns n) (same_unarmed s (λ t. t.session.opened) (λ t users session. ap (λ x. x.opened) session) s.vault.arming) ∙ closed;
    free = refl;
    unarmed = nobody slots s moment drawn n (unarmed s.vault.arming s).vault.arming (none_unarmed s s.vault.arming refl);
  }
