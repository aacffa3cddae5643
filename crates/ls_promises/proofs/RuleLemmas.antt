-- Credentials keep the rules of their kinds.
use Rattle.std.proofs.Common.{◌≡◌, ℕ, Bool, true, false, not, cond, List, [], ◌∷◌, Option, None, Some, length, refl, sym, ◌∙◌, ap, subst, arith}
use Rattle.std.proofs.lemmas.Bool.Decides.{nat_tests}
use Rattle.std.proofs.lemmas.Slice.Eq.{bytes_eq-Decides}
use Rattle.std.specs.Prelude.{◌&&◌, nat_le, is_some, bytes_eq}
use Rattle.std.specs.List.{list_any}
use Rattle.ls_credential.specs.declared.fault.CredentialFault.{CredentialFault}
use Rattle.ls_credential.specs.declared.fault.CredentialFault.TheVariants.{Length}
use Rattle.ls_credential.specs.declared.kind.Kind.{Kind}
use Rattle.ls_credential.specs.declared.kind.Kind.TheVariants.{Empty, Pattern, Pin, Password}
use Rattle.ls_credential.specs.Rules.{KindAndText, has_good_length, fault_of}
use Rattle.ls_promises.proofs.Along.{along}
use Rattle.ls_promises.proofs.EachLemmas.{Each, each_none, each_changed, each_with, each_without}
use Rattle.ls_promises.proofs.Lookups.{KeepsNumber}
use Rattle.ls_promises.proofs.Steps.{with_auto, Moved, at_unless, at_user, at_step}
use Rattle.ls_promises.proofs.UnlockLemmas.{same_kind_is}
use Rattle.ls_promises.specs.Consistency.{KeepsRules, breaks_a_rule}
use Rattle.ls_script.specs.declared.command.Command.{Command}
use Rattle.ls_script.specs.declared.command.Command.TheVariants as command
use Rattle.ls_script.specs.declared.reply.Reply.{Reply}
use Rattle.ls_vault.specs.Credentials.{given}
use Rattle.ls_vault.specs.Effects.{effect}
use Rattle.ls_vault.specs.Histories.{Event, history, state_after, passes}
use Rattle.ls_vault.specs.Kinds.{same_kind, is_empty}
use Rattle.ls_vault.specs.Refusals.{refusal, of_user, attempt_refusal}
use Rattle.ls_vault.specs.States.{with_users}
use Rattle.ls_vault.specs.Step.{step}
use Rattle.ls_vault.specs.TokenChanges.{with_tokens, without_its, plain}
use Rattle.ls_vault.specs.Unlocking.{opened, cleared, failed, attempted}
use Rattle.ls_vault.specs.UserChanges.{new_user}
use Rattle.ls_vault.specs.Users.{user_of, changed}
use Rattle.ls_vault.specs.declared.state.Outcome.{Outcome}
use Rattle.ls_vault.specs.declared.state.State.{State}
use Rattle.ls_vault.specs.declared.user.User.{User}
use Rattle.ls_promises.proofs.SoundCommands.{passed}

abbrev Rule : User → Type 0
Rule u = (fault_of u.credential.kind u.credential.text ≡ None) × (is_empty u.credential.kind ≡ true → u.fails ≡ 0)

no_fault : (o : Option CredentialFault) → is_some o ≡ false → o ≡ None
no_fault None is = refl
no_fault (Some f) is = absurd (cc)

not_false : (b : Bool) → not b ≡ false → b ≡ true
not_false true is = refl
not_false false is = absurd (cc)

right_true : (b c : Bool) → (b && c) ≡ true → c ≡ true
right_true true c is = is
right_true false c is = absurd (cc)

-- no credential has no text
no_text : (kind : Kind) (text : List ℕ) → is_empty kind ≡ true → fault_of kind text ≡ None → text ≡ []
no_text Pattern text is good = absurd (cc)
no_text Pin text is good = absurd (cc)
no_text Password text is good = absurd (cc)
no_text Empty [] is good = refl
no_text Empty (b ∷ text) is good =
    let h = passed_length (not (has_good_length Empty (b ∷ text))) Length _ good in
    let e = none (length (b ∷ text)) (right_true (nat_le 0 (length (b ∷ text))) (nat_le (length (b ∷ text)) 0) (not_false (has_good_length Empty (b ∷ text)) h)) in
    absurd (omega (arith, e))
  where
    passed_length : (b : Bool) (f : CredentialFault) (o : Option CredentialFault) → cond b (Some f) o ≡ None → b ≡ false
    passed_length true f o is = absurd (cc)
    passed_length false f o is = refl

    none : (n : ℕ) → nat_le n 0 ≡ true → n ≡ 0
    none n is = grind (arith, nat_tests)

module _ (slots : ℕ) (s : State) (moment : ℕ) (drawn : List ℕ) (all : Each Rule s.vault.users) where
  abbrev Kept : State → Type 0
  Kept t = Each Rule t.vault.users

  rule_kept : (f : User → User) → KeepsNumber f → ((u : User) → Rule u → Rule (f u)) → (user : ℕ) → Each Rule (changed s.vault.users user f)
  rule_kept f keeps same user = each_changed Rule s.vault.users user f keeps (λ u there has. same u has) all

  by_step : (c : Command) → Moved (Each Rule) slots s moment drawn c → Kept (step slots s c moment drawn).state
  by_step c moved = at_step (Each Rule) slots s moment drawn c all moved

  -- ---- an attempt

  module _ (user : ℕ) (offered : KindAndText) (good : fault_of offered.kind offered.text ≡ None) where
    -- a wrong text isn't that of no credential
    wrong_rule : (u v : User) → user_of s.vault.users user ≡ Some u → user_of s.vault.users user ≡ Some v → same_kind offered.kind u.credential.kind ≡ true
        → bytes_eq offered.text u.credential.text ≡ false → Rule v → Rule (failed moment v)
    wrong_rule u v found there kind other has = (has.0, λ empty. absurd (no_wrong empty))
      where
        same : Some u ≡ Some v → u ≡ v
        same e = cc

        no_wrong : is_empty v.credential.kind ≡ true → ⊥
        no_wrong empty =
            let e = same (sym found ∙ there) in
            let stored : u.credential.text ≡ [] = ap (λ (x : User). x.credential.text) e ∙ no_text v.credential.kind v.credential.text empty has.0 in
            let k : offered.kind ≡ v.credential.kind = same_kind_is offered.kind u.credential.kind kind ∙ ap (λ (x : User). x.credential.kind) e in
            let given : offered.text ≡ [] = no_text offered.kind offered.text (ap is_empty k ∙ empty) good in
            let right : bytes_eq offered.text u.credential.text ≡ true = (bytes_eq-Decides offered.text u.credential.text).1 (given ∙ sym stored) in
            absurd (cc)

    by_text : (right wrong : Reply) (u : User) → user_of s.vault.users user ≡ Some u → same_kind offered.kind u.credential.kind ≡ true → (b : Bool) → bytes_eq offered.text u.credential.text ≡ b
        → Kept (cond {A = Outcome} b (record { reply = right; state = opened (with_users s (changed s.vault.users user cleared)) user })
        (record { reply = wrong; state = with_users s (changed s.vault.users user (failed moment)) })).state
    by_text right wrong u found kind true is = rule_kept cleared (λ u. refl) (λ u has. (has.0, λ empty. refl)) user
    by_text right wrong u found kind false is = each_changed Rule s.vault.users user (failed moment) (λ u. refl) (λ v there has. wrong_rule u v found there kind is has) all

    attempt_rule : Kept (step slots s (command.Attempt user offered) moment drawn).state
    attempt_rule =
        at_unless Kept (refusal slots s (command.Attempt user offered) moment) s (effect slots s (command.Attempt user offered) moment drawn) all
        (λ accepted. at_user Kept (user_of s.vault.users user) s (attempted s user offered moment) all
        (λ u found.
        let e = sym (ap (λ (o : Option User). of_user o (attempt_refusal offered moment)) found) ∙ accepted in
        let h = passed (not (same_kind offered.kind u.credential.kind)) _ _ e in
        by_text _ _ u found (not_false (same_kind offered.kind u.credential.kind) h.0) (bytes_eq offered.text u.credential.text) refl))

  -- ---- each command

  rule_step : (c : Command) → breaks_a_rule c (step slots s c moment drawn).reply ≡ false → Kept (step slots s c moment drawn).state
  rule_step (command.Add user escrow) good = by_step (command.Add user escrow) (each_with Rule s.vault.users (new_user user escrow drawn) (refl, λ empty. refl) all)
  rule_step (command.Drop user) good = by_step (command.Drop user) (each_without Rule s.vault.users user all)
  rule_step (command.Attempt user offered) good = attempt_rule user offered (no_fault (fault_of offered.kind offered.text) good)
  rule_step (command.Change user new) good =
      by_step (command.Change user new)
      (rule_kept (given s.vault.users new drawn) (λ u. refl) (λ u has. (no_fault (fault_of new.kind new.text) good, λ empty. refl)) user)
  rule_step (command.Lock user) good = by_step (command.Lock user) tt
  rule_step (command.Status user) good = by_step (command.Status user) tt
  rule_step command.Users good = by_step command.Users tt
  rule_step (command.TokenAdd user bytes) good = by_step (command.TokenAdd user bytes) tt
  rule_step (command.Activate user) good = by_step (command.Activate user) (rule_kept (with_tokens _) (λ u. refl) (λ u has. has) user)
  rule_step (command.TokenDrop user id) good = by_step (command.TokenDrop user id) (rule_kept (without_its id) (λ u. refl) (λ u has. has) user)
  rule_step (command.TokenState user id) good = by_step (command.TokenState user id) tt
  rule_step (command.TokenAttempt user id offered) good = by_step (command.TokenAttempt user id offered) tt
  rule_step (command.EscrowOff user) good = by_step (command.EscrowOff user) (rule_kept plain (λ u. refl) (λ u has. has) user)
  rule_step command.Prepare good = by_step command.Prepare tt
  rule_step command.Arm good = by_step command.Arm tt
  rule_step command.Resume good = by_step command.Resume tt
  rule_step (command.AutoPin user on) good = by_step (command.AutoPin user on) (rule_kept (with_auto on) (λ u. refl) (λ u has. has) user)
  rule_step (command.PinLength user) good = by_step (command.PinLength user) tt

from_each : (s : State) → Each Rule s.vault.users → KeepsRules s
from_each s all = record {
  rule = λ n u there. let h = all n u there in h.0;
  calm = λ n u there empty. let h = all n u there in h.1 empty;
}

to_each : (s : State) → KeepsRules s → Each Rule s.vault.users
to_each s was n u there = (was.rule n u there, λ empty. was.calm n u there empty)

pub rules_empty : (s : State) → s.vault.users ≡ [] → KeepsRules s
rules_empty s users = from_each s (subst (λ (us : List User). Each Rule us) (sym users) (each_none Rule))

pub rules_step : (slots : ℕ) (s : State) (c : Command) (moment : ℕ) (drawn : List ℕ) → breaks_a_rule c (step slots s c moment drawn).reply ≡ false → KeepsRules s
    → KeepsRules (step slots s c moment drawn).state
rules_step slots s c moment drawn good was = from_each (step slots s c moment drawn).state (rule_step slots s moment drawn (to_each s was) c good)

pub rules_history : (slots : ℕ) (s : State) (events : List Event) → list_any (passes breaks_a_rule) (history slots s events) ≡ false → KeepsRules s → KeepsRules (state_after slots s events)
rules_history slots s events good was =
    along slots KeepsRules breaks_a_rule (λ t c moment drawn had not. rules_step slots t c moment drawn not had)
    (λ t boot books had. record { rule = had.rule; calm = had.calm }) s events was good
