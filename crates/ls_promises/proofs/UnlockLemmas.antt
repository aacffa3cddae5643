-- When an unlock opens, both ways.
use Rattle.std.proofs.Common.{◌≡◌, ◌≤◌, ℕ, Bool, true, false, not, cond, ltb, eq-eqb, List, Option, None, Some, refl, sym, ◌∙◌, ap, arith}
use Rattle.std.proofs.lemmas.Bool.Decides.{nat_tests}
use Rattle.std.proofs.lemmas.Slice.Eq.{bytes_eq-Decides}
use Rattle.std.specs.Prelude.{◌-◌, ◌↔◌, nat_lt, bytes_eq}
use Rattle.ls_credential.specs.Codes.{code_of, kind_of}
use Rattle.ls_credential.specs.Rules.{KindAndText}
use Rattle.ls_credential.specs.declared.kind.Kind.{Kind}
use Rattle.ls_credential.specs.declared.kind.Kind.TheVariants.{Empty, Pattern, Pin, Password}
use Rattle.ls_promises.proofs.Lookups.{eqb_is}
use Rattle.ls_promises.specs.Unlocks.{OpensByCredential, OpensByToken, OpensByArming}
use Rattle.ls_script.specs.declared.command.Command.TheVariants as command
use Rattle.ls_script.specs.declared.reply.Refusal.TheVariants.{WrongKind, Throttled, Wrong, WrongToken, Expired}
use Rattle.ls_script.specs.declared.reply.Reply.{Reply}
use Rattle.ls_script.specs.declared.reply.Reply.TheVariants.{Opened, Resumed, No}
use Rattle.ls_script.specs.declared.reply.Revealed.{Revealed}
use Rattle.ls_vault.specs.Arming.{is_good, taken, all_opened, resumed}
use Rattle.ls_vault.specs.Kinds.{same_kind}
use Rattle.ls_vault.specs.Refusals.{attempt_refusal, bytes_refusal, resume_refusal, of_user}
use Rattle.ls_vault.specs.Revealed.{revealed, all_revealed}
use Rattle.ls_vault.specs.States.{with_users, on_user, refused}
use Rattle.ls_vault.specs.Step.{unless, step}
use Rattle.ls_vault.specs.Tokens.{token_of}
use Rattle.ls_vault.specs.Unlocking.{opened, cleared, failed, attempted, token_attempted}
use Rattle.ls_vault.specs.Users.{user_of, changed}
use Rattle.ls_vault.specs.declared.state.State.{State}
use Rattle.ls_vault.specs.declared.token.Token.{Token}
use Rattle.ls_vault.specs.declared.user.User.{User}
use Rattle.ls_arming.specs.declared.arming.Arming.{Arming}
use Rattle.ls_weaver.specs.Throttle.{timeout, more_fails}

-- a kind is told by its number
kind_again : (k : Kind) → kind_of (code_of k) ≡ Some k
kind_again Empty = refl
kind_again Pattern = refl
kind_again Pin = refl
kind_again Password = refl

pub same_kind_is : (a b : Kind) → same_kind a b ≡ true → a ≡ b
same_kind_is a b is =
    let some : Some a ≡ Some b = sym (kind_again a) ∙ (ap kind_of (eqb_is (code_of a) (code_of b) is) ∙ kind_again b) in cc

pub same_parts : (a b : KindAndText) → a.kind ≡ b.kind → a.text ≡ b.text → a ≡ b
same_parts a b kind text =
    ap (λ (k : Kind). pair k a.text) kind ∙ ap (λ (t : List ℕ). pair b.kind t) text
  where
    pair : Kind → List ℕ → KindAndText
    pair k t = record { kind = k; text = t }

-- the reply to an attempt, by its three tests
abbrev tried : Revealed → Kind → ℕ → ℕ → State → State → State → Bool → Bool → Bool → Reply
tried shown stored rest wrong s t v kind early same =
    (unless (cond (not kind) (Some (WrongKind stored)) (cond early (Some (Throttled rest)) None)) s
    (cond same (record { reply = Opened shown; state = t }) (record { reply = No (Wrong wrong); state = v }))).reply

opened_only : (shown : Revealed) (stored : Kind) (rest wrong : ℕ) (s t v : State) (r : Revealed) (kind early same : Bool)
    → tried shown stored rest wrong s t v kind early same ≡ Opened r → (kind ≡ true) × (early ≡ false) × (same ≡ true) × (r ≡ shown)
opened_only shown stored rest wrong s t v r false early same is = absurd (cc)
opened_only shown stored rest wrong s t v r true true same is = absurd (cc)
opened_only shown stored rest wrong s t v r true false false is = absurd (cc)
opened_only shown stored rest wrong s t v r true false true is = (refl, refl, refl, cc)

opened_so : (shown : Revealed) (stored : Kind) (rest wrong : ℕ) (s t v : State) (r : Revealed) (kind early same : Bool)
    → kind ≡ true → early ≡ false → same ≡ true → r ≡ shown → tried shown stored rest wrong s t v kind early same ≡ Opened r
opened_so shown stored rest wrong s t v r false early same a b d e = absurd (cc)
opened_so shown stored rest wrong s t v r true true same a b d e = absurd (cc)
opened_so shown stored rest wrong s t v r true false false a b d e = absurd (cc)
opened_so shown stored rest wrong s t v r true false true a b d e = ap Opened (sym e)

module _ (s : State) (user : ℕ) (offered : KindAndText) (moment : ℕ) (r : Revealed) where
  abbrev answer : Option User → Reply
  answer o = (unless (of_user o (attempt_refusal offered moment)) s (on_user o s (attempted s user offered moment))).reply

  module _ (u : User) where
    abbrev kind : Bool
    kind = same_kind offered.kind u.credential.kind

    abbrev early : Bool
    early = nat_lt moment u.until

    abbrev same : Bool
    same = bytes_eq offered.text u.credential.text

  opens : (o : Option User) → user_of s.vault.users user ≡ o → answer o ≡ Opened r → OpensByCredential s user offered moment r
  opens None there is = absurd (cc)
  opens (Some u) there is =
      let h = opened_only (revealed u) u.credential.kind (u.until - moment) (timeout (more_fails u.fails)) s
      (attempted_right u) (attempted_wrong u) r (kind u) (early u) (same u) is in
      record {
        found = u;
        there = there;
        present = same_parts offered u.credential (same_kind_is offered.kind u.credential.kind h.0) ((bytes_eq-Decides offered.text u.credential.text).0 h.2);
        free = not_early moment u.until h.1;
        shown = h.3;
      }
    where
      attempted_right : User → State
      attempted_right u = opened (with_users s (changed s.vault.users user cleared)) user

      attempted_wrong : User → State
      attempted_wrong u = with_users s (changed s.vault.users user (failed moment))

      not_early : (a b : ℕ) → ltb a b ≡ false → b ≤ a
      not_early a b is = grind (arith, nat_tests)

  opened_by : OpensByCredential s user offered moment r → answer (user_of s.vault.users user) ≡ Opened r
  opened_by o =
      let u = o.found in
      ap answer o.there
      ∙ opened_so (revealed u) u.credential.kind (u.until - moment) (timeout (more_fails u.fails)) s
      (opened (with_users s (changed s.vault.users user cleared)) user) (with_users s (changed s.vault.users user (failed moment))) r (kind u) (early u) (same u)
      (eq-eqb (code_of offered.kind) (code_of u.credential.kind) (ap (λ (c : KindAndText). code_of c.kind) o.present))
      (on_time moment u.until o.free)
      ((bytes_eq-Decides offered.text u.credential.text).1 (ap (λ (c : KindAndText). c.text) o.present))
      o.shown
    where
      on_time : (a b : ℕ) → b ≤ a → ltb a b ≡ false
      on_time a b is = grind (arith, nat_tests)

pub by_credential : (slots : ℕ) (s : State) (user : ℕ) (offered : KindAndText) (moment : ℕ) (drawn : List ℕ) (r : Revealed)
    → ((step slots s (command.Attempt user offered) moment drawn).reply ≡ Opened r) ↔ OpensByCredential s user offered moment r
by_credential slots s user offered moment drawn r =
    (opens s user offered moment r (user_of s.vault.users user) refl, opened_by s user offered moment r)

-- by a token
abbrev matched : Revealed → State → State → Bool → Reply
matched shown s t same = (unless (cond same None (Some WrongToken)) s (record { reply = Opened shown; state = t })).reply

matched_only : (shown : Revealed) (s t : State) (r : Revealed) (same : Bool) → matched shown s t same ≡ Opened r → (same ≡ true) × (r ≡ shown)
matched_only shown s t r false is = absurd (cc)
matched_only shown s t r true is = (refl, cc)

matched_so : (shown : Revealed) (s t : State) (r : Revealed) (same : Bool) → same ≡ true → r ≡ shown → matched shown s t same ≡ Opened r
matched_so shown s t r false a e = absurd (cc)
matched_so shown s t r true a e = ap Opened (sym e)

module _ (s : State) (user id : ℕ) (offered : List ℕ) (r : Revealed) where
  abbrev token_answer : Option User → Reply
  token_answer o = (unless (of_user o (λ u. bytes_refusal offered (token_of u.tokens id))) s (on_user o s (token_attempted s user))).reply

  abbrev found_answer : User → Option Token → Reply
  found_answer u o = (unless (bytes_refusal offered o) s (token_attempted s user u)).reply

  token_opens : (o : Option User) → user_of s.vault.users user ≡ o → token_answer o ≡ Opened r → OpensByToken s user id offered r
  token_opens None there is = absurd (cc)
  token_opens (Some u) there is = by_token (token_of u.tokens id) refl is
    where
      by_token : (o : Option Token) → token_of u.tokens id ≡ o → found_answer u o ≡ Opened r → OpensByToken s user id offered r
      by_token None active is = absurd (cc)
      by_token (Some t) active is =
          let h = matched_only (revealed u) s (opened s user) r (bytes_eq offered t.bytes) is in
          record {
            found = u;
            there = there;
            token = t;
            active = active;
            same = (bytes_eq-Decides offered t.bytes).0 h.0;
            shown = h.1;
          }

  token_opened_by : OpensByToken s user id offered r → token_answer (user_of s.vault.users user) ≡ Opened r
  token_opened_by o =
      ap token_answer o.there
      ∙ (ap (found_answer o.found) o.active
      ∙ matched_so (revealed o.found) s (opened s user) r (bytes_eq offered o.token.bytes) ((bytes_eq-Decides offered o.token.bytes).1 o.same) o.shown)

pub by_token : (slots : ℕ) (s : State) (user id : ℕ) (offered : List ℕ) (moment : ℕ) (drawn : List ℕ) (r : Revealed)
    → ((step slots s (command.TokenAttempt user id offered) moment drawn).reply ≡ Opened r) ↔ OpensByToken s user id offered r
by_token slots s user id offered moment drawn r =
    (token_opens s user id offered r (user_of s.vault.users user) refl, token_opened_by s user id offered r)

-- by an arming
module _ (s : State) (rows : List Revealed) where
  abbrev resume_answer : Option Arming → Reply
  resume_answer o = (unless (resume_refusal o) s (resumed o s)).reply

  abbrev taken_answer : Arming → Bool → Reply
  taken_answer a good =
      (cond good (record { reply = Resumed (all_revealed s.vault.users a.users); state = all_opened (taken s a.users) a.users })
      (refused (taken s a.users) (Expired a.boot s.session.boot))).reply

  good_only : (a : Arming) (good : Bool) → taken_answer a good ≡ Resumed rows → (good ≡ true) × (rows ≡ all_revealed s.vault.users a.users)
  good_only a false is = absurd (cc)
  good_only a true is = (refl, cc)

  resume_opens : (o : Option Arming) → s.vault.arming ≡ o → resume_answer o ≡ Resumed rows → OpensByArming s rows
  resume_opens None armed is = absurd (cc)
  resume_opens (Some a) armed is =
      let h = good_only a (is_good a.boot s.session.boot) is in
      record { arming = a; armed = armed; good = h.0; shown = h.1 }

  resume_opened_by : OpensByArming s rows → resume_answer s.vault.arming ≡ Resumed rows
  resume_opened_by o = ap resume_answer o.armed ∙ (ap (taken_answer o.arming) o.good ∙ ap Resumed (sym o.shown))

pub by_arming : (slots : ℕ) (s : State) (moment : ℕ) (drawn : List ℕ) (rows : List Revealed)
    → ((step slots s command.Resume moment drawn).reply ≡ Resumed rows) ↔ OpensByArming s rows
by_arming slots s moment drawn rows = (resume_opens s rows s.vault.arming refl, resume_opened_by s rows)
