-- What is printed for a text is one line.
use Rattle.std.proofs.Common.{◌≡◌, ℕ, zero, suc, Bool, List, [], ◌∷◌, Option, None, Some, Result, Ok, Err, length, map, refl, sym, subst}
use Rattle.std.specs.Prelude.{◌==◌, ◌||◌, not, nat_lt, nat_le, find, slice_get, IfSome, bytes_eq}
use Rattle.std.specs.List.{AllByRecursion}
use Rattle.ls_credential.specs.Rules.{KindAndText}
use Rattle.ls_grammar.specs.declared.fault.LineFault.{LineFault}
use Rattle.ls_promises.proofs.LineLemmas.{replies_of, line_answered, fault_answered}
use Rattle.ls_promises.proofs.ReplyLemmas.{reply_user}
use Rattle.ls_promises.proofs.Steps.{cond_both}
use Rattle.ls_script.proofs.ReplyLineLemmas.{reply_one_line, fault_one_line}
use Rattle.ls_script.specs.Commands.{reply_place, is_refusal, refusal_or, line_reply}
use Rattle.ls_script.specs.ReplyLines.{IsOneLine, NamesFile, NamesFiles}
use Rattle.ls_script.specs.ScriptReading.{reading_of}
use Rattle.ls_script.specs.declared.command.Command.{Command}
use Rattle.ls_script.specs.declared.command.Command.TheVariants as command
use Rattle.ls_script.specs.declared.reply.Refusal.{Refusal}
use Rattle.ls_script.specs.declared.reply.Reply.{Reply}
use Rattle.ls_script.specs.declared.script_line.ScriptLine.{ScriptLine}
use Rattle.ls_vault.specs.Arming.{resumed, is_good}
use Rattle.ls_vault.specs.Effects.{effect}
use Rattle.ls_vault.specs.Kinds.{same_kind}
use Rattle.ls_vault.specs.Limits.{most_users, most_tokens, is_worn, is_full, token_count}
use Rattle.ls_vault.specs.Refusals.{is_opened, differs, worn_refusal, add_refusal, attempt_refusal, change_refusal, token_add_refusal, token_drop_refusal, bytes_refusal, arm_refusal, resume_refusal, auto_pin_refusal, of_user, refusal}
use Rattle.ls_vault.specs.Script.{Stage, Carried, entry_of, stage_after, carried, commands_of, served_as}
use Rattle.ls_vault.specs.Step.{unless, step}
use Rattle.ls_vault.specs.Tokens.{token_of, is_active, is_pending}
use Rattle.ls_vault.specs.Users.{user_of, is_user}
use Rattle.ls_vault.specs.declared.state.Outcome.{Outcome}
use Rattle.ls_vault.specs.declared.state.State.{State}
use Rattle.ls_vault.specs.declared.token.Token.{Token}
use Rattle.ls_vault.specs.declared.user.User.{User}
use Rattle.ls_arming.specs.declared.arming.Arming.{Arming}

-- ---- no command tells of a corrupt file

abbrev Named : Option Refusal → Type 0
Named o = IfSome o NamesFile

named_user : (o : Option User) (cause : User → Option Refusal) → ((u : User) → Named (cause u)) → Named (of_user o cause)
named_user None cause all = tt
named_user (Some u) cause all = all u

named_bytes : (offered : List ℕ) (o : Option Token) → Named (bytes_refusal offered o)
named_bytes offered None = tt
named_bytes offered (Some t) = cond_both Named (bytes_eq offered t.bytes) _ _ tt tt

named_arming : (o : Option Arming) → Named (resume_refusal o)
named_arming None = tt
named_arming (Some arming) = tt

module _ (slots : ℕ) (s : State) where
  named_worn : Named (worn_refusal s)
  named_worn = cond_both Named (is_worn s) _ _ tt tt

  named_add : (user : ℕ) → Named (add_refusal slots s user)
  named_add user =
      cond_both Named (is_user s.vault.users user) _ _ tt
      (cond_both Named (nat_le most_users (length s.vault.users)) _ _ tt
      (cond_both Named (is_full slots s) _ _ tt named_worn))

  named_attempt : (offered : KindAndText) (moment : ℕ) (u : User) → Named (attempt_refusal offered moment u)
  named_attempt offered moment u =
      cond_both Named (not (same_kind offered.kind u.credential.kind)) _ _ tt
      (cond_both Named (nat_lt moment u.until) _ _ tt tt)

  named_change : (user : ℕ) → Named (change_refusal slots s user)
  named_change user = cond_both Named (not (is_opened s user)) _ _ tt (cond_both Named (is_full slots s) _ _ tt named_worn)

  named_token_add : (user : ℕ) (u : User) → Named (token_add_refusal s user u)
  named_token_add user u = cond_both Named (not u.escrow) _ _ tt (cond_both Named (nat_le most_tokens (token_count s user)) _ _ tt tt)

  named_token_drop : (user id : ℕ) → Named (token_drop_refusal s user id)
  named_token_drop user id =
      cond_both Named (not (is_pending s user id || is_active s user id)) _ _ tt
      (cond_both Named (is_active s user id) _ _ named_worn tt)

  named_arm : Named (arm_refusal s)
  named_arm = cond_both Named (not s.session.prepared) _ _ tt (cond_both Named (length s.session.captured == 0) _ _ tt named_worn)

  named_auto : (user : ℕ) (on : Bool) (u : User) → Named (auto_pin_refusal s user on u)
  named_auto user on u = cond_both Named (not (is_opened s user)) _ _ tt (cond_both Named (differs u.auto on) _ _ named_worn tt)

  named_refusal : (moment : ℕ) (c : Command) → Named (refusal slots s c moment)
  named_refusal moment (command.Add user escrow) = named_add user
  named_refusal moment (command.Drop user) = named_user (user_of s.vault.users user) _ (λ u. named_worn)
  named_refusal moment (command.Attempt user offered) = named_user (user_of s.vault.users user) _ (named_attempt offered moment)
  named_refusal moment (command.Change user new) = named_user (user_of s.vault.users user) _ (λ u. named_change user)
  named_refusal moment (command.Lock user) = named_user (user_of s.vault.users user) _ (λ u. tt)
  named_refusal moment (command.Status user) = named_user (user_of s.vault.users user) _ (λ u. tt)
  named_refusal moment command.Users = tt
  named_refusal moment (command.TokenAdd user bytes) = named_user (user_of s.vault.users user) _ (named_token_add user)
  named_refusal moment (command.Activate user) = named_user (user_of s.vault.users user) _ (λ u. cond_both Named (is_opened s user) _ _ tt tt)
  named_refusal moment (command.TokenDrop user id) = named_user (user_of s.vault.users user) _ (λ u. named_token_drop user id)
  named_refusal moment (command.TokenState user id) = named_user (user_of s.vault.users user) _ (λ u. tt)
  named_refusal moment (command.TokenAttempt user id offered) = named_user (user_of s.vault.users user) _ (λ u. named_bytes offered (token_of u.tokens id))
  named_refusal moment (command.EscrowOff user) = named_user (user_of s.vault.users user) _ (λ u. cond_both Named (not u.escrow) _ _ tt named_worn)
  named_refusal moment command.Prepare = tt
  named_refusal moment command.Arm = named_arm
  named_refusal moment command.Resume = named_arming s.vault.arming
  named_refusal moment (command.AutoPin user on) = named_user (user_of s.vault.users user) _ (named_auto user on)
  named_refusal moment (command.PinLength user) = named_user (user_of s.vault.users user) _ (λ u. tt)

  named_unless : (r : Option Refusal) (o : Outcome) → Named r → NamesFiles o.reply → NamesFiles (unless r s o).reply
  named_unless None o cause reply = reply
  named_unless (Some why) o cause reply = cause

  named_resumed : (o : Option Arming) → NamesFiles (resumed o s).reply
  named_resumed None = tt
  named_resumed (Some arming) = cond_both (λ (o : Outcome). NamesFiles o.reply) (is_good arming.boot s.session.boot) _ _ tt tt

  module _ (moment : ℕ) (drawn : List ℕ) where
    named_effect : (c : Command) → NamesFiles (effect slots s c moment drawn).reply
    named_effect (command.Add user escrow) = tt
    named_effect (command.Drop user) = tt
    named_effect (command.Attempt user offered) =
        reply_user NamesFiles (user_of s.vault.users user) s _ tt
        (λ u. cond_both (λ (o : Outcome). NamesFiles o.reply) (bytes_eq offered.text u.credential.text) _ _ tt tt)
    named_effect (command.Change user new) = tt
    named_effect (command.Lock user) = tt
    named_effect (command.Status user) = reply_user NamesFiles (user_of s.vault.users user) s _ tt (λ u. tt)
    named_effect command.Users = tt
    named_effect (command.TokenAdd user bytes) = tt
    named_effect (command.Activate user) = tt
    named_effect (command.TokenDrop user id) = tt
    named_effect (command.TokenState user id) = tt
    named_effect (command.TokenAttempt user id offered) = reply_user NamesFiles (user_of s.vault.users user) s _ tt (λ u. tt)
    named_effect (command.EscrowOff user) = tt
    named_effect command.Prepare = tt
    named_effect command.Arm = tt
    named_effect command.Resume = named_resumed s.vault.arming
    named_effect (command.AutoPin user on) = reply_user NamesFiles (user_of s.vault.users user) s _ tt (λ u. tt)
    named_effect (command.PinLength user) = reply_user NamesFiles (user_of s.vault.users user) s _ tt (λ u. tt)

    named_step : (c : Command) → NamesFiles (step slots s c moment drawn).reply
    named_step c = named_unless (refusal slots s c moment) (effect slots s c moment drawn) (named_refusal moment c) (named_effect c)

-- ---- so does no line

abbrev AllNamed : List Reply → Type 0
AllNamed replies = AllByRecursion NamesFiles replies

named_carried : (slots : ℕ) (at : Stage) (cs : List Command) → AllNamed (replies_of (carried slots at cs))
named_carried slots at [] = tt
named_carried slots at (c ∷ cs) = (
  named_step slots at.state (entry_of slots at c).moment (entry_of slots at c).drawn c,
  cond_both (λ (done : Carried). AllNamed (replies_of done)) (is_refusal (entry_of slots at c).reply) _ _ tt (named_carried slots (stage_after slots at c) cs),
)

named_served : (slots : ℕ) (at : Stage) (o : Result ScriptLine LineFault) → AllNamed (map (λ e. e.reply) (served_as slots at o).entries)
named_served slots at (Ok line) = named_carried slots at (commands_of at.state line)
named_served slots at (Err why) = tt

abbrev IsNamed : Option Reply → Type 0
IsNamed o = IfSome o NamesFiles

found : (p : Reply → Bool) (replies : List Reply) → AllNamed replies → IsNamed (find p replies)
found p [] all = tt
found p (r ∷ replies) all = cond_both IsNamed (p r) _ _ all.0 (found p replies all.1)

placed : (replies : List Reply) (place : ℕ) → AllNamed replies → IsNamed (slice_get replies place)
placed [] place all = tt
placed (r ∷ replies) zero all = all.0
placed (r ∷ replies) (suc place) all = placed replies place all.1

either_named : (o p : Option Reply) → IsNamed o → IsNamed p → IsNamed (refusal_or o p)
either_named None p a b = b
either_named (Some r) p a b = a

named_line : (line : ScriptLine) (replies : List Reply) → AllNamed replies → IsNamed (line_reply line replies)
named_line line replies all = either_named (find is_refusal replies) (slice_get replies (reply_place line)) (found is_refusal replies all) (placed replies (reply_place line) all)

pub answer_one_line : (slots : ℕ) (at : Stage) (text : List ℕ) → IsOneLine (served_as slots at (reading_of text)).printed
answer_one_line slots at text = by_reading (reading_of text) refl
  where
    by_reading : (o : Result ScriptLine LineFault) → reading_of text ≡ o → IsOneLine (served_as slots at (reading_of text)).printed
    by_reading (Ok line) is =
        let h = line_answered slots at text line is in
        let names : NamesFiles h.0 = subst IsNamed h.1 (named_line line (map (λ e. e.reply) (served_as slots at (reading_of text)).entries) (named_served slots at (reading_of text))) in
        subst IsOneLine (sym h.2) (reply_one_line h.0 names)
    by_reading (Err why) is = fault_one_line why (served_as slots at (reading_of text)).printed (fault_answered slots at text why is)
