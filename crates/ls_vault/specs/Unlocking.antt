-- Users are unlocked and locked.
use Rattle.std.specs.Prelude.{ℕ, if◌then◌else◌, bytes_eq}
use Rattle.ls_credential.specs.Rules.{KindAndText}
use Rattle.ls_script.specs.declared.reply.Refusal.TheVariants.{Wrong}
use Rattle.ls_script.specs.declared.reply.Reply.TheVariants.{Opened, No}
use Rattle.ls_vault.specs.declared.state.Outcome.{Outcome}
use Rattle.ls_vault.specs.declared.state.State.{State}
use Rattle.ls_vault.specs.declared.user.User.{User}
use Rattle.ls_vault.specs.Revealed.{revealed}
use Rattle.ls_vault.specs.States.{with_users, with_session}
use Rattle.ls_vault.specs.Users.{changed}
use Rattle.ls_arming.specs.Numbers.{with_number, without_number}
use Rattle.ls_weaver.specs.Throttle.{timeout, more_fails, rest_until}

-- the user is opened, and captured while an arming is prepared
abbrev pub opened : State → ℕ → State
opened s user = with_session s (record s.session {
  opened = with_number s.session.opened user;
  captured = if s.session.prepared then with_number s.session.captured user else s.session.captured;
})

-- a captured user stays captured
abbrev pub locked : State → ℕ → State
locked s user = with_session s (record s.session { opened = without_number s.session.opened user })

-- the user after the right text
abbrev pub cleared : User → User
cleared u = record u { fails = 0; until = 0 }

-- the user after a wrong text at this moment
abbrev pub failed : ℕ → User → User
failed moment u = record u {
  fails = more_fails u.fails;
  until = rest_until moment (more_fails u.fails);
}

-- a text of the stored kind is offered, and nothing throttles
abbrev pub attempted : State → ℕ → KindAndText → ℕ → User → Outcome
attempted s user offered moment u =
    if bytes_eq offered.text u.credential.text
    then record {
      reply = Opened (revealed u);
      state = opened (with_users s (changed s.vault.users user cleared)) user;
    }
    else record {
      reply = No (Wrong (timeout (more_fails u.fails)));
      state = with_users s (changed s.vault.users user (failed moment));
    }

-- the bytes of an active token are offered
abbrev pub token_attempted : State → ℕ → User → Outcome
token_attempted s user u = record { reply = Opened (revealed u); state = opened s user }
