-- What a command does that isn't refused.
use Rattle.std.specs.Prelude.{ℕ, Bool, List, length, map}
use Rattle.ls_script.specs.declared.command.Command.{Command}
use Rattle.ls_script.specs.declared.command.Command.TheVariants as command
use Rattle.ls_script.specs.declared.reply.Reply.TheVariants as reply
use Rattle.ls_script.specs.declared.reply.StatusRow.{StatusRow}
use Rattle.ls_vault.specs.declared.state.Outcome.{Outcome}
use Rattle.ls_vault.specs.declared.state.State.{State}
use Rattle.ls_vault.specs.declared.user.User.{User}
use Rattle.ls_vault.specs.Arming.{prepared, armed, resumed}
use Rattle.ls_vault.specs.Credentials.{credential_changed}
use Rattle.ls_vault.specs.Fresh.{fresh, drawn_number}
use Rattle.ls_vault.specs.Limits.{activated_count}
use Rattle.ls_vault.specs.Refusals.{is_opened, differs}
use Rattle.ls_vault.specs.Revealed.{shown_length}
use Rattle.ls_vault.specs.States.{with_users, committed_if, fine, on_user}
use Rattle.ls_vault.specs.TokenChanges.{token_added, tokens_activated, token_dropped, escrow_ended}
use Rattle.ls_vault.specs.TokenChanges.{token_state}
use Rattle.ls_vault.specs.Tokens.{pending_of, token_ids}
use Rattle.ls_vault.specs.Unlocking.{locked, attempted, token_attempted}
use Rattle.ls_vault.specs.UserChanges.{added, dropped}
use Rattle.ls_vault.specs.Users.{user_of, changed}

-- how a user stands
abbrev pub status_row : State → ℕ → User → StatusRow
status_row s user u = record {
  opened = is_opened s user;
  kind = u.credential.kind;
  escrow = u.escrow;
  secure = u.secure;
  active = length u.tokens;
  pending = length (pending_of s.session.pending user);
}

-- the user with this flag, kept where it was another
abbrev pub auto_set : State → ℕ → Bool → User → State
auto_set s user on u =
    committed_if (differs u.auto on)
    (with_users s (changed s.vault.users user (λ v. record v { auto = on })))

-- What a command answers that isn't refused, and the state after it: with so many slots, at this
-- moment, and with these drawn bytes.
abbrev pub effect : ℕ → State → Command → ℕ → List ℕ → Outcome
effect slots s (command.Add user escrow) moment drawn = fine (added s user escrow drawn)
effect slots s (command.Drop user) moment drawn = fine (dropped s user)
effect slots s (command.Attempt user offered) moment drawn =
    on_user (user_of s.vault.users user) s (attempted s user offered moment)
effect slots s (command.Change user new) moment drawn = fine (credential_changed s user new drawn)
effect slots s (command.Lock user) moment drawn = fine (locked s user)
effect slots s (command.Status user) moment drawn =
    on_user (user_of s.vault.users user) s
    (λ u. record { reply = reply.Status (status_row s user u); state = s })
effect slots s command.Users moment drawn =
    record { reply = reply.Users (map (λ u. u.number) s.vault.users); state = s }
effect slots s (command.TokenAdd user bytes) moment drawn =
    let id = fresh (drawn_number drawn) (token_ids s) in
    record { reply = reply.TokenId id; state = token_added s user bytes id }
effect slots s (command.Activate user) moment drawn =
    fine (tokens_activated (activated_count slots s user) s user)
effect slots s (command.TokenDrop user id) moment drawn = fine (token_dropped s user id)
effect slots s (command.TokenState user id) moment drawn =
    record { reply = reply.TokenState (token_state s user id); state = s }
effect slots s (command.TokenAttempt user id offered) moment drawn =
    on_user (user_of s.vault.users user) s (token_attempted s user)
effect slots s (command.EscrowOff user) moment drawn = fine (escrow_ended s user)
effect slots s command.Prepare moment drawn = fine (prepared s)
effect slots s command.Arm moment drawn = fine (armed s)
effect slots s command.Resume moment drawn = resumed s.vault.arming s
effect slots s (command.AutoPin user on) moment drawn =
    on_user (user_of s.vault.users user) s (λ u. fine (auto_set s user on u))
effect slots s (command.PinLength user) moment drawn =
    on_user (user_of s.vault.users user) s
    (λ u. record { reply = reply.PinLength (shown_length u); state = s })
