-- A script: its lines, their replies, and the state after each command.
use Rattle.std.specs.Prelude.{ℕ, zero, suc, Bool, false, if◌then◌else◌, List, [], ◌∷◌}
use Rattle.std.specs.Prelude.{length, take, drop, map, flat_map, Option, Some}
use Rattle.std.specs.Prelude.{None, Result, Ok, Err, unwrap_or, option_map}
use Rattle.std.specs.Prelude.{option_and_then}
use Rattle.ls_credential.specs.declared.kind.Kind.{Kind}
use Rattle.ls_grammar.specs.declared.fault.LineFault.{LineFault}
use Rattle.ls_lines.specs.Lines.{lines_of, ended_count}
use Rattle.ls_script.specs.Commands.{command_list, token_user, line_reply, is_refusal}
use Rattle.ls_script.specs.ReplyText.{reply_text, fault_text}
use Rattle.ls_script.specs.declared.command.Command.{Command}
use Rattle.ls_script.specs.declared.command.Command.TheVariants as command
use Rattle.ls_script.specs.declared.reply.Reply.{Reply}
use Rattle.ls_script.specs.declared.script_line.ScriptLine.{ScriptLine}
use Rattle.ls_tape.specs.Tape.{next_moment, later_moments, drawn as drawn_bytes}
use Rattle.ls_vault.specs.Drawn.{drawn_len}
use Rattle.ls_vault.specs.Histories.{Event, command as served}
use Rattle.ls_vault.specs.Kinds.{same_kind}
use Rattle.ls_script.specs.ScriptReading.{reading_of}
use Rattle.ls_vault.specs.Refusals.{is_opened}
use Rattle.ls_vault.specs.Step.{step}
use Rattle.ls_vault.specs.Users.{user_of}
use Rattle.ls_vault.specs.declared.state.Outcome.{Outcome}
use Rattle.ls_vault.specs.declared.state.State.{State}
use Rattle.ls_vault.specs.declared.user.User.{User}

-- ---- moments and noise

-- how far a run has come: its state, and the moments and the noise that are left to it
pub record Stage : Type 0 where
  pub state : State
  pub moments : List ℕ
  pub noise : List ℕ

-- the user is there, and its credential is of this kind
abbrev pub has_kind : Option User → Kind → Bool
has_kind None kind = false
has_kind (Some u) kind = same_kind kind u.credential.kind

-- A command takes a moment where it offers a credential of the stored kind of a user that is there.
abbrev pub takes_moment : State → Command → Bool
takes_moment s (command.Attempt user offered) = has_kind (user_of s.vault.users user) offered.kind
takes_moment s _ = false

-- ---- commands

-- a command that was carried out or refused: its moment and its drawn bytes, its reply, and the
-- state after it
pub record Entry : Type 0 where
  pub command : Command
  pub moment : ℕ
  pub drawn : List ℕ
  pub reply : Reply
  pub state : State

abbrev pub answered : Command → ℕ → List ℕ → Outcome → Entry
answered c moment drawn outcome = record {
  command = c;
  moment = moment;
  drawn = drawn;
  reply = outcome.reply;
  state = outcome.state;
}

-- the moment of a command, 0 where it takes none
abbrev pub moment_for : Stage → Command → ℕ
moment_for at c = if takes_moment at.state c then next_moment at.moments else 0

-- the bytes that it draws
abbrev pub drawn_for : ℕ → Stage → Command → List ℕ
drawn_for slots at c = drawn_bytes at.noise (drawn_len slots at.state c (moment_for at c))

abbrev pub entry_of : ℕ → Stage → Command → Entry
entry_of slots at c =
    answered c (moment_for at c) (drawn_for slots at c)
    (step slots at.state c (moment_for at c) (drawn_for slots at c))

abbrev pub stage_after : ℕ → Stage → Command → Stage
stage_after slots at c = record {
  state = (entry_of slots at c).state;
  moments = if takes_moment at.state c then later_moments at.moments else at.moments;
  noise = drop (length (drawn_for slots at c)) at.noise;
}

-- ---- what a line does

-- the entries of its commands, what is printed for it, and the stage after it
pub record Served : Type 0 where
  pub entries : List Entry
  pub printed : List ℕ
  pub stage : Stage

-- commands one after another; the first refusal ends them
pub record Carried : Type 0 where
  pub entries : List Entry
  pub stage : Stage

abbrev pub put_first : Entry → Carried → Carried
put_first entry rest = record { entries = entry ∷ rest.entries; stage = rest.stage }

abbrev pub carried : ℕ → Stage → List Command → Carried
carried slots at [] = record { entries = []; stage = at }
carried slots at (c ∷ commands) =
    put_first (entry_of slots at c)
    (if is_refusal (entry_of slots at c).reply
    then record { entries = []; stage = stage_after slots at c }
    else carried slots (stage_after slots at c) commands)

-- how the user of a line stands: whether it is opened, and its stored kind
abbrev pub standing_of : State → ℕ → Option (Bool × Kind)
standing_of s user =
    option_map (λ u. (is_opened s user, u.credential.kind)) (user_of s.vault.users user)

abbrev pub commands_of : State → ScriptLine → List Command
commands_of s line = command_list line (option_and_then (standing_of s) (token_user line))

-- what is printed for a line with these replies
abbrev pub printed_for : ScriptLine → List Reply → List ℕ
printed_for line replies = unwrap_or (option_map reply_text (line_reply line replies)) []

abbrev pub served_line : ScriptLine → Carried → Served
served_line line done = record {
  entries = done.entries;
  printed = printed_for line (map (λ e. e.reply) done.entries);
  stage = done.stage;
}

-- a text that is no line has no command, and is answered why
abbrev pub served_as : ℕ → Stage → Result ScriptLine LineFault → Served
served_as slots at (Ok line) = served_line line (carried slots at (commands_of at.state line))
served_as slots at (Err why) =
    record { entries = []; printed = unwrap_or (fault_text why) []; stage = at }

abbrev pub served_text : ℕ → Stage → List ℕ → Served
served_text slots at text = served_as slots at (reading_of text)

-- ---- what a script does

-- what its lines do, one after another
abbrev pub told_lines : ℕ → Stage → List (List ℕ) → List Served
told_lines slots at [] = []
told_lines slots at (text ∷ texts) =
    served_text slots at text ∷ told_lines slots (served_text slots at text).stage texts

abbrev pub begun : State → List ℕ → List ℕ → Stage
begun s moments noise = record { state = s; moments = moments; noise = noise }

-- the entries of all commands, in order
abbrev pub told : ℕ → State → List ℕ → List ℕ → List ℕ → List Entry
told slots s script moments noise =
    flat_map (λ line. line.entries) (told_lines slots (begun s moments noise) (lines_of script))

-- what is printed for all lines, in order
abbrev pub replies : ℕ → State → List ℕ → List ℕ → List ℕ → List ℕ
replies slots s script moments noise =
    flat_map (λ line. line.printed) (told_lines slots (begun s moments noise) (lines_of script))

-- the state after so many of these commands
abbrev pub after : State → List Entry → ℕ → State
after s entries zero = s
after s [] (suc count) = s
after s (entry ∷ entries) (suc count) = after entry.state entries count

-- How many commands were answered: those of as many lines as replies were said to their end.
abbrev pub acknowledged : List ℕ → ℕ → State → List ℕ → List ℕ → List ℕ → ℕ
acknowledged said slots s script moments noise =
    length (flat_map (λ line. line.entries)
    (take (ended_count said)
    (told_lines slots (begun s moments noise) (lines_of script))))

-- a command of a script, as an event of a history
abbrev pub event_of : Entry → Event
event_of entry = served entry.command entry.moment entry.drawn
