-- Histories of the vault machine: commands and restarts in a list.
use Rattle.std.specs.Prelude.{ℕ, Bool, false, List, [], ◌∷◌, Option, Some, None}
use Rattle.ls_script.specs.declared.command.Command.{Command}
use Rattle.ls_script.specs.declared.reply.Reply.{Reply}
use Rattle.ls_vault.specs.declared.state.State.{State}
use Rattle.ls_vault.specs.declared.vault.Books.{Books}
use Rattle.ls_vault.specs.Step.{step, restart}

-- a command at a moment with its drawn bytes, or a new session at a boot with its books
pub data Event : Type 0 where
  command : Command → ℕ → List ℕ → Event
  restarted : ℕ → Books → Event

-- what came of an event: the reply to a command, and the state after it
pub record Happening : Type 0 where
  pub event : Event
  pub reply : Option Reply
  pub state : State

abbrev pub happening : ℕ → State → Event → Happening
happening slots s (command c moment drawn) = record {
  event = command c moment drawn;
  reply = Some (step slots s c moment drawn).reply;
  state = (step slots s c moment drawn).state;
}
happening slots s (restarted boot books) = record {
  event = restarted boot books;
  reply = None;
  state = restart s boot books;
}

-- what came of these events, one after another from a state on
abbrev pub history : ℕ → State → List Event → List Happening
history slots s [] = []
history slots s (event ∷ events) =
    happening slots s event ∷ history slots (happening slots s event).state events

-- the state after them
abbrev pub state_after : ℕ → State → List Event → State
state_after slots s [] = s
state_after slots s (event ∷ events) = state_after slots (happening slots s event).state events

-- the event was a command, and it and its reply pass the test
abbrev pub was_answered : (Command → Reply → Bool) → Event → Option Reply → Bool
was_answered test (command c moment drawn) (Some reply) = test c reply
was_answered test (command c moment drawn) None = false
was_answered test (restarted boot books) reply = false

abbrev pub passes : (Command → Reply → Bool) → Happening → Bool
passes test h = was_answered test h.event h.reply
