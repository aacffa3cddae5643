-- One step of the vault machine, and a restart.
use Rattle.std.specs.Prelude.{ℕ, false, List, [], Option, Some, None}
use Rattle.ls_script.specs.declared.command.Command.{Command}
use Rattle.ls_script.specs.declared.reply.Refusal.{Refusal}
use Rattle.ls_vault.specs.declared.state.Outcome.{Outcome}
use Rattle.ls_vault.specs.declared.state.State.{State}
use Rattle.ls_vault.specs.declared.vault.Books.{Books}
use Rattle.ls_vault.specs.Effects.{effect}
use Rattle.ls_vault.specs.Refusals.{refusal}
use Rattle.ls_vault.specs.States.{refused}

-- a command that is refused changes nothing
abbrev pub unless : Option Refusal → State → Outcome → Outcome
unless None s outcome = outcome
unless (Some why) s outcome = refused s why

-- One command, with so many slots, at this moment, and with these drawn bytes: what it answers, and
-- the state after it.
abbrev pub step : ℕ → State → Command → ℕ → List ℕ → Outcome
step slots s command moment drawn =
    unless (refusal slots s command moment) s (effect slots s command moment drawn)

-- A new session at this boot: the vault is as it was, the books are these, and nothing else is
-- left.
abbrev pub restart : State → ℕ → Books → State
restart s boot books = record {
  vault = s.vault;
  books = books;
  session = record { boot = boot; opened = []; pending = []; prepared = false; captured = [] };
}
