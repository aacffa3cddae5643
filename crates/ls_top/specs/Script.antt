-- A script: the replies to its lines, and the users after each command.
use Rattle.std.specs.Prelude.{◌∷◌, ◌++◌, ℕ, zero, suc, [], List, length, take, Option, Some, None}
use Rattle.ls_lines.specs.Lines.{ended_count}
use Rattle.ls_top.specs.Lines.{command_of}
use Rattle.ls_top.specs.Printed.{printed_for}
use Rattle.ls_top.specs.Vault.{step}
use Rattle.ls_top.specs.declared.vault.Command.{Command}
use Rattle.ls_top.specs.declared.vault.Reply.{Reply}

-- a command that was carried out or refused: its reply, and the users after it
pub record Entry : Type 0 where
  pub command : Command
  pub reply : Reply
  pub users : List ℕ

-- what a line does: the entries of its commands, what is printed for it, and the users after it
pub record Served : Type 0 where
  pub entries : List Entry
  pub printed : List ℕ
  pub users : List ℕ

-- a line of one command does this command, and is answered its reply; a line of none is no line of the grammar
abbrev pub served_by : List ℕ → Option Command → Served
served_by users None = record { entries = []; printed = printed_for None; users = users }
served_by users (Some command) = record {
  entries = record { command = command; reply = (step users command).reply; users = (step users command).users } ∷ [];
  printed = printed_for (Some (step users command).reply);
  users = (step users command).users;
}

abbrev pub served : List ℕ → List ℕ → Served
served users line = served_by users (command_of line)

-- what is printed for these lines, one after another
abbrev pub replies : List ℕ → List (List ℕ) → List ℕ
replies users [] = []
replies users (line ∷ lines) = (served users line).printed ++ replies (served users line).users lines

-- the users after these lines
abbrev pub users_after : List ℕ → List (List ℕ) → List ℕ
users_after users [] = users
users_after users (line ∷ lines) = users_after (served users line).users lines

-- the entries of all commands of these lines, in order
abbrev pub told : List ℕ → List (List ℕ) → List Entry
told users [] = []
told users (line ∷ lines) = (served users line).entries ++ told (served users line).users lines

-- the users after so many of these commands
abbrev pub after : List ℕ → List Entry → ℕ → List ℕ
after users entries zero = users
after users [] (suc count) = users
after users (entry ∷ entries) (suc count) = after entry.users entries count

-- how many commands were answered: those of as many lines as replies were said to their end
abbrev pub acknowledged : List ℕ → List (List ℕ) → List ℕ → ℕ
acknowledged users lines said = length (told users (take (ended_count said) lines))
