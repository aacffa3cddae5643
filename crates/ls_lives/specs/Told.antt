-- The machine's answers to the script that a world has as its input.
use Rattle.std.specs.Prelude.{◌+◌, ◌==◌, ℕ, List, [], false, length, take, count_by, flat_map}
use Rattle.ls_board.specs.declared.world.World.{World}
use Rattle.ls_lines.specs.Lines.{lines_of}
use Rattle.ls_vault.specs.Script.{Entry, told, told_lines, begun}
use Rattle.ls_vault.specs.declared.state.State.{State}
use Rattle.ls_vault.specs.declared.vault.Books.{Books}
use Rattle.ls_vault.specs.declared.vault.Vault.{Vault}

-- the state in which a run begins: this vault and these books, and an empty session at this boot
abbrev pub opened_state : Vault → Books → ℕ → State
opened_state v books boot = record {
  vault = v;
  books = books;
  session = record { boot = boot; opened = []; pending = []; prepared = false; captured = [] };
}

-- the commands of the script, from this state on
abbrev pub told_from : World → State → List Entry
told_from start s = told (length start.slots) s start.input start.moments start.noise

-- how many commands the first lines have, as many as replies were said to their end, and so many more
abbrev pub commands_said : World → State → List ℕ → ℕ → ℕ
commands_said start s said more =
    length (flat_map (λ line. line.entries)
    (take (count_by (λ b. b == 10) said + more)
    (told_lines (length start.slots) (begun s start.moments start.noise) (lines_of start.input))))
