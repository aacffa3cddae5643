-- The lines that are served, and what is printed for them.
use Rattle.std.specs.Prelude.{◌≡◌, ◌<◌, ◌^◌, ◌++◌, ◌∷◌, ◌-◌, ◌&&◌, ℕ, [], nat_lt, if◌then◌else◌, List, length, take, drop, Option, Some, None, codes}
use Rattle.std.specs.Fmt.{decimal}
use Rattle.std.specs.Str.{bytes_eq}
use Rattle.std.specs.Str.Parse.{digits_value}
use Rattle.ls_top.specs.declared.vault.Command.{Command}
use Rattle.ls_top.specs.declared.vault.Command.TheVariants.{Add}
use Rattle.ls_top.specs.declared.vault.Refusal.{Refusal}
use Rattle.ls_top.specs.declared.vault.Refusal.TheVariants.{UserExists, UserLimit}
use Rattle.ls_top.specs.declared.vault.Reply.{Reply}
use Rattle.ls_top.specs.declared.vault.Reply.TheVariants.{Fine, Refused}

-- the line that adds this user
abbrev pub add_line : ℕ → List ℕ
add_line user = codes "user-add " ++ decimal user ++ codes " plain"

-- `user-add U plain`, where U is a number of 32 bits, spelled in decimal with no sign and no leading zero
pub record IsAddLine (line : List ℕ) (user : ℕ) : Type 0 where
  pub number : user < 2 ^ 32
  pub spelled : line ≡ add_line user

-- what stands in the place of U
abbrev pub operand : List ℕ → List ℕ
operand line = take (length line - 15) (drop 9 line)

-- the command of a line: that of `user-add U plain` for the number U that stands in it; any other line has none
abbrev pub command_of : List ℕ → Option Command
command_of line =
    if bytes_eq line (add_line (digits_value 10 (operand line))) && nat_lt (digits_value 10 (operand line)) (2 ^ 32)
    then Some (Add (digits_value 10 (operand line))) else None

-- what is printed for a refusal
abbrev pub refusal_text : Refusal → List ℕ
refusal_text UserExists = codes "no user-exists"
refusal_text UserLimit = codes "no user-limit"

-- what is printed for a command's reply
abbrev pub reply_text : Reply → List ℕ
reply_text Fine = codes "ok"
reply_text (Refused refusal) = refusal_text refusal

-- what is printed for a line that has no command
abbrev pub syntax_text : List ℕ
syntax_text = codes "no syntax 1"
