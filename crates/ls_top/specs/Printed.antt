-- What is printed for a line, by its reply.
use Rattle.std.specs.Prelude.{ℕ, List, Option, Some, None}
use Rattle.ls_lines.specs.Lines.{ended}
use Rattle.ls_top.specs.Lines.{reply_text, syntax_text}
use Rattle.ls_top.specs.declared.vault.Reply.{Reply}

-- the reply of its command, or that it has none
abbrev pub printed_for : Option Reply → List ℕ
printed_for None = ended syntax_text
printed_for (Some reply) = ended (reply_text reply)
