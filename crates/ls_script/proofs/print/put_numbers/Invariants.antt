use Rattle.std.proofs.Common.{◌*◌, map, take}
use Rattle.ls_grammar.specs.Words.{number}
use Rattle.ls_script.specs.ReplyText.{Puts}
use Rattle.ls_script.proofs.print.put_numbers.Given as goal

abbrev pub invariant-loop-n : goal.invariant-loop-n
invariant-loop-n l = Puts (map number (take l.n-index l.numbers)) (11 * l.n-index) l.initial.to l.to
