use Rattle.std.proofs.Common.{◌≡◌, drop}
use Rattle.ls_grammar.specs.Reading.{read_digits}
use Rattle.ls_grammar.proofs.number.digits_in.Given as goal

abbrev pub invariant-loop-i : goal.invariant-loop-i
invariant-loop-i l = read_digits l.n l.i (drop l.i l.word) ≡ read_digits 0 0 l.word
