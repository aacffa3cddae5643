use Rattle.std.proofs.Common.{◌≡◌, ◌+◌, drop}
use Rattle.std.specs.List.{prefix_len}
use Rattle.ls_grammar.specs.Reading.{is_visible}
use Rattle.ls_grammar.proofs.prefix.visible_len.Given as goal

abbrev pub invariant-loop-i : goal.invariant-loop-i
invariant-loop-i l = l.i + prefix_len is_visible (drop l.i l.text) ≡ prefix_len is_visible l.text
