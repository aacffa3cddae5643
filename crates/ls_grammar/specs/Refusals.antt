-- What becomes of a refused line.
use Rattle.std.specs.Prelude.{◌+◌, ◌<◌, ⊤}
use Rattle.ls_grammar.specs.declared.fault.LineFault.{LineFault}
use Rattle.ls_grammar.specs.declared.fault.LineFault.TheVariants as line
use Rattle.ls_grammar.specs.declared.fault.Refused.{Refused}
use Rattle.ls_grammar.specs.declared.fault.Refused.TheVariants.{Mismatch, BadCredential, Memory}

-- the column fits its type
abbrev pub IsSmall : Refused → Type 0
IsSmall (Mismatch mismatch) = mismatch.at + 1 < 4294967296
IsSmall (BadCredential f) = ⊤
IsSmall Memory = ⊤

-- the column counts from 1
abbrev pub fault_of_refused : Refused → LineFault
fault_of_refused (Mismatch mismatch) = line.Syntax (mismatch.at + 1)
fault_of_refused (BadCredential f) = line.BadCredential f
fault_of_refused Memory = line.Memory
