-- What a text that keeps its rules is like.
use Rattle.std.proofs.Common.{◌≡◌, ◌≤◌, ℕ, List, length, None, arith}
use Rattle.std.proofs.lemmas.Bool.Decides.{nat_tests}
use Rattle.ls_credential.specs.declared.kind.Kind.{Kind}
use Rattle.ls_credential.specs.Rules.{fault_of}

-- it has at most 16 bytes
pub at_most_16 : (kind : Kind) (text : List ℕ) → fault_of kind text ≡ None → length text ≤ 16
at_most_16 kind text kept = grind (arith, nat_tests)
