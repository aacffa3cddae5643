-- The numbers that kinds are stored as.
use Rattle.std.specs.Prelude.{ℕ, ◌==◌, if◌then◌else◌, Option, Some, None}
use Rattle.ls_credential.specs.declared.kind.Kind.{Kind}
use Rattle.ls_credential.specs.declared.kind.Kind.TheVariants.{Empty, Pattern, Pin, Password}

-- the number of a kind
abbrev pub code_of : Kind → ℕ
code_of Empty = 0
code_of Pattern = 1
code_of Pin = 3
code_of Password = 4

-- the kind with this number
abbrev pub kind_of : ℕ → Option Kind
kind_of code =
    if code == 0 then Some Empty
    else if code == 1 then Some Pattern
    else if code == 3 then Some Pin
    else if code == 4 then Some Password
    else None
