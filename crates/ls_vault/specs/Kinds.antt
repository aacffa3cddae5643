-- Tests on the kind of a credential.
use Rattle.std.specs.Prelude.{◌==◌, Bool, true, false}
use Rattle.ls_credential.specs.declared.kind.Kind.{Kind}
use Rattle.ls_credential.specs.declared.kind.Kind.TheVariants.{Empty, Pattern, Pin, Password}
use Rattle.ls_credential.specs.Codes.{code_of}

-- the two kinds are one
abbrev pub same_kind : Kind → Kind → Bool
same_kind a b = code_of a == code_of b

-- no credential
abbrev pub is_empty : Kind → Bool
is_empty Empty = true
is_empty Pattern = false
is_empty Pin = false
is_empty Password = false

abbrev pub is_pin : Kind → Bool
is_pin Empty = false
is_pin Pattern = false
is_pin Pin = true
is_pin Password = false
