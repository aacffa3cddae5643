-- The length of a PIN, by what is counted of it.
use Rattle.std.specs.Prelude.{◌&&◌, nat_le, ℕ, Bool, if◌then◌else◌, Option, None, Some}
use Rattle.ls_credential.specs.declared.kind.Kind.{Kind}
use Rattle.ls_credential.specs.Counts.{KindAndCounts}
use Rattle.ls_vault.specs.Kinds.{is_pin}

-- the length that is shown
abbrev pub shown_pin : Kind → Bool → Option KindAndCounts → ℕ
shown_pin kind on None = 0
shown_pin kind on (Some m) = if on && is_pin kind && nat_le 6 m.length then m.length else 0
