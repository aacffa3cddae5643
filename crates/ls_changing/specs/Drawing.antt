-- How what is drawn parts.
use Rattle.std.specs.Prelude.{ℕ, Bool, if◌then◌else◌}

-- a secure id, and the salt of its handle, for a first credential
abbrev pub own_len : Bool → ℕ
own_len first = if first then 16 else 0
