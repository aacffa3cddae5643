-- Numbers of users in their order.
use Rattle.std.specs.Prelude.{◌<◌, ℕ, List}
use Rattle.ls_record.specs.Rows.{Pairs}

-- each is below all behind it
abbrev pub IsAscending : List ℕ → Type 0
IsAscending users = Pairs (λ u v. u < v) users
