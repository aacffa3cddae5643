-- Some of the protectors of one user.
use Rattle.std.specs.Prelude.{◌==◌, ◌&&◌, not, ℕ, Bool, true, List, filter}
use Rattle.ls_formats.specs.declared.parts.Parts.{Parts}
use Rattle.ls_removals.specs.declared.going.Going.{Going}
use Rattle.ls_removals.specs.declared.going.Which.{Which}
use Rattle.ls_removals.specs.declared.going.Which.TheVariants.{One, AllBut, All}

-- the protector of this id is one of these
abbrev pub goes_of : Which → ℕ → Bool
goes_of (One one) id = id == one
goes_of (AllBut one) id = not (id == one)
goes_of All id = true

-- and of this user
abbrev pub goes : Going → ℕ → ℕ → Bool
goes g user id = user == g.user && goes_of g.which id

-- the parts of those that go, and of the others
abbrev pub leaving : Going → List Parts → List Parts
leaving g named = filter (λ p. goes g p.user p.id) named

abbrev pub staying : Going → List Parts → List Parts
staying g named = filter (λ p. not (goes g p.user p.id)) named
