-- What is told of users who were resumed, one after the other. Each asking of the Gatekeeper changes
-- the world that the next one meets.
use Rattle.std.specs.Prelude.{◌⊎◌, ◌==◌, ℕ, List, [], ◌∷◌, find, Option, None, Some, Result, Ok, Err}
use Rattle.ls_board.specs.declared.world.World.{World}
use Rattle.ls_board.specs.Images.{Leaves}
use Rattle.ls_chain.specs.declared.fault.Spot.{Spot}
use Rattle.ls_chain.specs.Trying.{after_asked, LeavesAsked}
use Rattle.ls_record.specs.declared.row.UserRow.{UserRow}
use Rattle.ls_revealing.specs.Revealing.{secure_asked, reveal_end}
use Rattle.ls_script.specs.declared.reply.Revealed.{Revealed}
use Rattle.ls_secret.specs.Secrets.{SecretValue}
use Rattle.ls_resume.specs.declared.fault.FileFault.{FileFault}
use Rattle.ls_resume.specs.declared.secrets.SecretRow.{SecretRow}
use Rattle.ls_resume.specs.Each.{next_by}
use Rattle.ls_resume.specs.Resuming.{name_of}

-- ---- one user

-- the row of a user
abbrev pub row_of : List UserRow → ℕ → Option UserRow
row_of rows user = find (λ row. row.user == user) rows

abbrev pub named_in : UserRow → Result Revealed Spot → Result Revealed FileFault
named_in row (Ok told) = Ok told
named_in row (Err spot) = Err (record { name = name_of row.user row.protector spot.part; at = spot.at })

abbrev pub told_end : UserRow → SecretValue → World → Result Revealed FileFault
told_end row s w = named_in row (reveal_end row s w)

-- the world behind the asking for a user
abbrev pub world_behind : UserRow → SecretValue → World → World
world_behind row s w = after_asked w (secure_asked row s w)

-- ---- all of them

-- what is told of a user, and then of the others
abbrev pub told_then : Option UserRow → SecretValue → (World → Result (List Revealed) FileFault) → World → Result (List Revealed) FileFault
told_then None s others w = others w
told_then (Some row) s others w =
    next_by (told_end row s w)
    (λ told. next_by (others (world_behind row s w)) (λ more. Ok (told ∷ more)))

-- What is told of these users, up to the first file at fault. A user without a row isn't told of.
abbrev pub all_told : List UserRow → List SecretRow → World → Result (List Revealed) FileFault
all_told rows [] w = Ok []
all_told rows (s ∷ more) w = told_then (row_of rows s.user) s.secret (all_told rows more) w

-- ---- the world behind them

abbrev pub unless_fault : {A : Type 0} → Result A FileFault → World → World → World
unless_fault (Ok told) others w = others
unless_fault (Err fault) others w = w

abbrev pub world_then : Option UserRow → SecretValue → (World → World) → World → World
world_then None s others w = others w
world_then (Some row) s others w =
    unless_fault (told_end row s w) (others (world_behind row s w)) (world_behind row s w)

abbrev pub all_asked : List UserRow → List SecretRow → World → World
all_asked rows [] w = w
all_asked rows (s ∷ more) w = world_then (row_of rows s.user) s.secret (all_asked rows more) w

-- ---- its images

abbrev pub image_then : Option UserRow → SecretValue → (World → World → Type 0) → World → World → Type 0
image_then None s others w image = others w image
image_then (Some row) s others w image =
    LeavesAsked w (secure_asked row s w) image ⊎ others (world_behind row s w) image

-- a crash leaves an image of the world between two askings, or within one
abbrev pub TellsImage : List UserRow → List SecretRow → World → World → Type 0
TellsImage rows [] w image = Leaves w image
TellsImage rows (s ∷ more) w image =
    image_then (row_of rows s.user) s.secret (TellsImage rows more) w image
