-- The images that a cut picks.
use Rattle.std.specs.Prelude.{◌+◌, ◌%◌, ◌==◌, ◌&&◌, ◌||◌, ℕ, Bool, true, false, nat_lt, nat_le, if◌then◌else◌, List, [], ◌∷◌, length, Option, None, Some}
use Rattle.std.specs.FinMap.Entries.{find}
use Rattle.rand_core.specs.Pcg32Seed.{pcg32_seed}
use Rattle.rand_pcg.specs.Lcg.{Lcg}
use Rattle.rand_pcg.specs.Pcg.{pcg32, pcg32_of_seed}
use Rattle.ls_board.specs.declared.action.Action.{Action}
use Rattle.ls_board.specs.declared.action.Action.TheVariants.{Sync}
use Rattle.ls_board.specs.declared.touch.Span.{Span}
use Rattle.ls_board.specs.declared.touch.Touch.{Touch}
use Rattle.ls_board.specs.declared.touch.Touch.TheVariants.{Poked, Made, Other}
use Rattle.ls_board.specs.declared.world.World.{World}
use Rattle.ls_board.specs.Order.{byte_cmp}
use Rattle.ls_board.specs.Effect.{file_at, with_file}
use Rattle.ls_memboard.specs.declared.pick.Pick.{Pick}
use Rattle.ls_memboard.specs.declared.pick.Pick.TheVariants as pick
use Rattle.ls_memboard.specs.declared.pick.Picker.{Picker}
use Rattle.ls_memboard.specs.declared.pick.Picker.TheVariants as picker

-- ---- the moment of the cut

-- The world after the first k of these calls, the newest first, and these calls. After all of them
-- the world is `now`.
abbrev pub until : List (World × Option Action) → World → ℕ → World × List (World × Option Action)
until [] now k = (now, [])
until (call ∷ past) now k =
    if nat_lt (length past) k then (now, call ∷ past) else until past call.0 k

abbrev pub is_sync : Option Action → Bool
is_sync (Some Sync) = true
is_sync _ = false

abbrev pub has_no_row : {X : Type 0} → List X → Bool
has_no_row [] = true
has_no_row (row ∷ rows) = false

-- The files that are on the disk after a call: those of the world after a sync that had its effect,
-- so that no file is touched, and else those before.
abbrev pub synced_after : Option (List (List ℕ × List ℕ)) → Option Action → World
    → Option (List (List ℕ × List ℕ))
synced_after before call w = if is_sync call && has_no_row w.touched then Some w.files else before

-- the files at the last of these calls that was such a sync, if there was one
abbrev pub synced : List (World × Option Action) → World → Option (List (List ℕ × List ℕ))
synced [] now = None
synced (call ∷ past) now = synced_after (synced past call.0) call.1 now

-- ---- what a touched file holds

-- What it held at that sync. Where there was none, one that was only made held what its row keeps
-- from before, and any other what it held at the start.
abbrev pub held : Option (List (List ℕ × List ℕ)) → World → List ℕ → Touch → Option (List ℕ)
held (Some files) start n how = find byte_cmp n files
held None start n (Made before) = before
held None start n (Poked spans) = file_at start n
held None start n Other = file_at start n

-- whether a place lies in one of the ranges
abbrev pub is_poked : List Span → ℕ → Bool
is_poked [] i = false
is_poked (s ∷ spans) i = (nat_le s.at i && nat_lt i (s.at + s.len)) || is_poked spans i

-- the places that noise takes: the poked ones, or none of a file that was only made, or all
abbrev pub is_hit : Touch → ℕ → Bool
is_hit (Poked spans) i = is_poked spans i
is_hit (Made before) i = false
is_hit Other i = true

-- A byte, or where its place is hit the lowest byte of the next number.
abbrev pub noisy_byte : Bool → ℕ → Lcg → ℕ × Lcg
noisy_byte true byte g = ((pcg32 g).0 % 256, (pcg32 g).1)
noisy_byte false byte g = (byte, g)

-- bytes from the place `at` on, each with a further number where its place is hit
abbrev pub noisy : (ℕ → Bool) → ℕ → List ℕ → Lcg → List ℕ × Lcg
noisy hit at [] g = ([], g)
noisy hit at (byte ∷ bytes) g = (
  (noisy_byte (hit at) byte g).0 ∷ (noisy hit (at + 1) bytes (noisy_byte (hit at) byte g).1).0,
  (noisy hit (at + 1) bytes (noisy_byte (hit at) byte g).1).1,
)

-- a file with noise; one that is absent stays so
abbrev pub noisy_file : Touch → Option (List ℕ) → Lcg → Option (List ℕ) × Lcg
noisy_file how None g = (None, g)
noisy_file how (Some bytes) g = (Some (noisy (is_hit how) 0 bytes g).0, (noisy (is_hit how) 0 bytes g).1)

-- a file as before after an even number, and with noise after an odd one
abbrev pub noise_choice : Bool → Option (List ℕ) → Touch → Option (List ℕ) → Lcg
    → Option (List ℕ) × Picker
noise_choice true before how now g = (before, picker.Noise g)
noise_choice false before how now g =
    ((noisy_file how now g).0, picker.Noise (noisy_file how now g).1)

-- what the file holds in the image, and the numbers that are left
abbrev pub chosen : (List ℕ → Touch → Option (List ℕ)) → World → Picker → List ℕ → Touch
    → Option (List ℕ) × Picker
chosen old w picker.Old n how = (old n how, picker.Old)
chosen old w picker.New n how = (file_at w n, picker.New)
chosen old w (picker.Noise g) n how =
    noise_choice ((pcg32 g).0 % 2 == 0) (old n how) how (file_at w n) (pcg32 g).1

-- ---- the image

-- what these files hold in the image, one after another
abbrev pub contents : (List ℕ → Touch → Option (List ℕ)) → World → Picker → List (List ℕ × Touch)
    → List (List ℕ × Option (List ℕ))
contents old w p [] = []
contents old w p (row ∷ rows) =
    (row.0, (chosen old w p row.0 row.1).0) ∷ contents old w (chosen old w p row.0 row.1).1 rows

-- files with these contents
abbrev pub with_contents : List (List ℕ × List ℕ) → List (List ℕ × Option (List ℕ))
    → List (List ℕ × List ℕ)
with_contents files [] = files
with_contents files (row ∷ rows) = with_contents (with_file files row.0 row.1) rows

-- the touched files as they are picked, all else as it is, and no file touched
abbrev pub image_of : (List ℕ → Touch → Option (List ℕ)) → World → Picker → World
image_of old w p =
    record w { files = with_contents w.files (contents old w p w.touched); touched = [] }

-- the numbers of a seed
abbrev pub picker_of : Pick → Picker
picker_of pick.Old = picker.Old
picker_of pick.New = picker.New
picker_of (pick.Noise seed) = picker.Noise (pcg32_of_seed (pcg32_seed 16 seed))

-- the image after the first k of these calls
abbrev pub cut_image : List (World × Option Action) → World → ℕ → Pick → World
cut_image past now k pick =
    image_of (held (synced (until past now k).1 (until past now k).0) (until past now 0).0)
    (until past now k).0 (picker_of pick)
