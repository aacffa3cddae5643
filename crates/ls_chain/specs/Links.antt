-- What a chain goes through in a world, and how its steps follow each other.
--
-- The steps stand in the order in which they are made, and the first that fails is answered.
use Rattle.std.specs.Prelude.{ℕ, List, if◌then◌else◌, Option, None, Some, Result, Ok, Err}
use Rattle.ls_formats.specs.declared.part.FilePart.{FilePart}
use Rattle.ls_formats.specs.PartNames.{is_of_user, part_name_text}
use Rattle.ls_board.specs.declared.world.World.{World}
use Rattle.ls_board.specs.Effect.{file_at}
use Rattle.ls_board.specs.Keys.{key_at}
use Rattle.ls_sealing.specs.PartFormats.{format_fault}
use Rattle.ls_chain.specs.declared.fault.Spot.{Spot}

-- ---- steps

-- a file is at fault at a place
abbrev pub spot : FilePart → ℕ → Spot
spot part at = record { part = part; at = at }

-- where this is found, what comes next of it
abbrev pub next_of : {A B : Type 0} → Result A Spot → (A → Result B Spot) → Result B Spot
next_of (Ok a) next = next a
next_of (Err e) next = Err e

-- the bytes, where they have no fault
abbrev pub unless_at : FilePart → List ℕ → Option ℕ → Result (List ℕ) Spot
unless_at part bytes None = Ok bytes
unless_at part bytes (Some at) = Err (spot part at)

-- the bytes of a file, where it is there and in the format of its part
abbrev pub sound_file : FilePart → Option (List ℕ) → Result (List ℕ) Spot
sound_file part None = Err (spot part 0)
sound_file part (Some bytes) = unless_at part bytes (format_fault part bytes)

-- ---- what a chain goes through

-- the files of a protector and of its user, by their parts, and the key of the protector's id
pub record Links : Type 0 where
  pub files : FilePart → Option (List ℕ)
  pub key : Option (List ℕ)

-- the file of a part; a part of a user has the id 0
abbrev pub link_name : ℕ → ℕ → FilePart → List ℕ
link_name user id part =
    part_name_text (record { user = user; id = if is_of_user part then 0 else id; part = part })

abbrev pub links_at : World → ℕ → ℕ → Links
links_at w user id =
    record { files = λ part. file_at w (link_name user id part); key = key_at w.keys id }
