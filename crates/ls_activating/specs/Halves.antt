-- The half of a user's secret that its `e0` file holds.
use Rattle.std.specs.Prelude.{ℕ, List, Option, None, Some, Result, Ok}
use Rattle.ls_board.specs.declared.world.World.{World}
use Rattle.ls_board.specs.Effect.{file_at}
use Rattle.ls_chain.specs.declared.fault.Spot.{Spot}
use Rattle.ls_chain.specs.Links.{next_of, sound_file, spot}
use Rattle.ls_formats.specs.declared.part.FilePart.TheVariants.{E0}
use Rattle.ls_formats.specs.PartNames.{part_name_text}
use Rattle.ls_script.specs.declared.reply.Refusal.{Refusal}
use Rattle.ls_script.specs.declared.reply.Refusal.TheVariants.{Corrupt}
use Rattle.ls_secret.specs.Escrow.{opened_e0}
use Rattle.ls_secret.specs.Secrets.{SecretValue}
use Rattle.std.specs.Prelude.{Err}

-- the name of the file
abbrev pub e0_name : ℕ → List ℕ
e0_name user = part_name_text (record { user = user; id = 0; part = E0 })

-- it is at fault where it doesn't open
abbrev pub or_fault : Option (List ℕ) → Result (List ℕ) Spot
or_fault None = Err (spot E0 0)
or_fault (Some p0) = Ok p0

abbrev pub half_in : SecretValue → List ℕ → Result (List ℕ) Spot
half_in s e0 = or_fault (opened_e0 s e0)

-- what is found in a world
abbrev pub half_at : ℕ → SecretValue → World → Result (List ℕ) Spot
half_at user s w = next_of (sound_file E0 (file_at w (e0_name user))) (half_in s)

-- the answer that the file is at fault
abbrev pub corrupt_by : ℕ → Spot → Refusal
corrupt_by user at = Corrupt (e0_name user) at.at
