-- The protectors that a record names, as a board has them.
use Rattle.std.specs.Prelude.{◌==◌, ◌++◌, nat_lt, ℕ, if◌then◌else◌, List, [], ◌∷◌, Option, None, Some, is_some, Result, Ok, Err}
use Rattle.std.specs.Option.{option_and_then}
use Rattle.ls_formats.specs.declared.part.FilePart.TheVariants.{Weaver}
use Rattle.ls_formats.specs.declared.parts.Parts.{Parts}
use Rattle.ls_formats.specs.PartNames.{PartOf, part_name_text}
use Rattle.ls_board.specs.declared.world.World.{World}
use Rattle.ls_board.specs.Effect.{file_at}
use Rattle.ls_sealing.specs.declared.pushing.Place.{Place}
use Rattle.ls_sealing.specs.Protectors.{Protector, token, slot_number}
use Rattle.ls_protector.specs.Parts.{parts_of}

-- the slot that the `weaver` file of this protector names
abbrev pub number_in : ℕ → ℕ → World → Option ℕ
number_in user id w =
    option_and_then slot_number
    (file_at w (part_name_text (record { user = user; id = id; part = Weaver })))

-- where the protector is by this number, which has to be one of the board's
abbrev pub placed : ℕ → ℕ → ℕ → Option ℕ → Option Place
placed slots user id None = None
placed slots user id (Some n) =
    if nat_lt n slots then Some (record { user = user; id = id; slot = Some n }) else None

-- where it is on a board with so many slots; without slots its file isn't looked at
abbrev pub place_in : ℕ → ℕ → ℕ → World → Option Place
place_in slots user id w =
    if slots == 0 then Some (record { user = user; id = id; slot = None })
    else placed slots user id (number_in user id w)

-- what it consists of there
abbrev pub parts_at : Protector → Place → Parts
parts_at p place = parts_of (is_some place.slot) p place.slot

-- the protector of a user's token
abbrev pub tokens_for : ℕ → ℕ → Protector
tokens_for user id = record { user = user; id = id; purpose = token }

-- its `weaver` file
abbrev pub weaver_of : Protector → PartOf
weaver_of p = record { user = p.user; id = p.id; part = Weaver }

-- This one behind those before, where each has its place; else the first `weaver` file that names no
-- slot of the board.
abbrev pub with_one : Protector → Result (List Parts) PartOf → Option Place → Result (List Parts) PartOf
with_one p (Err name) place = Err name
with_one p (Ok kept) None = Err (weaver_of p)
with_one p (Ok kept) (Some place) = Ok (kept ++ parts_at p place ∷ [])

abbrev pub kept_behind : ℕ → List Protector → Result (List Parts) PartOf → World → Result (List Parts) PartOf
kept_behind slots [] kept w = kept
kept_behind slots (p ∷ protectors) kept w =
    kept_behind slots protectors (with_one p kept (place_in slots p.user p.id w)) w
