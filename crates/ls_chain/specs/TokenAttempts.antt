-- An attempt with a token: its files, its slot, and what the slot's value leads to.
use Rattle.std.specs.Prelude.{ℕ, Bool, List, replicate, Option, None, Some, Result, Err}
use Rattle.ls_weaver.specs.Slots.{slot_answer}
use Rattle.ls_formats.specs.declared.part.FilePart.TheVariants.{Weaver}
use Rattle.ls_board.specs.declared.action.Action.{Action}
use Rattle.ls_board.specs.declared.action.Action.TheVariants.{WeaverRead}
use Rattle.ls_board.specs.declared.action.Answer.{Answer}
use Rattle.ls_board.specs.declared.action.Answer.TheVariants.{Value}
use Rattle.ls_board.specs.declared.world.World.{World}
use Rattle.ls_board.specs.Effect.{slot_at, read_answer}
use Rattle.ls_chain.specs.declared.fault.Spot.{Spot}
use Rattle.ls_chain.specs.declared.token.TokenEnd.{TokenEnd}
use Rattle.ls_chain.specs.declared.token.TokenFiles.{TokenFiles}
use Rattle.ls_chain.specs.Links.{spot, next_of, Links, links_at}
use Rattle.ls_chain.specs.Tokens.{token_files, token_chain}
use Rattle.ls_chain.specs.Trying.{asked_of}

-- the key of a token's slot
abbrev pub zero_key : List ℕ
zero_key = replicate 16 0

-- by the answer of the slot: one that isn't its value puts the `weaver` file at fault
abbrev pub token_by : Links → List ℕ → TokenFiles → Answer → Result TokenEnd Spot
token_by l token files (Value value) = token_chain l token files (Some value)
token_by l token files _ = Err (spot Weaver 1)

abbrev pub token_slot_end : ℕ → ℕ → ℕ → List ℕ → TokenFiles → World → Result TokenEnd Spot
token_slot_end user id slot token files w =
    token_by (links_at w user id) token files
    (read_answer (slot_answer (slot_at w slot) zero_key 0))

-- with Weaver the slot is asked, at moment 0
abbrev pub token_action : Option ℕ → TokenFiles → Option Action
token_action (Some slot) files = Some (WeaverRead slot zero_key 0)
token_action None files = None

-- what the files lead to
abbrev pub token_files_end : ℕ → ℕ → Option ℕ → List ℕ → TokenFiles → World → Result TokenEnd Spot
token_files_end user id (Some slot) token files w = token_slot_end user id slot token files w
token_files_end user id None token files w = token_chain (links_at w user id) token files None

-- ---- the whole attempt

abbrev pub token_asked : ℕ → ℕ → Bool → Option ℕ → World → Option Action
token_asked user id weaver slot w =
    asked_of (token_files (links_at w user id) weaver) (token_action slot)

abbrev pub token_end : ℕ → ℕ → Bool → Option ℕ → List ℕ → World → Result TokenEnd Spot
token_end user id weaver slot token w =
    next_of (token_files (links_at w user id) weaver)
    (λ files. token_files_end user id slot token files w)
