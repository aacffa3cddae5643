-- Worlds that the calls of a run met.
use Rattle.std.specs.Prelude.{◌≡◌, ◌⊎◌, ◌++◌, ◌∷◌, ℕ, List, [], Option}
use Rattle.ls_board.specs.declared.action.Action.{Action}
use Rattle.ls_board.specs.declared.world.World.{World}
use Rattle.ls_board.specs.Acts.{Sight}
use Rattle.ls_lines.specs.Lines.{lines_of}
use Rattle.ls_serving.specs.Machine.{Machine, stage_after}

-- one of these calls met this world
abbrev pub IsMet : World → List (World × Option Action) → Type 0
IsMet w [] = ⊥
IsMet w (call ∷ calls) = (w ≡ call.0) ⊎ IsMet w calls

-- the calls of one are those of the other, and others behind them
abbrev pub Extends : Sight → Sight → Type 0
Extends old new = (calls : List (World × Option Action)) × (new.past ≡ calls ++ old.past)

-- a call between the two met this world
abbrev pub MetBetween : Sight → Sight → World → Type 0
MetBetween old new w = (calls : List (World × Option Action)) × (new.past ≡ calls ++ old.past) × IsMet w calls

-- Nothing that a line of the script offers matches by chance in a world that the run met.
abbrev pub NoChance : (m : Machine) → m.Stage → Sight → Sight → Type 0
NoChance m first start now = (w : World) → MetBetween start now w
    → (before : List (List ℕ)) (line : List ℕ) (more : List (List ℕ))
    → lines_of start.world.input ≡ before ++ line ∷ more
    → m.apart w (stage_after m first before) line
