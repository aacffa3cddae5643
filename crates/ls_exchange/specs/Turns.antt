-- Protectors that are dealt with one behind another.
use Rattle.std.specs.Prelude.{IsTrue, List, [], ◌∷◌, Result, IfErr, OnOk}
use Rattle.ls_board.specs.declared.action.Action.{Action}
use Rattle.ls_board.specs.declared.action.Part.{Part}
use Rattle.ls_board.specs.declared.world.World.{World}
use Rattle.ls_board.specs.Acts.{Sight}
use Rattle.ls_board.specs.Keeping.{Keeps}
use Rattle.ls_board.specs.Reach.{Reach}
use Rattle.ls_board.specs.Rest.{SameRest}
use Rattle.ls_board.specs.Runs.{after_all, Did, FailedIn, LeavesOnly, PlanImage}
use Rattle.ls_formats.specs.declared.parts.Parts.{Parts}
use Rattle.ls_naming.specs.Current.{Settled}
use Rattle.ls_protector.specs.Clear.{IsClear}
use Rattle.ls_protector.specs.Parts.{erasing_of}
use Rattle.ls_protector.specs.Steps.{Drafted}
use Rattle.ls_standing.specs.Standing.{StandsDurably}
use Rattle.ls_vault.specs.declared.vault.Vault.{Vault}

-- These were done in order, whole where it answers Ok, and otherwise up to one that failed.
pub record Runs {T : Type 0} (old : Sight) (plan : List Action) (result : Result T Part)
    (new : Sight) : Type 0 where
  pub did : OnOk result (Did old plan new)
  pub failed : IfErr result (λ part. FailedIn old plan part new)
  pub keeps : Keeps {T = T} {E = Part} (λ part. part) old new result
  pub rest : IsTrue old.told → SameRest old.world new.world
  pub crash : IsTrue old.told → LeavesOnly old new (PlanImage old.world plan)

-- all that is stored: files, slots, Gatekeeper's records, keys and the cell
abbrev pub storage : Reach
storage = record {
  files = λ n. Unit {0};
  slots = λ n. Unit {0};
  sids = λ sid. Unit {0};
  aliases = λ alias. Unit {0};
  cell = Unit {0};
}

-- where the world stands for a vault, its record names nothing of the parts
abbrev pub IsClearIn : World → Parts → Type 0
IsClearIn w p = (s : Settled) (v : Vault) → StandsDurably w s v → IsClear w s.rec p

-- and so for each of these, once the plans of those before it were done
abbrev pub AreClearInTurn : {X : Type 0} → (X → Parts) → (X → List Action) → World → List X → Type 0
AreClearInTurn parts plan w [] = Unit {0}
AreClearInTurn parts plan w (x ∷ all) =
    IsClearIn w (parts x) × AreClearInTurn parts plan (after_all w (plan x)) all

abbrev pub DraftsAreClear : World → List Drafted → Type 0
DraftsAreClear w all = AreClearInTurn (λ draft. draft.parts) (λ draft. draft.plan) w all

abbrev pub RetiredAreClear : World → List Parts → Type 0
RetiredAreClear w all = AreClearInTurn (λ parts. parts) erasing_of w all
