-- What holds of a run, however it ended.
use Rattle.std.proofs.Common.{◌≡◌, ◌++◌, subst}
use Rattle.std.specs.Prelude.{Result, Ok, Err, IfOk, OnErr}
use Rattle.ls_board.specs.declared.action.BoardFault.{BoardFault}
use Rattle.ls_board.specs.declared.world.World.{World}
use Rattle.ls_board.specs.Acts.{Sight}
use Rattle.ls_lines.specs.Lines.{lines_of}
use Rattle.ls_serving.specs.declared.hearing.Ending.{Ending}
use Rattle.ls_serving.specs.declared.hearing.Ending.TheVariants.{AtEnd, AtLimit}
use Rattle.ls_serving.specs.Ending.{IsOutcome}
use Rattle.ls_serving.specs.Machine.{Machine, replies_of}
use Rattle.ls_serving.specs.Met.{NoChance}
use Rattle.ls_serving.specs.Owed.{Owes}
use Rattle.ls_serving.specs.Serving.{CutShort}
use Rattle.ls_serving.proofs.ServingLemmas.{cut_between}

module _ (m : Machine) (agrees : World → m.Stage → Type 0) (owes : Owes m agrees) (start now : Sight) (first : m.Stage) where
  ended : (ending : Ending) → IsOutcome m agrees start now first ending → CutShort m start now first
  ended AtEnd outcome = cut_between m agrees owes start first now _ outcome.3
  ended AtLimit outcome = cut_between m agrees owes start first now _ outcome.2

  pub run_ended : (result : Result Ending BoardFault) → IfOk result (IsOutcome m agrees start now first)
      → OnErr result (CutShort m start now first) → CutShort m start now first
  run_ended (Ok ending) outcome cut = ended ending outcome
  run_ended (Err fault) outcome cut = cut

  pub said_all : (result : Result Ending BoardFault) → result ≡ Ok AtEnd → IfOk result (IsOutcome m agrees start now first)
      → NoChance m first start now → now.world.said ≡ start.world.said ++ replies_of m first (lines_of start.world.input)
  said_all result is outcome none =
      let served = subst (λ (r : Result Ending BoardFault). IfOk r (IsOutcome m agrees start now first)) is outcome in
      (served.3.answered none).said
