-- How the serving of a script begins.
use Rattle.std.proofs.Common.{[], refl, sym, ◌∙◌}
use Rattle.std.proofs.lemmas.List.{append-nil}
use Rattle.ls_board.specs.declared.world.World.{World}
use Rattle.ls_board.specs.Acts.{Sight}
use Rattle.ls_board.specs.Runs.{LeavesOnly}
use Rattle.ls_board.proofs.RunLemmas.{weaker}
use Rattle.ls_lines.specs.Lines.{lines_of}
use Rattle.ls_serving.specs.Calls.{IsSilent}
use Rattle.ls_serving.specs.Held.{IsHeld}
use Rattle.ls_serving.specs.Machine.{Machine}
use Rattle.ls_serving.specs.Owed.{Owes}
use Rattle.ls_serving.specs.Serving.{IsStill, Serving, Begun}
use Rattle.ls_serving.specs.Turns.{StaysInside}
use Rattle.ls_serving.proofs.RepliesLemmas.{held_between}
use Rattle.ls_serving.proofs.TurnLemmas.{inside_extends, turns_none, turns_inside}

-- What was called before heard nothing and said nothing, and left only what stands for the first
-- state: then no line is answered yet.
module _ (m : Machine) (agrees : World → m.Stage → Type 0) (owes : Owes m agrees) (start now : Sight) (first : m.Stage) where
  serving_begun : StaysInside start now → IsSilent start.world now.world → agrees now.world first
      → LeavesOnly start now (IsStill m start.world.said (m.state first)) → Serving m agrees start now first []
  serving_begun inside silent agreed crash = record {
    since = inside_extends start now inside;
    answered = λ none. record {
      more = lines_of start.world.input;
      front = refl;
      said = silent.said ∙ sym (append-nil start.world.said);
      agreed = agreed;
      images = weaker start now (IsStill m start.world.said (m.state first)) (IsHeld m start.world first)
          (λ image still. held_between m owes.ends owes.joins start.world first [] (lines_of start.world.input) refl image
          (still.same ∙ sym (append-nil start.world.said)) still.stands) crash;
      turns = turns_inside m start first start now (turns_none m start first) inside;
    };
  }

  pub begun : StaysInside start now → IsSilent start.world now.world → agrees now.world first
      → LeavesOnly start now (IsStill m start.world.said (m.state first)) → Begun m agrees start now first
  begun inside silent agreed crash = record { input = silent.input; serving = serving_begun inside silent agreed crash }
