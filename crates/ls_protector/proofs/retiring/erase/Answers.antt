use Rattle.std.proofs.Common.{◌++◌, ◌∷◌, [], List}
use Rattle.std.specs.Prelude.{Err}
use Rattle.std.proofs.lemmas.Result.{err_from_is_err_and}
use Rattle.ls_board.specs.declared.action.Action.{Action}
use Rattle.ls_board.specs.declared.action.Action.TheVariants.{KeyDrop}
use Rattle.ls_formats.specs.declared.parts.Parts.{Parts}
use Rattle.ls_protector.proofs.StepLemmas.{steps_front, steps_behind}
use Rattle.ls_protector.proofs.PartLemmas.{blanking, forgetting}
use Rattle.ls_protector.proofs.retiring.erase.Goals as goal

abbrev first : Parts → List Action
first p = blanking p.slot

abbrev second : Parts → List Action
second p = KeyDrop p.id ∷ []

abbrev third : Parts → List Action
third p = forgetting p.gk p.id

pub returns-in_err-blank_slot : goal.returns-in_err-blank_slot
returns-in_err-blank_slot g c =
    let e = err_from_is_err_and c.from_residual.result c.from_residual.ensures.1 in
    record {
      steps = rw (e.1, e.2)
          (steps_front {T = Unit {0}} (g.B.Board.sight c.args.board.now) (g.B.Board.sight c.blank_slot.new.board) (first c.args.parts.now) (second c.args.parts.now ++ third c.args.parts.now)
          c.in_err-blank_slot.field-0.0 c.in_err-blank_slot.ensures.steps);
    }

pub returns-in_err-drop_key : goal.returns-in_err-drop_key
returns-in_err-drop_key g c =
    let e = err_from_is_err_and c.from_residual-in_err-drop_key.result c.from_residual-in_err-drop_key.ensures.1 in
    let one = c.in_ok-blank_slot.ensures.steps in
    record {
      steps = rw (e.1, e.2)
          (steps_behind {T = Unit {0}} (g.B.Board.sight c.args.board.now) (g.B.Board.sight c.blank_slot.new.board) (g.B.Board.sight c.drop_key.new.board) (first c.args.parts.now) (second c.args.parts.now ++ third c.args.parts.now)
          (Err c.in_err-drop_key.field-0.0) one.did one.crash
          (steps_front {T = Unit {0}} (g.B.Board.sight c.blank_slot.new.board) (g.B.Board.sight c.drop_key.new.board) (second c.args.parts.now) (third c.args.parts.now)
          c.in_err-drop_key.field-0.0 c.in_err-drop_key.ensures.steps));
    }

pub returns : goal.returns
returns g c =
    let one = c.in_ok-blank_slot.ensures.steps in
    let two = c.in_ok-drop_key.ensures.steps in
    record {
      steps =
          steps_behind {T = Unit {0}} (g.B.Board.sight c.args.board.now) (g.B.Board.sight c.blank_slot.new.board) (g.B.Board.sight c.forget_record.new.board) (first c.args.parts.now) (second c.args.parts.now ++ third c.args.parts.now)
          c.forget_record.result one.did one.crash
          (steps_behind {T = Unit {0}} (g.B.Board.sight c.blank_slot.new.board) (g.B.Board.sight c.drop_key.new.board) (g.B.Board.sight c.forget_record.new.board) (second c.args.parts.now) (third c.args.parts.now)
          c.forget_record.result two.did two.crash c.forget_record.ensures.steps);
    }
