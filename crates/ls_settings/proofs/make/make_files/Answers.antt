use Rattle.std.proofs.Common.{◌≡◌, ◌∙◌, sym, subst, ap, List, Option}
use Rattle.std.proofs.lemmas.Result.{err_from_is_err_and}
use Rattle.ls_formats.specs.declared.side.Side.{Side}
use Rattle.ls_board.specs.declared.action.Action.{Action}
use Rattle.ls_settings.specs.Loaded.{Loaded}
use Rattle.ls_settings.specs.Loading.{makes_of, IsMakePlan, RunsPlan}
use Rattle.ls_settings.proofs.MakeLemmas.{is_make_plan, makes_files, not_made}
use Rattle.ls_settings.proofs.make.make_files.Goals as goal

pub returns-in_err-plan-clause-makes : goal.returns-in_err-plan-clause-makes
returns-in_err-plan-clause-makes g c = λ told.
    let p = err_from_is_err_and c.from_residual.result c.from_residual.ensures.1 in
    rw p.1 (not_made (g.B.Board.sight c.args.board.now) c.args.settings.now p.0)

pub run-requires : goal.run-requires
run-requires g c =
    let side : c.settings.inside.place.side ≡ c.args.settings.now.settled.side = ap (λ (s : Loaded). s.settled.side) c.settings.view_is in
    record {
      makes = subst IsMakePlan (sym (c.in_ok-plan.ensures.plan ∙ ap (λ (o : Option Side). makes_of o c.args.files.now.first c.args.files.now.second) side))
          (is_make_plan c.args.files.now.first c.args.files.now.second c.args.settings.now c.requires.found);
    }

pub returns-clause-makes : goal.returns-clause-makes
returns-clause-makes g c = λ told.
    let side : c.settings.inside.place.side ≡ c.args.settings.now.settled.side = ap (λ (s : Loaded). s.settled.side) c.settings.view_is in
    let is = c.in_ok-plan.ensures.plan ∙ ap (λ (o : Option Side). makes_of o c.args.files.now.first c.args.files.now.second) side in
    makes_files (g.B.Board.sight c.args.board.now) (g.B.Board.sight c.run.new.board) c.args.files.now.first c.args.files.now.second c.args.settings.now
    (c.requires.first told) (c.requires.second told) c.requires.found c.run.result
    (subst (λ (l : List Action). RunsPlan (g.B.Board.sight c.args.board.now) l c.run.result (g.B.Board.sight c.run.new.board)) is (c.run.ensures.runs told))
