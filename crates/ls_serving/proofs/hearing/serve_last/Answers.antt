use Rattle.std.proofs.Common.{arith, ◌<◌, length, ◌∙◌}
use Rattle.std.proofs.lemmas.Grind.{common_steps}
use Rattle.ls_lines.specs.Lines.{parted}
use Rattle.ls_serving.proofs.HearingLemmas.{last_next}
use Rattle.ls_serving.proofs.hearing.serve_last.Goals as goal

pub returns-clause-cut : goal.returns-clause-cut
returns-clause-cut g c = λ told start first progress.
    let some : 0 < length c.args.line.now = grind (arith, common_steps) in
    c.serve_line.ensures.cut told start first (parted start.world.input).whole (parted start.world.input).rest
    (c.as_slice-last.ensures.same ∙ progress.kept)
    (last_next g.S.Service.machine (g.S.Service.agrees start.world c.args.service.now) start first (g.B.Board.sight c.args.board.now) c.args.line.now progress some) progress.serving
