use Rattle.std.proofs.Common.{List, ℕ, subst}
use Rattle.std.proofs.lemmas.Result.{err_from_is_err_and}
use Rattle.ls_formats.specs.declared.part.FilePart.TheVariants.{Metrics}
use Rattle.ls_board.specs.Effect.{file_at}
use Rattle.ls_chain.specs.Links.{sound_file, link_name}
use Rattle.ls_chain.specs.Looking.{Gives}
use Rattle.ls_chain.specs.MetricsFile.{metrics_text, counts_in}
use Rattle.ls_chain.proofs.LookLemmas.{look_err, look_gives}
use Rattle.ls_chain.proofs.metrics_file.read_metrics.Goals as goal

pub returns-in_err-file : goal.returns-in_err-file
returns-in_err-file g c =
    let p = err_from_is_err_and c.from_residual.result c.from_residual.ensures.1 in
    rw (p.1, p.2) (record {
      looks = look_err (λ w. sound_file Metrics (file_at w (link_name c.args.user c.args.id Metrics))) (g.B.Board.sight c.args.board.now) (g.B.Board.sight c.sound_file.new.board)
          (λ file w. counts_in (metrics_text c.args.secret.now file)) c.in_err-file.field-0.0 c.in_err-file.ensures.looks;
    })

pub returns : goal.returns
returns g c = record {
  looks = look_gives (λ w. sound_file Metrics (file_at w (link_name c.args.user c.args.id Metrics))) (g.B.Board.sight c.args.board.now) (g.B.Board.sight c.sound_file.new.board)
      (λ file w. counts_in (metrics_text c.args.secret.now file)) c.in_ok-file.file c.counted.result c.in_ok-file.ensures.looks
      (λ w. subst (λ (l : List ℕ). Gives (counts_in (metrics_text c.args.secret.now l)) c.counted.result) c.as_slice.ensures.same c.counted.ensures.gives);
}
