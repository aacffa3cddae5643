use Rattle.ls_formats.specs.declared.part.FilePart.TheVariants.{Resume}
use Rattle.ls_board.specs.Effect.{file_at}
use Rattle.ls_chain.specs.Links.{sound_file, links_at, link_name}
use Rattle.ls_chain.specs.ResumeFiles.{version_file}
use Rattle.ls_chain.proofs.LookLemmas.{look_both}
use Rattle.ls_chain.proofs.resume_file.read_resume.Goals as goal

pub returns-clause-looks : goal.returns-clause-looks
returns-clause-looks g c =
    look_both (λ w. sound_file Resume (file_at w (link_name c.args.user 0 Resume))) (g.B.Board.sight c.args.board.now) (g.B.Board.sight c.sound_file.new.board)
    (λ file w. version_file (links_at w c.args.user c.args.id) file) (g.B.Board.sight c.with_version.new.board) c.in_ok-file.file c.with_version.result c.in_ok-file.ensures.looks c.with_version.ensures.looks
