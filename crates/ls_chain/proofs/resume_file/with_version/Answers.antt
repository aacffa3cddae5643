use Rattle.std.proofs.Common.{◌∙◌, ap, sym, List, ℕ, Ok}
use Rattle.std.specs.Prelude.{slice_index}
use Rattle.std.proofs.lemmas.Result.{err_from_is_err_and}
use Rattle.ls_formats.specs.declared.part.FilePart.TheVariants.{SpBlob}
use Rattle.ls_board.specs.Effect.{file_at}
use Rattle.ls_chain.specs.Links.{sound_file, link_name}
use Rattle.ls_chain.proofs.LookLemmas.{look_err, look_gives}
use Rattle.ls_chain.proofs.resume_file.with_version.Goals as goal

pub returns-in_err-blob-clause-looks : goal.returns-in_err-blob-clause-looks
returns-in_err-blob-clause-looks g c =
    let p = err_from_is_err_and c.from_residual.result c.from_residual.ensures.1 in
    rw (p.1, p.2)
    (look_err (λ w. sound_file SpBlob (file_at w (link_name c.args.user c.args.id SpBlob))) (g.B.Board.sight c.args.board.now) (g.B.Board.sight c.sound_file.new.board)
    (λ blob w. Ok (record { file = c.args.file; version = slice_index blob 0 })) c.in_err-blob.field-0.0 c.in_err-blob.ensures.looks)

pub returns-clause-looks : goal.returns-clause-looks
returns-clause-looks g c =
    look_gives (λ w. sound_file SpBlob (file_at w (link_name c.args.user c.args.id SpBlob))) (g.B.Board.sight c.args.board.now) (g.B.Board.sight c.sound_file.new.board)
    (λ blob w. Ok (record { file = c.args.file; version = slice_index blob 0 })) c.in_ok-blob.blob _ c.in_ok-blob.ensures.looks
    (λ w i. Ok (record { file = c.args.file; version = sym (c.split-version.ensures.version ∙ ap (λ (l : List ℕ). slice_index l 0) c.as_slice.ensures.same) i }))
