use Rattle.std.proofs.Common.{◌≡◌, Bool, true, Ok, Err, refl, sym, subst, rules}
use Rattle.std.proofs.lemmas.Result.{err_from_is_err_and}
use Rattle.ls_formats.specs.declared.part.FilePart.TheVariants.{Weaver}
use Rattle.ls_board.specs.Effect.{file_at}
use Rattle.ls_chain.specs.declared.token.TokenFiles.{TokenFiles}
use Rattle.ls_chain.specs.Links.{sound_file, links_at, link_name}
use Rattle.ls_chain.specs.Looking.{Looks}
use Rattle.ls_chain.specs.Tokens.{slot_file_of}
use Rattle.ls_chain.proofs.LookLemmas.{look_err, look_gives}
use Rattle.ls_chain.proofs.token.slot_file.Goals as goal

pub returns-in_err-sound_file-clause-looks : goal.returns-in_err-sound_file-clause-looks
returns-in_err-sound_file-clause-looks g c =
    let old = g.B.Board.sight c.args.board.now in
    let new = g.B.Board.sight c.sound_file.new.board in
    let p = err_from_is_err_and c.from_residual.result c.from_residual.ensures.1 in
    let is : c.args.weaver ≡ true = search rules in
    rw (p.1, p.2) (subst (λ (b : Bool). Looks {T = TokenFiles} (λ w. slot_file_of (links_at w c.args.user c.args.id) b c.args.files) old (Err c.in_err-sound_file.field-0.0) new) (sym is)
    (look_err (λ w. sound_file Weaver (file_at w (link_name c.args.user c.args.id Weaver))) old new (λ bytes w. Ok c.args.files) c.in_err-sound_file.field-0.0 c.in_err-sound_file.ensures.looks))

pub returns-clause-looks : goal.returns-clause-looks
returns-clause-looks g c =
    let old = g.B.Board.sight c.args.board.now in
    let new = g.B.Board.sight c.sound_file.new.board in
    let is : c.args.weaver ≡ true = search rules in
    subst (λ (b : Bool). Looks {T = TokenFiles} (λ w. slot_file_of (links_at w c.args.user c.args.id) b c.args.files) old (Ok c.args.files) new) (sym is)
    (look_gives (λ w. sound_file Weaver (file_at w (link_name c.args.user c.args.id Weaver))) old new (λ bytes w. Ok c.args.files) c.in_ok-sound_file.field-0 (Ok c.args.files)
    c.in_ok-sound_file.ensures.looks (λ w. refl))
