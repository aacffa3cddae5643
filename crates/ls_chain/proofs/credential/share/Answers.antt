use Rattle.std.proofs.Common.{◌≡◌, List, ℕ, Option, None, Ok, Err, sym, subst, rules}
use Rattle.std.proofs.lemmas.Result.{err_from_is_err_and}
use Rattle.ls_formats.specs.declared.part.FilePart.TheVariants.{Secdis}
use Rattle.ls_board.specs.Effect.{file_at}
use Rattle.ls_sealing.specs.Chain.{discardable_share}
use Rattle.ls_chain.specs.Credentials.{share_of}
use Rattle.ls_chain.specs.Links.{sound_file, links_at, link_name}
use Rattle.ls_chain.specs.Looking.{Looks}
use Rattle.ls_chain.proofs.LookLemmas.{look_err}
use Rattle.ls_chain.proofs.credential.share.Goals as goal

pub returns-in_err-bytes : goal.returns-in_err-bytes
returns-in_err-bytes g c =
    let old = g.B.Board.sight c.args.board.now in
    let new = g.B.Board.sight c.sound_file.new.board in
    let p = err_from_is_err_and c.from_residual.result c.from_residual.ensures.1 in
    let is : c.args.value.now ≡ None = search rules in
    rw (p.1, p.2) (record {
      looks = subst (λ (v : Option (List ℕ)). Looks {T = List ℕ} (λ w. share_of (links_at w c.args.user c.args.id) v) old (Err c.in_err-bytes.field-0.0) new) (sym is)
          (look_err (λ w. sound_file Secdis (file_at w (link_name c.args.user c.args.id Secdis))) old new (λ bytes w. Ok (discardable_share bytes)) c.in_err-bytes.field-0.0 c.in_err-bytes.ensures.looks);
    })
