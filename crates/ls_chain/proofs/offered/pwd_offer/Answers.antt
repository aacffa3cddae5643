use Rattle.std.proofs.Common.{◌≡◌, Bool, true, List, ℕ, sym, subst, rules}
use Rattle.std.specs.Prelude.{Ok, Err, None, if◌then◌else◌}
use Rattle.std.proofs.lemmas.Result.{err_from_is_err_and}
use Rattle.ls_formats.specs.declared.part.FilePart.TheVariants.{Pwd}
use Rattle.ls_board.specs.Effect.{file_at}
use Rattle.ls_naming.specs.Named.{has_credential}
use Rattle.ls_sealing.specs.Chain.{stretched_default}
use Rattle.ls_chain.specs.declared.offered.Offered.{Offered}
use Rattle.ls_chain.specs.Links.{sound_file, link_name, next_of}
use Rattle.ls_chain.specs.Looking.{Gives, Looks}
use Rattle.ls_chain.specs.Offers.{offered_in}
use Rattle.ls_chain.proofs.LookLemmas.{look_err, look_gives}
use Rattle.ls_chain.proofs.offered.pwd_offer.Goals as goal

pub returns-in_err-file : goal.returns-in_err-file
returns-in_err-file g c =
    let old = g.B.Board.sight c.args.board.now in
    let new = g.B.Board.sight c.sound_file.new.board in
    let p = err_from_is_err_and c.from_residual.result c.from_residual.ensures.1 in
    let is : has_credential c.args.kind ≡ true = search rules in
    rw (p.1, p.2) (record {
      looks = subst (λ (b : Bool). Looks {T = Offered} (λ w. if b then next_of (sound_file Pwd (file_at w (link_name c.args.user c.args.id Pwd))) (offered_in c.args.weaver c.args.text.now) else Ok (record { stretched = stretched_default; handle = None })) old (Err c.in_err-file.field-0.0) new) (sym is)
          (look_err (λ w. sound_file Pwd (file_at w (link_name c.args.user c.args.id Pwd))) old new (λ file w. offered_in c.args.weaver c.args.text.now file) c.in_err-file.field-0.0 c.in_err-file.ensures.looks);
    })

pub returns : goal.returns
returns g c =
    let old = g.B.Board.sight c.args.board.now in
    let new = g.B.Board.sight c.sound_file.new.board in
    let is : has_credential c.args.kind ≡ true = search rules in
    record {
      looks = subst (λ (b : Bool). Looks {T = Offered} (λ w. if b then next_of (sound_file Pwd (file_at w (link_name c.args.user c.args.id Pwd))) (offered_in c.args.weaver c.args.text.now) else Ok (record { stretched = stretched_default; handle = None })) old c.offered_in.result new) (sym is)
          (look_gives (λ w. sound_file Pwd (file_at w (link_name c.args.user c.args.id Pwd))) old new (λ file w. offered_in c.args.weaver c.args.text.now file) c.in_ok-file.file c.offered_in.result c.in_ok-file.ensures.looks
          (λ w. subst (λ (l : List ℕ). Gives (offered_in c.args.weaver c.args.text.now l) c.offered_in.result) c.as_slice.ensures.same c.offered_in.ensures.gives));
    }
