use Rattle.std.proofs.lemmas.Result.{err_from_is_err_and}
use Rattle.ls_chain.specs.Links.{links_at}
use Rattle.ls_chain.specs.Offers.{offer_chain}
use Rattle.ls_chain.specs.Attempting.{device_asked, device_end}
use Rattle.ls_chain.proofs.MayTryLemmas.{asked_err, asked_both}
use Rattle.ls_chain.proofs.AttemptLemmas.{devices}
use Rattle.ls_chain.proofs.attempting.attempt_text.Goals as goal

pub returns-in_err-offered-clause-tries : goal.returns-in_err-offered-clause-tries
returns-in_err-offered-clause-tries g c =
    let p = err_from_is_err_and c.from_residual.result c.from_residual.ensures.1 in
    rw (p.1, p.2) (asked_err (λ w. offer_chain (links_at w c.args.user c.args.id) c.args.weaver c.args.kind c.args.text.now) (g.B.Board.sight c.args.board.now) (g.B.Board.sight c.read_offer.new.board)
    (device_asked c.args.slot c.args.moment) (devices c.args.slot c.args.moment) (device_end c.args.user c.args.id c.args.slot c.args.moment) c.in_err-offered.field-0.0 c.in_err-offered.ensures.looks)

pub returns-clause-tries : goal.returns-clause-tries
returns-clause-tries g c =
    asked_both (λ w. offer_chain (links_at w c.args.user c.args.id) c.args.weaver c.args.kind c.args.text.now) (g.B.Board.sight c.args.board.now) (g.B.Board.sight c.read_offer.new.board)
    (device_asked c.args.slot c.args.moment) (devices c.args.slot c.args.moment) (device_end c.args.user c.args.id c.args.slot c.args.moment) (g.B.Board.sight c.try_offer.new.board) c.in_ok-offered.offered c.try_offer.result c.in_ok-offered.ensures.looks c.try_offer.ensures.tries
