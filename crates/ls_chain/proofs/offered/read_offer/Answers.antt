use Rattle.ls_chain.specs.Links.{links_at}
use Rattle.ls_chain.specs.Offers.{pwd_offer, slot_checked}
use Rattle.ls_chain.proofs.LookLemmas.{look_both}
use Rattle.ls_chain.proofs.offered.read_offer.Goals as goal

pub returns : goal.returns
returns g c = record {
  looks = look_both (λ w. pwd_offer (links_at w c.args.user c.args.id) c.args.weaver c.args.kind c.args.text.now) (g.B.Board.sight c.args.board.now) (g.B.Board.sight c.pwd_offer.new.board)
      (λ offered w. slot_checked (links_at w c.args.user c.args.id) c.args.weaver offered) (g.B.Board.sight c.slot_checked.new.board) c.in_ok-offered.offered c.slot_checked.result c.in_ok-offered.ensures.looks c.slot_checked.ensures.looks;
}
