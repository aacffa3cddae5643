use Rattle.std.proofs.Common.{sym, subst}
use Rattle.ls_board.specs.Runs.{CanRun}
use Rattle.ls_formats.specs.declared.parts.Parts.{Parts}
use Rattle.ls_protector.specs.Parts.{erasing_of}
use Rattle.ls_protector.proofs.PartLemmas.{can_erase}
use Rattle.ls_protector.proofs.RetireLemmas.{erasing_but, erasing_stands, erasing_erases}
use Rattle.ls_protector.proofs.retiring.retire.Goals as goal

pub erase-requires : goal.erase-requires
erase-requires g c = record {
  run =
      subst (λ (p : Parts). CanRun (g.B.Board.sight c.args.board.now) (erasing_of p)) (sym c.named.view_is)
      (can_erase (g.B.Board.sight c.args.board.now) c.args.named c.requires.slot c.requires.room);
}

pub returns-in-Ok-clause-erased : goal.returns-in-Ok-clause-erased
returns-in-Ok-clause-erased g c =
    erasing_erases (g.B.Board.sight c.args.board.now) (g.B.Board.sight c.erase.new.board) c.named.inside.parts c.args.named c.named.view_is c.in-Ok.ensures.steps (g.met.B.Board.slots_are_told c.args.board.now) c.requires.slot

pub returns-in-Ok-clause-but : goal.returns-in-Ok-clause-but
returns-in-Ok-clause-but g c = erasing_but (g.B.Board.sight c.args.board.now) (g.B.Board.sight c.erase.new.board) c.named.inside.parts c.args.named c.named.view_is c.erase.result c.erase.ensures.steps

pub returns-in-Ok-clause-stands : goal.returns-in-Ok-clause-stands
returns-in-Ok-clause-stands g c =
    erasing_stands (g.B.Board.sight c.args.board.now) (g.B.Board.sight c.erase.new.board) c.named.inside.parts c.args.named c.named.view_is c.erase.result c.erase.ensures.steps c.requires.clear

pub returns-in-Err-clause-but : goal.returns-in-Err-clause-but
returns-in-Err-clause-but g c = erasing_but (g.B.Board.sight c.args.board.now) (g.B.Board.sight c.erase.new.board) c.named.inside.parts c.args.named c.named.view_is c.erase.result c.erase.ensures.steps

pub returns-in-Err-clause-stands : goal.returns-in-Err-clause-stands
returns-in-Err-clause-stands g c =
    erasing_stands (g.B.Board.sight c.args.board.now) (g.B.Board.sight c.erase.new.board) c.named.inside.parts c.args.named c.named.view_is c.erase.result c.erase.ensures.steps c.requires.clear
