use Rattle.std.proofs.Common.{Bool, IsTrue, refl, sym, ap, subst}
use Rattle.std.specs.Prelude.{Ok, Err}
use Rattle.ls_record.specs.Rows.{Rec}
use Rattle.ls_settings.specs.declared.fault.OpenRefusal.{OpenRefusal}
use Rattle.ls_sweep.specs.Swept.{Sweeps}
use Rattle.ls_session.specs.Opening.{Opens}
use Rattle.ls_session.proofs.OpeningLemmas.{begin_refused, known_refused, untouched, sweep_refused, opened}
use Rattle.ls_session.proofs.opening.open.Goals as goal

pub returns-in-Err : goal.returns-in-Err
returns-in-Err g c = record { opens = begin_refused (g.B.Board.sight c.args.board.now) (g.B.Board.sight c.begin.new.board) c.args.boot c.in-Err.refusal c.in-Err.ensures.begins }

pub returns-in-Err-known : goal.returns-in-Err-known
returns-in-Err-known g c = record {
  opens = known_refused (g.B.Board.sight c.args.board.now) (g.B.Board.sight c.begin.new.board) (g.B.Board.sight c.known.new.board) c.args.boot c.in-Ok.settings c.in-Ok.ensures.begins
      _ c.in-Err-known.refusal refl c.in-Err-known.ensures.checks;
}

pub known-requires : goal.known-requires
known-requires g c = record {
  untouched = λ told. untouched (g.B.Board.sight c.args.board.now) (g.B.Board.sight c.begin.new.board) c.in-Ok.settings c.in-Ok.ensures.begins
      (subst (λ (b : Bool). IsTrue b) c.in-Ok.ensures.begins.keeps.told told) c.in-Ok.settings.settled.rec;
}

pub returns-in-Err-sweep_unnamed : goal.returns-in-Err-sweep_unnamed
returns-in-Err-sweep_unnamed g c = record {
  opens = subst (λ (e : OpenRefusal). Opens (g.B.Board.sight c.args.board.now) c.args.boot (Err e) (g.B.Board.sight c.sweep_unnamed.new.board)) (sym c.from.ensures)
      (sweep_refused (g.B.Board.sight c.args.board.now) (g.B.Board.sight c.begin.new.board) (g.B.Board.sight c.known.new.board) (g.B.Board.sight c.sweep_unnamed.new.board) c.args.boot c.in-Ok.settings c.in-Ok.ensures.begins
      c.in-Ok.settings.settled.rec refl c.in-Ok-known.named c.in-Ok-known.ensures.checks c.in-Err-sweep_unnamed.fault
      (subst (λ (r : Rec). Sweeps (g.B.Board.sight c.known.new.board) r (Err c.in-Err-sweep_unnamed.fault) (g.B.Board.sight c.sweep_unnamed.new.board)) c.record.ensures.same c.in-Err-sweep_unnamed.ensures.sweeps));
}

pub returns : goal.returns
returns g c = record {
  opens = opened (g.B.Board.sight c.args.board.now) (g.B.Board.sight c.begin.new.board) (g.B.Board.sight c.known.new.board) (g.B.Board.sight c.sweep_unnamed.new.board) c.args.boot c.in-Ok.settings c.in-Ok.ensures.begins
      c.in-Ok-known.named c.in-Ok-known.ensures.checks c.in-Ok-sweep_unnamed.done
      (subst (λ (r : Rec). Sweeps (g.B.Board.sight c.known.new.board) r (Ok c.in-Ok-sweep_unnamed.done) (g.B.Board.sight c.sweep_unnamed.new.board)) c.record.ensures.same c.in-Ok-sweep_unnamed.ensures.sweeps)
      c.in-Ok-known.named.items c.in-Ok-known.ensures.named c.in-Ok-known.ensures.kept c.fresh.result c.slots-slots.result c.fresh.ensures.fresh c.slots-slots.ensures c.fresh.ensures.settings
      (ap (λ v. v.items) c.fresh.ensures.named) c.record.ensures.kept (λ told. g.met.B.Board.slots_are_told c.sweep_unnamed.new.board told) c.a_fresh_session_agrees.ensures;
}
