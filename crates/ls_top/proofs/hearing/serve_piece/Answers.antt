use Rattle.std.proofs.Common.{◌+◌, ◌++◌, ℕ, List, Bool, IsTrue, take, drop, sym, ◌∙◌, subst}
use Rattle.std.proofs.lemmas.List.{take_all}
use Rattle.std.proofs.lemmas.Result.{err_from_is_err_and}
use Rattle.ls_top.specs.Serving.{Progress}
use Rattle.ls_top.proofs.HearingLemmas.{byte_next, byte_taken}
use Rattle.ls_top.proofs.hearing.serve_piece.Goals as goal

pub returns-in_err-serve_byte-clause-cut : goal.returns-in_err-serve_byte-clause-cut
returns-in_err-serve_byte-clause-cut g c = λ told start first heard rest input progress.
    let piece = c.args.piece.now in
    let i = c.loop-b.b-index in
    let p = err_from_is_err_and c.from_residual.result c.from_residual.ensures.1 in
    rw (p.1, p.2) (c.in_err-serve_byte.ensures.cut (subst (λ (b : Bool). IsTrue b) (sym c.loop-b.invariant.told) told)
    start first (heard ++ take i piece) (drop (i + 1) piece ++ rest) (input ∙ byte_next heard piece rest i c.loop-b-test.true)
    (c.loop-b.invariant.progress told start first heard rest input progress))

pub loop-b-preserved : goal.loop-b-preserved
loop-b-preserved g c = record {
  told = c.in_ok-serve_byte.ensures.keeps.told ∙ c.loop-b.invariant.told;
  never_fails = c.in_ok-serve_byte.ensures.keeps.never_fails ∙ c.loop-b.invariant.never_fails;
  slots = c.in_ok-serve_byte.ensures.keeps.slots ∙ c.loop-b.invariant.slots;
  faults = c.in_ok-serve_byte.ensures.keeps.quiet ∙ c.loop-b.invariant.faults;
  input = λ told. c.in_ok-serve_byte.ensures.input (subst (λ (b : Bool). IsTrue b) (sym c.loop-b.invariant.told) told) ∙ c.loop-b.invariant.input told;
  progress = λ told start first heard rest input progress.
      let piece = c.args.piece.now in
      let i = c.loop-b.b-index in
      subst (λ (l : List ℕ). Progress start (g.B.Board.sight c.serve_byte.new.board) first l c.serve_byte.new.users c.serve_byte.new.line)
      (byte_taken heard piece rest i c.loop-b-test.true)
      (c.in_ok-serve_byte.ensures.served (subst (λ (b : Bool). IsTrue b) (sym c.loop-b.invariant.told) told)
      start first (heard ++ take i piece) (drop (i + 1) piece ++ rest) (input ∙ byte_next heard piece rest i c.loop-b-test.true)
      (c.loop-b.invariant.progress told start first heard rest input progress));
}

pub returns-clause-served : goal.returns-clause-served
returns-clause-served g c = λ told start first heard rest input progress.
    subst (λ (l : List ℕ). Progress start (g.B.Board.sight c.loop-b.board) first (heard ++ l) c.loop-b.users c.loop-b.line)
    (take_all c.loop-b.b-index c.args.piece.now c.loop-b-test.false)
    (c.loop-b.invariant.progress told start first heard rest input progress)
