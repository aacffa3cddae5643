use Rattle.std.proofs.Common.{arith, ◌≡◌, ◌≤◌, ◌-◌, ◌++◌, length, ℕ, List, Bool, IsTrue, sym, ◌∙◌, ap, subst}
use Rattle.std.specs.Prelude.{Ok}
use Rattle.std.proofs.lemmas.Grind.{common_steps}
use Rattle.std.proofs.lemmas.Result.{err_from_is_err_and}
use Rattle.ls_top.specs.Serving.{Progress}
use Rattle.ls_top.proofs.ServingLemmas.{any_err}
use Rattle.ls_top.proofs.HearingLemmas.{HeardSoFar, heard_progress, heard_cut, heard_end, heard_limit, heard_more, piece_next}
use Rattle.ls_top.proofs.hearing.hear_all.Goals as goal

pub returns-in_err-hear-clause-cut : goal.returns-in_err-hear-clause-cut
returns-in_err-hear-clause-cut g c = λ told start first same empty serving.
    let told_now : IsTrue (g.B.Board.sight c.loop-left.board).told = subst (λ (b : Bool). IsTrue b) (sym c.loop-left.invariant.told) told in
    let so_far = c.loop-left.invariant.heard told start first same empty serving in
    any_err c.from_residual.result _ (λ fault.
    heard_cut start (g.B.Board.sight c.loop-left.board) (g.B.Board.sight c.hear.new.board) first c.loop-left.users c.loop-left.line c.loop-left.left c.min.result
    so_far (omega (arith, c.min.ensures)) (omega (arith, c.min.ensures)) c.hear.result c.hear.new.piece.items (c.hear.ensures.hears told_now) fault)

pub returns-then-is_empty-clause-ends : goal.returns-then-is_empty-clause-ends
returns-then-is_empty-clause-ends g c = λ told start first same empty serving.
    let told_now : IsTrue (g.B.Board.sight c.loop-left.board).told = subst (λ (b : Bool). IsTrue b) (sym c.loop-left.invariant.told) told in
    let so_far = c.loop-left.invariant.heard told start first same empty serving in
    let hears = c.in_ok-hear.ensures.hears told_now in
    let none : length c.hear.new.piece.items ≡ 0 = grind (arith, common_steps) in
    heard_end start (g.B.Board.sight c.loop-left.board) (g.B.Board.sight c.hear.new.board) first c.loop-left.users c.loop-left.line c.loop-left.left c.min.result
    so_far (omega (arith, c.min.ensures)) (omega (arith, c.min.ensures)) (Ok c.in_ok-hear.field-0) c.hear.new.piece.items hears hears.heard none

pub returns-in_err-serve_piece-clause-cut : goal.returns-in_err-serve_piece-clause-cut
returns-in_err-serve_piece-clause-cut g c = λ told start first same empty serving.
    let old = g.B.Board.sight c.loop-left.board in
    let now = g.B.Board.sight c.hear.new.board in
    let piece = c.hear.new.piece.items in
    let told_now : IsTrue old.told = subst (λ (b : Bool). IsTrue b) (sym c.loop-left.invariant.told) told in
    let told_new : IsTrue now.told = subst (λ (b : Bool). IsTrue b) (sym c.in_ok-hear.ensures.keeps.told) told_now in
    let so_far = c.loop-left.invariant.heard told start first same empty serving in
    let hears = c.in_ok-hear.ensures.hears told_now in
    let p = err_from_is_err_and c.from_residual-in_err-serve_piece.result c.from_residual-in_err-serve_piece.ensures.1 in
    rw (p.1, p.2) (c.in_err-serve_piece.ensures.cut told_new start first so_far.heard now.world.input
    (piece_next start old now first c.loop-left.users c.loop-left.line c.loop-left.left c.min.result so_far (omega (arith, c.min.ensures)) (omega (arith, c.min.ensures))
    (Ok c.in_ok-hear.field-0) piece hears hears.heard
    ∙ ap (λ (l : List ℕ). so_far.heard ++ (l ++ now.world.input)) (sym c.deref.ensures.value))
    (heard_progress start old now first c.loop-left.users c.loop-left.line c.loop-left.left c.min.result so_far (omega (arith, c.min.ensures)) (omega (arith, c.min.ensures))
    (Ok c.in_ok-hear.field-0) piece hears))

pub loop-left-preserved : goal.loop-left-preserved
loop-left-preserved g c = record {
  told = c.in_ok-serve_piece.ensures.keeps.told ∙ c.in_ok-hear.ensures.keeps.told ∙ c.loop-left.invariant.told;
  never_fails = c.in_ok-serve_piece.ensures.keeps.never_fails ∙ c.in_ok-hear.ensures.keeps.never_fails ∙ c.loop-left.invariant.never_fails;
  slots = c.in_ok-serve_piece.ensures.keeps.slots ∙ c.in_ok-hear.ensures.keeps.slots ∙ c.loop-left.invariant.slots;
  faults = c.in_ok-serve_piece.ensures.keeps.quiet ∙ c.in_ok-hear.ensures.keeps.quiet ∙ c.loop-left.invariant.faults;
  most = omega arith;
  heard = λ told start first same empty serving.
      let old = g.B.Board.sight c.loop-left.board in
      let now = g.B.Board.sight c.hear.new.board in
      let next = g.B.Board.sight c.serve_piece.new.board in
      let piece = c.hear.new.piece.items in
      let told_now : IsTrue old.told = subst (λ (b : Bool). IsTrue b) (sym c.loop-left.invariant.told) told in
      let told_new : IsTrue now.told = subst (λ (b : Bool). IsTrue b) (sym c.in_ok-hear.ensures.keeps.told) told_now in
      let so_far = c.loop-left.invariant.heard told start first same empty serving in
      let hears = c.in_ok-hear.ensures.hears told_now in
      let progress = c.in_ok-serve_piece.ensures.served told_new start first so_far.heard now.world.input
      (piece_next start old now first c.loop-left.users c.loop-left.line c.loop-left.left c.min.result so_far (omega (arith, c.min.ensures)) (omega (arith, c.min.ensures))
      (Ok c.in_ok-hear.field-0) piece hears hears.heard
      ∙ ap (λ (l : List ℕ). so_far.heard ++ (l ++ now.world.input)) (sym c.deref.ensures.value))
      (heard_progress start old now first c.loop-left.users c.loop-left.line c.loop-left.left c.min.result so_far (omega (arith, c.min.ensures)) (omega (arith, c.min.ensures))
      (Ok c.in_ok-hear.field-0) piece hears) in
      let few : length piece ≤ c.loop-left.left = omega (arith, c.in_ok-hear.ensures.few, c.min.ensures) in
      let long : length piece ≡ c.len.result = grind (arith, common_steps) in
      subst (λ (n : ℕ). HeardSoFar start next first c.serve_piece.new.users c.serve_piece.new.line (c.loop-left.left - n)) long
      (heard_more start old now first c.loop-left.users c.loop-left.line c.loop-left.left c.min.result so_far (omega (arith, c.min.ensures)) (omega (arith, c.min.ensures))
      (Ok c.in_ok-hear.field-0) piece hears hears.heard next c.serve_piece.new.users c.serve_piece.new.line few (c.in_ok-serve_piece.ensures.input told_new)
      (subst (λ (l : List ℕ). Progress start next first (so_far.heard ++ l) c.serve_piece.new.users c.serve_piece.new.line) c.deref.ensures.value progress));
}

pub returns-in_err-hear-2-clause-cut : goal.returns-in_err-hear-2-clause-cut
returns-in_err-hear-2-clause-cut g c = λ told start first same empty serving.
    let told_now : IsTrue (g.B.Board.sight c.loop-left.board).told = subst (λ (b : Bool). IsTrue b) (sym c.loop-left.invariant.told) told in
    let so_far = c.loop-left.invariant.heard told start first same empty serving in
    any_err c.from_residual-in_err-hear-2.result _ (λ fault.
    heard_cut start (g.B.Board.sight c.loop-left.board) (g.B.Board.sight c.hear-2.new.board) first c.loop-left.users c.loop-left.line c.loop-left.left 1
    so_far (omega arith) (omega arith) c.hear-2.result c.hear-2.new.piece.items (c.hear-2.ensures.hears told_now) fault)

pub returns-then-is_empty-2-clause-ends : goal.returns-then-is_empty-2-clause-ends
returns-then-is_empty-2-clause-ends g c = λ told start first same empty serving.
    let told_now : IsTrue (g.B.Board.sight c.loop-left.board).told = subst (λ (b : Bool). IsTrue b) (sym c.loop-left.invariant.told) told in
    let so_far = c.loop-left.invariant.heard told start first same empty serving in
    let hears = c.in_ok-hear-2.ensures.hears told_now in
    let none : length c.hear-2.new.piece.items ≡ 0 = grind (arith, common_steps) in
    heard_end start (g.B.Board.sight c.loop-left.board) (g.B.Board.sight c.hear-2.new.board) first c.loop-left.users c.loop-left.line c.loop-left.left 1
    so_far (omega arith) (omega arith) (Ok c.in_ok-hear-2.field-0) c.hear-2.new.piece.items hears hears.heard none

pub returns-clause-ends : goal.returns-clause-ends
returns-clause-ends g c = λ told start first same empty serving.
    let told_now : IsTrue (g.B.Board.sight c.loop-left.board).told = subst (λ (b : Bool). IsTrue b) (sym c.loop-left.invariant.told) told in
    let so_far = c.loop-left.invariant.heard told start first same empty serving in
    let hears = c.in_ok-hear-2.ensures.hears told_now in
    let few : length c.hear-2.new.piece.items ≤ 1 = c.in_ok-hear-2.ensures.few in
    let one : length c.hear-2.new.piece.items ≡ 1 = grind (arith, common_steps) in
    heard_limit start (g.B.Board.sight c.loop-left.board) (g.B.Board.sight c.hear-2.new.board) first c.loop-left.users c.loop-left.line c.loop-left.left 1
    so_far (omega arith) (omega arith) (Ok c.in_ok-hear-2.field-0) c.hear-2.new.piece.items hears hears.heard (omega arith) one
