use Rattle.std.proofs.Common.{arith, ◌≡◌, ◌≤◌, ◌-◌, ◌++◌, length, ℕ, List, Bool, IsTrue, sym, ◌∙◌, ap, subst}
use Rattle.std.specs.Prelude.{Ok}
use Rattle.std.proofs.lemmas.Grind.{common_steps}
use Rattle.ls_board.specs.declared.action.Action.TheVariants.{Hear}
use Rattle.ls_serving.specs.Serving.{Progress}
use Rattle.ls_serving.proofs.ServingLemmas.{calls_move, on_err}
use Rattle.ls_serving.proofs.HearingLemmas.{HeardSoFar, InputSoFar, input_end, input_limit, input_more, heard_progress, heard_cut, heard_end, heard_limit, heard_more, piece_next}
use Rattle.ls_serving.proofs.hearing.hear_all.Goals as goal

pub returns-in_err-hear-clause-cut : goal.returns-in_err-hear-clause-cut
returns-in_err-hear-clause-cut g c = λ told start first same empty serving.
    let told_now : IsTrue (g.B.Board.sight c.loop-left.board).told = subst (λ (b : Bool). IsTrue b) (sym c.loop-left.invariant.told) told in
    let s = g.met.S.Service in
    let v = c.loop-left.service in
    on_err c.from_residual.result (heard_cut g.S.Service.machine (g.S.Service.agrees start.world v) (s.owes start.world v)
    start (g.B.Board.sight c.loop-left.board) (g.B.Board.sight c.hear.new.board) first c.loop-left.line c.loop-left.left c.min.result (omega (arith, c.min.ensures, c.loop-left-test.true)) (omega (arith, c.min.ensures))
    (c.loop-left.invariant.heard told start first same empty serving) c.hear.result c.hear.new.piece.items (c.hear.ensures.hears told_now))

pub returns-then-is_empty-clause-can : goal.returns-then-is_empty-clause-can
returns-then-is_empty-clause-can g c =
    g.met.S.Service.can_still c.loop-left.service (g.B.Board.sight c.loop-left.board) (g.B.Board.sight c.hear.new.board) (Hear c.min.result) tt
    c.in_ok-hear.ensures.keeps.told c.in_ok-hear.ensures.keeps.slots
    (λ told. calls_move (g.B.Board.sight c.loop-left.board) (g.B.Board.sight c.hear.new.board) (Hear c.min.result) (c.in_ok-hear.ensures.hears told).called) c.loop-left.invariant.can

pub returns-then-is_empty-clause-ends : goal.returns-then-is_empty-clause-ends
returns-then-is_empty-clause-ends g c =
    let none : length c.hear.new.piece.items ≡ 0 = grind (arith, common_steps) in
    λ told start first same empty serving.
    let told_now : IsTrue (g.B.Board.sight c.loop-left.board).told = subst (λ (b : Bool). IsTrue b) (sym c.loop-left.invariant.told) told in
    let s = g.met.S.Service in
    let v = c.loop-left.service in
    let old = g.B.Board.sight c.loop-left.board in
    let now = g.B.Board.sight c.hear.new.board in
    let so_far = c.loop-left.invariant.heard told start first same empty serving in
    let hears = c.in_ok-hear.ensures.hears told_now in
    heard_end g.S.Service.machine (g.S.Service.agrees start.world v) start old now first c.loop-left.line c.loop-left.left so_far c.hear.new.piece.items hears.heard
    (heard_progress g.S.Service.machine (g.S.Service.agrees start.world v) (s.owes start.world v)
    start old now first c.loop-left.line c.loop-left.left c.min.result (omega (arith, c.min.ensures, c.loop-left-test.true)) (omega (arith, c.min.ensures)) so_far (Ok c.in_ok-hear.field-0) c.hear.new.piece.items hears) none

pub serve_piece-requires : goal.serve_piece-requires
serve_piece-requires g c = record {
  can = g.met.S.Service.can_still c.loop-left.service (g.B.Board.sight c.loop-left.board) (g.B.Board.sight c.hear.new.board) (Hear c.min.result) tt
      c.in_ok-hear.ensures.keeps.told c.in_ok-hear.ensures.keeps.slots
      (λ told. calls_move (g.B.Board.sight c.loop-left.board) (g.B.Board.sight c.hear.new.board) (Hear c.min.result) (c.in_ok-hear.ensures.hears told).called) c.loop-left.invariant.can;
}

pub returns-in_err-serve_piece-clause-cut : goal.returns-in_err-serve_piece-clause-cut
returns-in_err-serve_piece-clause-cut g c = λ told start first same empty serving.
    let s = g.met.S.Service in
    let v = c.loop-left.service in
    let old = g.B.Board.sight c.loop-left.board in
    let now = g.B.Board.sight c.hear.new.board in
    let piece = c.hear.new.piece.items in
    let told_now : IsTrue old.told = subst (λ (b : Bool). IsTrue b) (sym c.loop-left.invariant.told) told in
    let told_new : IsTrue now.told = subst (λ (b : Bool). IsTrue b) (sym c.in_ok-hear.ensures.keeps.told) told_now in
    let so_far = c.loop-left.invariant.heard told start first same empty serving in
    let hears = c.in_ok-hear.ensures.hears told_now in
    let progress = heard_progress g.S.Service.machine (g.S.Service.agrees start.world v) (s.owes start.world v)
    start old now first c.loop-left.line c.loop-left.left c.min.result (omega (arith, c.min.ensures, c.loop-left-test.true)) (omega (arith, c.min.ensures)) so_far (Ok c.in_ok-hear.field-0) piece hears in
    on_err c.from_residual-in_err-serve_piece.result (c.in_err-serve_piece.ensures.cut told_new start first so_far.heard now.world.input
    (piece_next g.S.Service.machine (g.S.Service.agrees start.world v) start old now first c.loop-left.line c.loop-left.left so_far piece hears.heard progress
    ∙ ap (λ (l : List ℕ). so_far.heard ++ (l ++ now.world.input)) (sym c.deref.ensures.value))
    progress)

pub loop-left-preserved : goal.loop-left-preserved
loop-left-preserved g c = record {
  told = c.in_ok-serve_piece.ensures.keeps.told ∙ c.in_ok-hear.ensures.keeps.told ∙ c.loop-left.invariant.told;
  never_fails = c.in_ok-serve_piece.ensures.keeps.never_fails ∙ c.in_ok-hear.ensures.keeps.never_fails ∙ c.loop-left.invariant.never_fails;
  slots = c.in_ok-serve_piece.ensures.keeps.slots ∙ c.in_ok-hear.ensures.keeps.slots ∙ c.loop-left.invariant.slots;
  faults = c.in_ok-serve_piece.ensures.keeps.quiet ∙ c.in_ok-hear.ensures.keeps.quiet ∙ c.loop-left.invariant.faults;
  can = c.in_ok-serve_piece.ensures.can;
  most = omega arith;
  input = λ told.
      let old = g.B.Board.sight c.loop-left.board in
      let now = g.B.Board.sight c.hear.new.board in
      let told_now : IsTrue old.told = subst (λ (b : Bool). IsTrue b) (sym c.loop-left.invariant.told) told in
      let told_new : IsTrue now.told = subst (λ (b : Bool). IsTrue b) (sym c.in_ok-hear.ensures.keeps.told) told_now in
      let piece = c.hear.new.piece.items in
      let few : length piece ≤ c.loop-left.left = omega (arith, c.in_ok-hear.ensures.few, c.min.ensures) in
      let long : length piece ≡ c.len.result = grind (arith, common_steps) in
      subst (λ (n : ℕ). InputSoFar (g.B.Board.sight c.args.board.now).world (g.B.Board.sight c.serve_piece.new.board).world (c.loop-left.left - n)) long
      (input_more (g.B.Board.sight c.args.board.now).world old.world now.world c.loop-left.left (c.loop-left.invariant.input told) piece
      (c.in_ok-hear.ensures.hears told_now).heard (g.B.Board.sight c.serve_piece.new.board).world (c.in_ok-serve_piece.ensures.input told_new) few);
  heard = λ told start first same empty serving.
      let s = g.met.S.Service in
      let m = g.S.Service.machine in
      let v = c.loop-left.service in
      let old = g.B.Board.sight c.loop-left.board in
      let now = g.B.Board.sight c.hear.new.board in
      let next = g.B.Board.sight c.serve_piece.new.board in
      let piece = c.hear.new.piece.items in
      let told_now : IsTrue old.told = subst (λ (b : Bool). IsTrue b) (sym c.loop-left.invariant.told) told in
      let told_new : IsTrue now.told = subst (λ (b : Bool). IsTrue b) (sym c.in_ok-hear.ensures.keeps.told) told_now in
      let so_far = c.loop-left.invariant.heard told start first same empty serving in
      let hears = c.in_ok-hear.ensures.hears told_now in
      let progress = heard_progress m (g.S.Service.agrees start.world v) (s.owes start.world v)
      start old now first c.loop-left.line c.loop-left.left c.min.result (omega (arith, c.min.ensures, c.loop-left-test.true)) (omega (arith, c.min.ensures)) so_far (Ok c.in_ok-hear.field-0) piece hears in
      let served = c.in_ok-serve_piece.ensures.served told_new start first so_far.heard now.world.input
      (piece_next m (g.S.Service.agrees start.world v) start old now first c.loop-left.line c.loop-left.left so_far piece hears.heard progress
      ∙ ap (λ (l : List ℕ). so_far.heard ++ (l ++ now.world.input)) (sym c.deref.ensures.value))
      progress in
      let few : length piece ≤ c.loop-left.left = omega (arith, c.in_ok-hear.ensures.few, c.min.ensures) in
      let long : length piece ≡ c.len.result = grind (arith, common_steps) in
      let later = g.S.Service.agrees start.world c.serve_piece.new.service in
      subst (λ (n : ℕ). HeardSoFar m later start next first c.serve_piece.new.line (c.loop-left.left - n)) long
      (heard_more m (g.S.Service.agrees start.world v) start old now first c.loop-left.line c.loop-left.left so_far piece hears.heard progress
      later next c.serve_piece.new.line few (c.in_ok-serve_piece.ensures.input told_new)
      (subst (λ (l : List ℕ). Progress m later start next first (so_far.heard ++ l) c.serve_piece.new.line) c.deref.ensures.value served));
}

pub returns-in_err-hear-2-clause-cut : goal.returns-in_err-hear-2-clause-cut
returns-in_err-hear-2-clause-cut g c = λ told start first same empty serving.
    let told_now : IsTrue (g.B.Board.sight c.loop-left.board).told = subst (λ (b : Bool). IsTrue b) (sym c.loop-left.invariant.told) told in
    let s = g.met.S.Service in
    let v = c.loop-left.service in
    on_err c.from_residual-in_err-hear-2.result (heard_cut g.S.Service.machine (g.S.Service.agrees start.world v) (s.owes start.world v)
    start (g.B.Board.sight c.loop-left.board) (g.B.Board.sight c.hear-2.new.board) first c.loop-left.line c.loop-left.left 1 (omega arith) (omega arith)
    (c.loop-left.invariant.heard told start first same empty serving) c.hear-2.result c.hear-2.new.piece.items (c.hear-2.ensures.hears told_now))

pub returns-then-is_empty-2-clause-can : goal.returns-then-is_empty-2-clause-can
returns-then-is_empty-2-clause-can g c =
    g.met.S.Service.can_still c.loop-left.service (g.B.Board.sight c.loop-left.board) (g.B.Board.sight c.hear-2.new.board) (Hear 1) tt
    c.in_ok-hear-2.ensures.keeps.told c.in_ok-hear-2.ensures.keeps.slots
    (λ told. calls_move (g.B.Board.sight c.loop-left.board) (g.B.Board.sight c.hear-2.new.board) (Hear 1) (c.in_ok-hear-2.ensures.hears told).called) c.loop-left.invariant.can

pub returns-then-is_empty-2-clause-ends : goal.returns-then-is_empty-2-clause-ends
returns-then-is_empty-2-clause-ends g c =
    let none : length c.hear-2.new.piece.items ≡ 0 = grind (arith, common_steps) in
    λ told start first same empty serving.
    let told_now : IsTrue (g.B.Board.sight c.loop-left.board).told = subst (λ (b : Bool). IsTrue b) (sym c.loop-left.invariant.told) told in
    let s = g.met.S.Service in
    let v = c.loop-left.service in
    let old = g.B.Board.sight c.loop-left.board in
    let now = g.B.Board.sight c.hear-2.new.board in
    let so_far = c.loop-left.invariant.heard told start first same empty serving in
    let hears = c.in_ok-hear-2.ensures.hears told_now in
    heard_end g.S.Service.machine (g.S.Service.agrees start.world v) start old now first c.loop-left.line c.loop-left.left so_far c.hear-2.new.piece.items hears.heard
    (heard_progress g.S.Service.machine (g.S.Service.agrees start.world v) (s.owes start.world v)
    start old now first c.loop-left.line c.loop-left.left 1 (omega arith) (omega arith) so_far (Ok c.in_ok-hear-2.field-0) c.hear-2.new.piece.items hears) none

pub returns-clause-can : goal.returns-clause-can
returns-clause-can g c =
    g.met.S.Service.can_still c.loop-left.service (g.B.Board.sight c.loop-left.board) (g.B.Board.sight c.hear-2.new.board) (Hear 1) tt
    c.in_ok-hear-2.ensures.keeps.told c.in_ok-hear-2.ensures.keeps.slots
    (λ told. calls_move (g.B.Board.sight c.loop-left.board) (g.B.Board.sight c.hear-2.new.board) (Hear 1) (c.in_ok-hear-2.ensures.hears told).called) c.loop-left.invariant.can

pub returns-clause-ends : goal.returns-clause-ends
returns-clause-ends g c = λ told start first same empty serving.
    let told_now : IsTrue (g.B.Board.sight c.loop-left.board).told = subst (λ (b : Bool). IsTrue b) (sym c.loop-left.invariant.told) told in
    let s = g.met.S.Service in
    let v = c.loop-left.service in
    let old = g.B.Board.sight c.loop-left.board in
    let now = g.B.Board.sight c.hear-2.new.board in
    let so_far = c.loop-left.invariant.heard told start first same empty serving in
    let hears = c.in_ok-hear-2.ensures.hears told_now in
    let few : length c.hear-2.new.piece.items ≤ 1 = c.in_ok-hear-2.ensures.few in
    let one : length c.hear-2.new.piece.items ≡ 1 = grind (arith, common_steps) in
    heard_limit g.S.Service.machine (g.S.Service.agrees start.world v) start old now first c.loop-left.line c.loop-left.left so_far c.hear-2.new.piece.items hears.heard
    (heard_progress g.S.Service.machine (g.S.Service.agrees start.world v) (s.owes start.world v)
    start old now first c.loop-left.line c.loop-left.left 1 (omega arith) (omega arith) so_far (Ok c.in_ok-hear-2.field-0) c.hear-2.new.piece.items hears) (omega arith) one

pub returns-then-is_empty-clause-input : goal.returns-then-is_empty-clause-input
returns-then-is_empty-clause-input g c =
    let none : length c.hear.new.piece.items ≡ 0 = grind (arith, common_steps) in
    λ told.
    let told_now : IsTrue (g.B.Board.sight c.loop-left.board).told = subst (λ (b : Bool). IsTrue b) (sym c.loop-left.invariant.told) told in
    input_end (g.B.Board.sight c.args.board.now).world (g.B.Board.sight c.loop-left.board).world (g.B.Board.sight c.hear.new.board).world c.loop-left.left
    (c.loop-left.invariant.input told) c.hear.new.piece.items (c.in_ok-hear.ensures.hears told_now).heard none

pub returns-then-is_empty-2-clause-input : goal.returns-then-is_empty-2-clause-input
returns-then-is_empty-2-clause-input g c =
    let none : length c.hear-2.new.piece.items ≡ 0 = grind (arith, common_steps) in
    λ told.
    let told_now : IsTrue (g.B.Board.sight c.loop-left.board).told = subst (λ (b : Bool). IsTrue b) (sym c.loop-left.invariant.told) told in
    input_end (g.B.Board.sight c.args.board.now).world (g.B.Board.sight c.loop-left.board).world (g.B.Board.sight c.hear-2.new.board).world c.loop-left.left
    (c.loop-left.invariant.input told) c.hear-2.new.piece.items (c.in_ok-hear-2.ensures.hears told_now).heard none

pub returns-clause-input : goal.returns-clause-input
returns-clause-input g c =
    let few : length c.hear-2.new.piece.items ≤ 1 = c.in_ok-hear-2.ensures.few in
    let one : length c.hear-2.new.piece.items ≡ 1 = grind (arith, common_steps) in
    λ told.
    let told_now : IsTrue (g.B.Board.sight c.loop-left.board).told = subst (λ (b : Bool). IsTrue b) (sym c.loop-left.invariant.told) told in
    input_limit (g.B.Board.sight c.args.board.now).world (g.B.Board.sight c.loop-left.board).world (g.B.Board.sight c.hear-2.new.board).world c.loop-left.left
    (c.loop-left.invariant.input told) c.hear-2.new.piece.items (c.in_ok-hear-2.ensures.hears told_now).heard (omega (arith, c.loop-left-test.false)) one
