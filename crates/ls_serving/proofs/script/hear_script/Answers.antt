use Rattle.std.proofs.Common.{arith, ◌≡◌, ◌≤◌, ◌-◌, ◌++◌, length, ℕ, List, Bool, IsTrue, sym, ◌∙◌, ap, subst}
use Rattle.std.proofs.lemmas.Grind.{common_steps}
use Rattle.ls_serving.proofs.ScriptLemmas.{TextSoFar, text_end, text_limit, text_more, hears_more}
use Rattle.ls_serving.proofs.script.hear_script.Goals as goal

pub returns-in_err-hear-clause-calls : goal.returns-in_err-hear-clause-calls
returns-in_err-hear-clause-calls g c = λ told.
    let told_now : IsTrue (g.B.Board.sight c.loop-left.board).told = subst (λ (b : Bool). IsTrue b) (sym c.loop-left.invariant.told) told in
    hears_more (g.B.Board.sight c.args.board.now) (g.B.Board.sight c.loop-left.board) (g.B.Board.sight c.hear.new.board) (c.loop-left.invariant.heard told).hears
    c.min.result (omega (arith, c.min.ensures, c.loop-left-test.true)) (omega (arith, c.min.ensures)) (c.hear.ensures.hears told_now).called

pub returns-then-is_empty-clause-heard : goal.returns-then-is_empty-clause-heard
returns-then-is_empty-clause-heard g c =
    let none : length c.hear.new.piece.items ≡ 0 = grind (arith, common_steps) in
    λ told.
    let told_now : IsTrue (g.B.Board.sight c.loop-left.board).told = subst (λ (b : Bool). IsTrue b) (sym c.loop-left.invariant.told) told in
    text_end (g.B.Board.sight c.args.board.now) (g.B.Board.sight c.loop-left.board) (g.B.Board.sight c.hear.new.board) c.loop-left.text c.loop-left.left c.args.longest
    (c.loop-left.invariant.heard told) c.hear.new.piece.items (c.in_ok-hear.ensures.hears told_now).heard none

pub returns-then-is_empty-clause-calls : goal.returns-then-is_empty-clause-calls
returns-then-is_empty-clause-calls g c = λ told.
    let told_now : IsTrue (g.B.Board.sight c.loop-left.board).told = subst (λ (b : Bool). IsTrue b) (sym c.loop-left.invariant.told) told in
    hears_more (g.B.Board.sight c.args.board.now) (g.B.Board.sight c.loop-left.board) (g.B.Board.sight c.hear.new.board) (c.loop-left.invariant.heard told).hears
    c.min.result (omega (arith, c.min.ensures, c.loop-left-test.true)) (omega (arith, c.min.ensures)) (c.in_ok-hear.ensures.hears told_now).called

pub returns-in_err-put_bytes-clause-calls : goal.returns-in_err-put_bytes-clause-calls
returns-in_err-put_bytes-clause-calls g c = λ told.
    let told_now : IsTrue (g.B.Board.sight c.loop-left.board).told = subst (λ (b : Bool). IsTrue b) (sym c.loop-left.invariant.told) told in
    hears_more (g.B.Board.sight c.args.board.now) (g.B.Board.sight c.loop-left.board) (g.B.Board.sight c.hear.new.board) (c.loop-left.invariant.heard told).hears
    c.min.result (omega (arith, c.min.ensures, c.loop-left-test.true)) (omega (arith, c.min.ensures)) (c.in_ok-hear.ensures.hears told_now).called

pub loop-left-preserved : goal.loop-left-preserved
loop-left-preserved g c = record {
  told = c.in_ok-hear.ensures.keeps.told ∙ c.loop-left.invariant.told;
  never_fails = c.in_ok-hear.ensures.keeps.never_fails ∙ c.loop-left.invariant.never_fails;
  slots = c.in_ok-hear.ensures.keeps.slots ∙ c.loop-left.invariant.slots;
  faults = c.in_ok-hear.ensures.keeps.quiet ∙ c.loop-left.invariant.faults;
  most = omega (arith, c.loop-left.invariant.most);
  heard = λ told.
      let told_now : IsTrue (g.B.Board.sight c.loop-left.board).told = subst (λ (b : Bool). IsTrue b) (sym c.loop-left.invariant.told) told in
      let start = g.B.Board.sight c.args.board.now in
      let new = g.B.Board.sight c.hear.new.board in
      let piece = c.hear.new.piece.items in
      let few : length piece ≤ c.loop-left.left = omega (arith, c.in_ok-hear.ensures.few, c.min.ensures) in
      let long : length piece ≡ c.len.result = grind (arith, common_steps) in
      let more = text_more start (g.B.Board.sight c.loop-left.board) new c.loop-left.text c.loop-left.left c.args.longest (c.loop-left.invariant.heard told) piece
      (c.in_ok-hear.ensures.hears told_now).heard c.min.result (omega (arith, c.min.ensures, c.loop-left-test.true)) (omega (arith, c.min.ensures))
      (c.in_ok-hear.ensures.hears told_now).called few in
      subst (λ (t : List ℕ). TextSoFar start new t (c.loop-left.left - c.len.result) c.args.longest)
      (ap (λ (l : List ℕ). c.loop-left.text ++ l) (sym c.deref.ensures.value) ∙ sym c.in_ok-put_bytes.ensures.put)
      (subst (λ (n : ℕ). TextSoFar start new (c.loop-left.text ++ piece) (c.loop-left.left - n) c.args.longest) long more);
}

pub returns-in_err-hear-2-clause-calls : goal.returns-in_err-hear-2-clause-calls
returns-in_err-hear-2-clause-calls g c = λ told.
    let told_now : IsTrue (g.B.Board.sight c.loop-left.board).told = subst (λ (b : Bool). IsTrue b) (sym c.loop-left.invariant.told) told in
    hears_more (g.B.Board.sight c.args.board.now) (g.B.Board.sight c.loop-left.board) (g.B.Board.sight c.hear-2.new.board) (c.loop-left.invariant.heard told).hears
    1 (omega arith) (omega arith) (c.hear-2.ensures.hears told_now).called

pub returns-then-is_empty-2-clause-heard : goal.returns-then-is_empty-2-clause-heard
returns-then-is_empty-2-clause-heard g c =
    let none : length c.hear-2.new.piece.items ≡ 0 = grind (arith, common_steps) in
    λ told.
    let told_now : IsTrue (g.B.Board.sight c.loop-left.board).told = subst (λ (b : Bool). IsTrue b) (sym c.loop-left.invariant.told) told in
    text_end (g.B.Board.sight c.args.board.now) (g.B.Board.sight c.loop-left.board) (g.B.Board.sight c.hear-2.new.board) c.loop-left.text c.loop-left.left c.args.longest
    (c.loop-left.invariant.heard told) c.hear-2.new.piece.items (c.in_ok-hear-2.ensures.hears told_now).heard none

pub returns-then-is_empty-2-clause-calls : goal.returns-then-is_empty-2-clause-calls
returns-then-is_empty-2-clause-calls g c = λ told.
    let told_now : IsTrue (g.B.Board.sight c.loop-left.board).told = subst (λ (b : Bool). IsTrue b) (sym c.loop-left.invariant.told) told in
    hears_more (g.B.Board.sight c.args.board.now) (g.B.Board.sight c.loop-left.board) (g.B.Board.sight c.hear-2.new.board) (c.loop-left.invariant.heard told).hears
    1 (omega arith) (omega arith) (c.in_ok-hear-2.ensures.hears told_now).called

pub returns-else-is_empty-2-clause-heard : goal.returns-else-is_empty-2-clause-heard
returns-else-is_empty-2-clause-heard g c =
    let few : length c.hear-2.new.piece.items ≤ 1 = c.in_ok-hear-2.ensures.few in
    let one : length c.hear-2.new.piece.items ≡ 1 = grind (arith, common_steps) in
    λ told.
    let told_now : IsTrue (g.B.Board.sight c.loop-left.board).told = subst (λ (b : Bool). IsTrue b) (sym c.loop-left.invariant.told) told in
    text_limit (g.B.Board.sight c.args.board.now) (g.B.Board.sight c.loop-left.board) (g.B.Board.sight c.hear-2.new.board) c.loop-left.text c.loop-left.left c.args.longest
    (c.loop-left.invariant.heard told) c.hear-2.new.piece.items (c.in_ok-hear-2.ensures.hears told_now).heard (omega (arith, c.loop-left-test.false)) one

pub returns-else-is_empty-2-clause-calls : goal.returns-else-is_empty-2-clause-calls
returns-else-is_empty-2-clause-calls g c = λ told.
    let told_now : IsTrue (g.B.Board.sight c.loop-left.board).told = subst (λ (b : Bool). IsTrue b) (sym c.loop-left.invariant.told) told in
    hears_more (g.B.Board.sight c.args.board.now) (g.B.Board.sight c.loop-left.board) (g.B.Board.sight c.hear-2.new.board) (c.loop-left.invariant.heard told).hears
    1 (omega arith) (omega arith) (c.in_ok-hear-2.ensures.hears told_now).called
