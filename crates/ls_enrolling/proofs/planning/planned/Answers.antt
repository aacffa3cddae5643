use Rattle.std.proofs.Common.{◌≡◌, ◌∙◌, ℕ, IsTrue, drop, subst}
use Rattle.ls_drawing.proofs.DrawLemmas.{drawn_are}
use Rattle.ls_drawing.proofs.PassingLemmas.{passes_then, passes_drawing, goes_drawn, stored_drawn}
use Rattle.ls_tape.specs.Tape.{drawn as drawn_bytes}
use Rattle.ls_enrolling.proofs.RefusalLemmas.{ready_for}
use Rattle.ls_enrolling.proofs.planning.planned.Goals as goal

pub returns-in-Err-clause-passes : goal.returns-in-Err-clause-passes
returns-in-Err-clause-passes g c = passes_drawing _ _ _ _ c.in-Err.ensures.draws

pub planned_by-requires-clause-can : goal.planned_by-requires-clause-can
planned_by-requires-clause-can g c = (goes_drawn _ _ _ _ c.in-Ok.ensures.draws).can c.args.x.now c.requires.can

pub returns-clause-passes : goal.returns-clause-passes
returns-clause-passes g c = passes_then _ _ (goes_drawn _ _ _ _ c.in-Ok.ensures.draws) (stored_drawn _ _ _ _ c.in-Ok.ensures.draws) _ _ c.planned_by.ensures.passes

pub returns-clause-plan : goal.returns-clause-plan
returns-clause-plan g c =
    let old = g.B.Board.sight c.args.board.now in
    let mid = g.B.Board.sight c.draw.new.board in
    let new = g.B.Board.sight c.planned_by.new.board in
    let len = c.drawn_len.result in
    let are : IsTrue old.told → (c.in-Ok.drawn ≡ drawn_bytes old.world.noise len) × (mid.world ≡ record old.world { noise = drop len old.world.noise }) = drawn_are _ old mid _ c.in-Ok.ensures.draws in
    ready_for c.args.x.now c.args.user c.args.escrow c.requires.goes old mid new c.known_rules.ensures.rules c.as_slice.result.now (goes_drawn _ _ _ _ c.in-Ok.ensures.draws).told
    (subst (λ (n : ℕ). IsTrue old.told → (c.as_slice.result.now ≡ drawn_bytes old.world.noise n) × (mid.world ≡ record old.world { noise = drop n old.world.noise })) c.drawn_len.ensures.same
    (λ told. (c.as_slice.ensures.same ∙ (are told).0, (are told).1)))
    c.planned_by.result c.planned_by.ensures.same c.planned_by.ensures.plan
