use Rattle.std.proofs.Common.{◌≡◌, Bool, true, false, IsTrue, sym, ◌∙◌, ap, subst, refl}
use Rattle.std.specs.Prelude.{not, Ok}
use Rattle.ls_board.specs.declared.action.Action.TheVariants.{Sync}
use Rattle.ls_serving.proofs.ServingLemmas.{on_err, on_both, tidying_cut, tidied, serving_still, cut_between, sync_said}
use Rattle.ls_serving.proofs.TurnLemmas.{sync_turn}
use Rattle.ls_serving.proofs.serving.finish.Goals as goal

pub returns-in_err-left-clause-cut : goal.returns-in_err-left-clause-cut
returns-in_err-left-clause-cut g c = λ told start first lines serving.
    let s = g.met.S.Service in
    let u = c.loop-left.service in
    let now = g.B.Board.sight c.loop-left.board in
    let told_now : IsTrue now.told = subst (λ (b : Bool). IsTrue b) (sym c.loop-left.invariant.told) told in
    on_err c.from_residual.result
    (tidying_cut g.S.Service.machine (g.S.Service.agrees start.world u) (s.owes start.world u)
    start first now (g.B.Board.sight c.tidy.new.board) lines (g.S.Service.agrees start.world c.tidy.new.self)
    (c.in_err-left.ensures.inside told_now) (c.in_err-left.ensures.silent told_now)
    (λ at agreed. c.in_err-left.ensures.crash told_now start.world at agreed)
    (c.loop-left.invariant.serving told start first lines serving))

pub loop-left-preserved : goal.loop-left-preserved
loop-left-preserved g c = record {
  told = c.in_ok-left.ensures.keeps.told ∙ c.loop-left.invariant.told;
  never_fails = c.in_ok-left.ensures.keeps.never_fails ∙ c.loop-left.invariant.never_fails;
  slots = c.in_ok-left.ensures.keeps.slots ∙ c.loop-left.invariant.slots;
  faults = c.in_ok-left.ensures.keeps.quiet ∙ c.loop-left.invariant.faults;
  can = c.in_ok-left.ensures.can;
  none = λ over. c.in_ok-left.ensures.none (ap (λ (b : Bool). Ok b) (was_true c.in_ok-left.field-0 over));
  input = λ told. (c.in_ok-left.ensures.silent (subst (λ (b : Bool). IsTrue b) (sym c.loop-left.invariant.told) told)).input ∙ c.loop-left.invariant.input told;
  serving = λ told start first lines serving.
      let s = g.met.S.Service in
      let u = c.loop-left.service in
      let now = g.B.Board.sight c.loop-left.board in
      let told_now : IsTrue now.told = subst (λ (b : Bool). IsTrue b) (sym c.loop-left.invariant.told) told in
      tidied g.S.Service.machine (g.S.Service.agrees start.world u) (s.owes start.world u)
      start first now (g.B.Board.sight c.tidy.new.board) lines (g.S.Service.agrees start.world c.tidy.new.self)
      (c.in_ok-left.ensures.inside told_now) (c.in_ok-left.ensures.silent told_now)
      (λ at agreed. c.in_ok-left.ensures.crash told_now start.world at agreed)
      (λ at agreed. c.in_ok-left.ensures.agreed told_now start.world at agreed)
      (c.loop-left.invariant.serving told start first lines serving);
}
  where
    was_true : (b : Bool) → not b ≡ false → b ≡ true
    was_true true is = refl
    was_true false is = sym is

pub returns-clause-served : goal.returns-clause-served
returns-clause-served g c = λ told start first lines serving.
    let s = g.met.S.Service in
    let u = c.loop-left.service in
    let now = g.B.Board.sight c.loop-left.board in
    let told_now : IsTrue now.told = subst (λ (b : Bool). IsTrue b) (sym c.loop-left.invariant.told) told in
    on_both c.sync.result
    (serving_still g.S.Service.machine (g.S.Service.agrees start.world u) (s.owes start.world u)
    start first now (g.B.Board.sight c.sync.new.board) lines Sync tt (λ mid step. sync_said now.world mid step) (λ was. sync_turn g.S.Service.machine start first now.world) (c.sync.ensures.syncs told_now).called
    (c.loop-left.invariant.serving told start first lines serving))

pub returns-clause-cut : goal.returns-clause-cut
returns-clause-cut g c = λ told start first lines serving.
    let s = g.met.S.Service in
    let u = c.loop-left.service in
    let now = g.B.Board.sight c.loop-left.board in
    let told_now : IsTrue now.told = subst (λ (b : Bool). IsTrue b) (sym c.loop-left.invariant.told) told in
    on_err c.sync.result
    (cut_between g.S.Service.machine (g.S.Service.agrees start.world u) (s.owes start.world u)
    start first (g.B.Board.sight c.sync.new.board) lines
    (serving_still g.S.Service.machine (g.S.Service.agrees start.world u) (s.owes start.world u)
    start first now (g.B.Board.sight c.sync.new.board) lines Sync tt (λ mid step. sync_said now.world mid step) (λ was. sync_turn g.S.Service.machine start first now.world) (c.sync.ensures.syncs told_now).called
    (c.loop-left.invariant.serving told start first lines serving)))

pub returns-clause-synced : goal.returns-clause-synced
returns-clause-synced g c = λ told. (c.sync.ensures.syncs (subst (λ (b : Bool). IsTrue b) (sym c.loop-left.invariant.told) told)).synced
