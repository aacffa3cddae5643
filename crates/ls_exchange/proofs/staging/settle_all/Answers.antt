use Rattle.std.proofs.Common.{◌∷◌, [], ◌∙◌, vec_len, vec_capacity}
use Rattle.ls_board.specs.declared.action.Action.TheVariants.{Sync}
use Rattle.ls_exchange.specs.Exchanges.{settling_of}
use Rattle.ls_exchange.proofs.ListLemmas.{moved, room_left}
use Rattle.ls_exchange.proofs.TurnLemmas.{goes_on, breaks_off, rest_can, ends}
use Rattle.ls_exchange.proofs.staging.settle_all.Goals as goal

pub returns-in-Err-clause-runs : goal.returns-in-Err-clause-runs
returns-in-Err-clause-runs g c =
    breaks_off (λ parts. Sync ∷ []) (g.B.Board.sight c.loop-one.board) c.loop-one.staged.items c.take_first.new.list.items c.in-Some.one c.in-Some.ensures.taken
    (g.B.Board.sight c.args.board.now) (g.B.Board.sight c.settle_one.new.board) (settling_of c.args.staged.items) c.loop-one.invariant.completes c.in-Err.part c.in-Err.ensures.runs

pub loop-one-preserved : goal.loop-one-preserved
loop-one-preserved g c =
    let now = g.B.Board.sight c.loop-one.board in
    let next = g.B.Board.sight c.settle_one.new.board in
    let left = c.loop-one.staged.items in
    let rest = c.take_first.new.list.items in
    let one = c.in_default-settle_one.ensures in
    record {
      completes =
          goes_on (λ parts. Sync ∷ []) now left rest c.in-Some.one c.in-Some.ensures.taken (g.B.Board.sight c.args.board.now) next (settling_of c.args.staged.items) c.loop-one.invariant.completes one.runs;
      run = rest_can (λ parts. Sync ∷ []) now left rest c.in-Some.one c.in-Some.ensures.taken next one.runs c.loop-one.invariant.run;
      put = moved c.loop-one.durable.items c.settle_one.new.durable.items left rest c.in-Some.one c.in-Some.ensures.taken one.put ∙ c.loop-one.invariant.put;
      room =
          room_left left rest c.in-Some.one (vec_len c.loop-one.durable) (vec_len c.settle_one.new.durable) (vec_capacity c.loop-one.durable) (vec_capacity c.settle_one.new.durable)
          c.in-Some.ensures.taken one.len one.capacity c.loop-one.invariant.room;
    }

pub returns-clause-runs : goal.returns-clause-runs
returns-clause-runs g c =
    ends (λ parts. Sync ∷ []) (g.B.Board.sight c.args.board.now) (g.B.Board.sight c.loop-one.board) (settling_of c.args.staged.items) c.loop-one.staged.items c.in_default.ensures.taken.0 c.loop-one.invariant.completes
