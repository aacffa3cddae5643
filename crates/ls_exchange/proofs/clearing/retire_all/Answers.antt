use Rattle.std.proofs.Common.{◌∷◌, [], ◌++◌, vec_len, vec_capacity}
use Rattle.ls_protector.specs.Parts.{erasing_of}
use Rattle.ls_exchange.specs.Exchanges.{retiring_of}
use Rattle.ls_exchange.proofs.ListLemmas.{put_behind, left_behind, room_left}
use Rattle.ls_exchange.proofs.TurnLemmas.{goes_on, breaks_off, rest_can, rest_clear, ends}
use Rattle.ls_exchange.proofs.clearing.retire_all.Goals as goal

pub returns-in-Err-clause-runs : goal.returns-in-Err-clause-runs
returns-in-Err-clause-runs g c =
    breaks_off erasing_of (g.B.Board.sight c.loop-named.board) c.loop-named.all.items c.take_first.new.list.items c.in-Some.named c.in-Some.ensures.taken
    (g.B.Board.sight c.args.board.now) (g.B.Board.sight c.retire_one.new.board) (retiring_of c.args.all.items) c.loop-named.invariant.completes c.in-Err.part c.in-Err.ensures.runs

pub loop-named-preserved : goal.loop-named-preserved
loop-named-preserved g c =
    let now = g.B.Board.sight c.loop-named.board in
    let next = g.B.Board.sight c.retire_one.new.board in
    let left = c.loop-named.all.items in
    let rest = c.take_first.new.list.items in
    let named = c.in-Some.named in
    let one = c.in_default-retire_one.ensures in
    let done = c.loop-named.invariant.done in
    record {
      completes = goes_on erasing_of now left rest named c.in-Some.ensures.taken (g.B.Board.sight c.args.board.now) next (retiring_of c.args.all.items) c.loop-named.invariant.completes one.runs;
      run = rest_can erasing_of now left rest named c.in-Some.ensures.taken next one.runs c.loop-named.invariant.run;
      clear = rest_clear erasing_of now left rest named c.in-Some.ensures.taken next one.runs (λ parts. parts) c.loop-named.invariant.clear;
      done = done ++ named ∷ [];
      put =
          put_behind c.args.retired.now.items c.loop-named.retired.items c.retire_one.new.retired.items c.args.all.items done left rest named c.in-Some.ensures.taken
          c.loop-named.invariant.put one.put;
      left =
          left_behind c.args.retired.now.items c.loop-named.retired.items c.retire_one.new.retired.items c.args.all.items done left rest named c.in-Some.ensures.taken
          c.loop-named.invariant.left;
      room =
          room_left left rest named (vec_len c.loop-named.retired) (vec_len c.retire_one.new.retired) (vec_capacity c.loop-named.retired) (vec_capacity c.retire_one.new.retired)
          c.in-Some.ensures.taken one.len one.capacity c.loop-named.invariant.room;
    }

pub returns-clause-runs : goal.returns-clause-runs
returns-clause-runs g c =
    ends erasing_of (g.B.Board.sight c.args.board.now) (g.B.Board.sight c.loop-named.board) (retiring_of c.args.all.items) c.loop-named.all.items c.in_default.ensures.taken.0 c.loop-named.invariant.completes
