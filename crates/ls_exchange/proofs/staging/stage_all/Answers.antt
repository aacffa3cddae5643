use Rattle.std.proofs.Common.{◌∙◌, ap, vec_len, vec_capacity}
use Rattle.ls_exchange.specs.Exchanges.{new_parts, staging_of}
use Rattle.ls_exchange.proofs.ListLemmas.{moved, room_left}
use Rattle.ls_exchange.proofs.TurnLemmas.{first_can, goes_on, breaks_off, rest_can, rest_clear, ends}
use Rattle.ls_exchange.proofs.staging.stage_all.Goals as goal

pub stage_one-requires-clause-run : goal.stage_one-requires-clause-run
stage_one-requires-clause-run g c =
    first_can (λ draft. draft.plan) (g.B.Board.sight c.loop-draft.board) c.loop-draft.drafts.items c.take_first.new.list.items c.in-Some.draft c.in-Some.ensures.taken c.loop-draft.invariant.run

pub returns-in-Err-clause-runs : goal.returns-in-Err-clause-runs
returns-in-Err-clause-runs g c =
    breaks_off (λ draft. draft.plan) (g.B.Board.sight c.loop-draft.board) c.loop-draft.drafts.items c.take_first.new.list.items c.in-Some.draft c.in-Some.ensures.taken
    (g.B.Board.sight c.args.board.now) (g.B.Board.sight c.stage_one.new.board) (staging_of c.args.drafts.items) c.loop-draft.invariant.completes c.in-Err.part c.in-Err.ensures.runs

pub loop-draft-preserved : goal.loop-draft-preserved
loop-draft-preserved g c =
    let now = g.B.Board.sight c.loop-draft.board in
    let next = g.B.Board.sight c.stage_one.new.board in
    let left = c.loop-draft.drafts.items in
    let rest = c.take_first.new.list.items in
    let draft = c.in-Some.draft in
    let one = c.in_default-stage_one.ensures in
    record {
      completes =
          goes_on (λ draft. draft.plan) now left rest draft c.in-Some.ensures.taken (g.B.Board.sight c.args.board.now) next (staging_of c.args.drafts.items) c.loop-draft.invariant.completes one.runs;
      run = rest_can (λ draft. draft.plan) now left rest draft c.in-Some.ensures.taken next one.runs c.loop-draft.invariant.run;
      clear = rest_clear (λ draft. draft.plan) now left rest draft c.in-Some.ensures.taken next one.runs (λ draft. draft.parts) c.loop-draft.invariant.clear;
      put =
          moved c.loop-draft.staged.items c.stage_one.new.staged.items (new_parts left) (new_parts rest) draft.parts (ap new_parts c.in-Some.ensures.taken) one.put
          ∙ c.loop-draft.invariant.put;
      room =
          room_left left rest draft (vec_len c.loop-draft.staged) (vec_len c.stage_one.new.staged) (vec_capacity c.loop-draft.staged) (vec_capacity c.stage_one.new.staged)
          c.in-Some.ensures.taken one.len one.capacity c.loop-draft.invariant.room;
    }

pub returns-clause-runs : goal.returns-clause-runs
returns-clause-runs g c =
    ends (λ draft. draft.plan) (g.B.Board.sight c.args.board.now) (g.B.Board.sight c.loop-draft.board) (staging_of c.args.drafts.items) c.loop-draft.drafts.items c.in_default.ensures.taken.0 c.loop-draft.invariant.completes
