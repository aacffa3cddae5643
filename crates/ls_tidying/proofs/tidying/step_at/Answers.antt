use Rattle.std.proofs.Common.{◌≡◌, refl, sym, ◌∙◌, subst, true, false, IsTrue, [], ◌↔◌, Bool}
use Rattle.ls_tidying.proofs.StepLemmas.{left_gone, step_done, which_gone, which_still, step_failed, step_lacked, still_there, tidied_gone, tidied_still}
use Rattle.ls_tidying.proofs.TidyingLemmas.{can_roomed, unnamed_on}
use Rattle.ls_tidying.proofs.PlaceLemmas.{its_files}
use Rattle.ls_tidying.proofs.tidying.step_at.Goals as goal

pub returns-then-is_err : goal.returns-then-is_err
returns-then-is_err g c = record {
  tidies = step_lacked (g.B.Board.sight c.args.board.now) (g.B.Board.sight c.ready.new.self) 1 c.longest-bytes.result c.ready.result c.ready.ensures c.args.x.now c.args.i _ refl refl;
}

pub tidy_step-requires-clause-unnamed : goal.tidy_step-requires-clause-unnamed
tidy_step-requires-clause-unnamed g c =
    unnamed_on (g.B.Board.sight c.ready.new.self) c.args.x.now
    (can_roomed (g.B.Board.sight c.args.board.now) (g.B.Board.sight c.ready.new.self) 1 c.longest-bytes.result c.ready.result c.ready.ensures c.args.x.now c.requires.can) c.index_mut.result.now.names
    (its_files c.index_mut.result.now c.index_mut.result.now c.args.x.now.retired.items c.args.i c.requires.there c.index_mut.ensures.value)

pub returns-in-Err : goal.returns-in-Err
returns-in-Err g c = record {
  tidies = step_failed (g.B.Board.sight c.args.board.now) (g.B.Board.sight c.ready.new.self) 1 c.longest-bytes.result c.ready.result c.ready.ensures c.args.x.now c.args.i (g.B.Board.sight c.tidy_step.new.board) _ refl
      c.requires.there c.index_mut.result.now c.index_mut.ensures.value c.requires.can c.tidy_step.ensures.crash c.tidy_step.ensures.but c.in-Err.part refl c.in-Err.ensures.failed c.in-Err.ensures.keeps;
}

pub returns-then-gone : goal.returns-then-gone
returns-then-gone g c =
    let q = c.index_mut.result.now in
    let empty = subst (λ (b : Bool). IsTrue b ↔ (c.tidy_step.new.retired.names ≡ [])) c.if-gone.true c.in-Ok.ensures.empty in
    let all = left_gone c.args.x.now.retired.items c.args.i c.requires.there q c.tidy_step.new.retired c.index_mut.ensures.value c.in-Ok.ensures.rest c.remove.new.self.items empty c.remove.ensures.by_index.2 in
    let tidied = tidied_gone c.args.x.now.retired.items c.args.i c.requires.there q c.tidy_step.new.retired c.index_mut.ensures.value c.in-Ok.ensures.rest empty in
    record {
      tidies = step_done (g.B.Board.sight c.args.board.now) (g.B.Board.sight c.ready.new.self) 1 c.longest-bytes.result c.ready.result c.ready.ensures c.args.x.now c.args.i (g.B.Board.sight c.tidy_step.new.board) _ refl
          c.requires.there q c.index_mut.ensures.value c.requires.can c.tidy_step.ensures.crash c.tidy_step.ensures.but c.in-Ok.gone refl c.in-Ok.ensures.did c.in-Ok.ensures.keeps (all ∙ sym tidied)
          (which_gone c.in-Ok.gone c.args.x.now.retired.items c.remove.new.self.items c.args.i c.if-gone.true all);
    }

pub returns-else-gone : goal.returns-else-gone
returns-else-gone g c =
    let q = c.index_mut.result.now in
    let r = c.tidy_step.new.retired in
    let some = subst (λ (b : Bool). IsTrue b ↔ (c.tidy_step.new.retired.names ≡ [])) c.if-gone.false c.in-Ok.ensures.empty in
    let left = tidied_still c.args.x.now.retired.items c.args.i c.requires.there q r c.index_mut.ensures.value c.in-Ok.ensures.rest some in
    let there = still_there c.args.x.now.retired.items c.args.i c.requires.there q r c.index_mut.ensures.value c.in-Ok.ensures.rest in
    record {
      tidies = step_done (g.B.Board.sight c.args.board.now) (g.B.Board.sight c.ready.new.self) 1 c.longest-bytes.result c.ready.result c.ready.ensures c.args.x.now c.args.i (g.B.Board.sight c.tidy_step.new.board) _ refl
          c.requires.there q c.index_mut.ensures.value c.requires.can c.tidy_step.ensures.crash c.tidy_step.ensures.but c.in-Ok.gone refl c.in-Ok.ensures.did c.in-Ok.ensures.keeps left
          (which_still c.in-Ok.gone c.args.x.now.retired.items _ c.args.i c.if-gone.false there);
    }
