use Rattle.std.proofs.Common.{IsTrue, List, Ok, Err, sym, ◌∙◌, ap, subst}
use Rattle.std.specs.List.{Contains}
use Rattle.ls_board.specs.Reach.{AllTouchOnly}
use Rattle.ls_board.specs.Runs.{CanRun, FailedIn}
use Rattle.ls_formats.specs.declared.parts.Parts.{Parts}
use Rattle.ls_record.specs.Rows.{Rec}
use Rattle.ls_change.specs.Work.{next_of}
use Rattle.ls_protector.specs.Clear.{NamesParts}
use Rattle.ls_exchange.specs.Exchanges.{Exchanged, plain, new_parts}
use Rattle.ls_exchange.specs.Turns.{DraftsAreClear, RetiredAreClear, storage}
use Rattle.ls_exchange.proofs.ExchangeLemmas.{can_build, others_stored, drafts_clear, after_stored, retire_clear}
use Rattle.ls_exchange.proofs.StageLemmas.{built_as, cleared_as, tried_as, made_as, unbuilt_keeps, unbuilt_failed, unbuilt_cut, unbuilt_crash, can_commit, tried_cut, tried_crash, tried_keeps, tried_failed, can_clear, last_cut, last_crash, last_broken, last_failed, all_done, all_durable, all_ready}
use Rattle.ls_exchange.proofs.running.exchange.Goals as goal

-- ---- what is built

pub build_all-requires-clause-run : goal.build_all-requires-clause-run
build_all-requires-clause-run g c =
    let s0 = g.B.Board.sight c.args.board.now in
    subst (λ (y : Exchanged). CanRun s0 (plain y).before) (sym c.work.view_is) (can_build s0 c.args.settings.now c.args.work c.requires.room c.requires.quiet)

pub build_all-requires-clause-clear : goal.build_all-requires-clause-clear
build_all-requires-clause-clear g c =
    let s0 = g.B.Board.sight c.args.board.now in
    subst (λ (y : Exchanged). IsTrue s0.told → DraftsAreClear s0.world y.drafts) (sym c.work.view_is) (drafts_clear s0 c.args.settings.now c.args.work c.requires.room c.requires.quiet c.requires.fresh)

pub build_all-requires-clause-stored : goal.build_all-requires-clause-stored
build_all-requires-clause-stored g c =
    let s0 = g.B.Board.sight c.args.board.now in
    subst (λ (y : Exchanged). IsTrue s0.told → AllTouchOnly storage y.others) (sym c.work.view_is) (others_stored s0 c.args.settings.now c.args.work c.requires.room c.requires.quiet)

pub returns-in-Err-clause-keeps : goal.returns-in-Err-clause-keeps
returns-in-Err-clause-keeps g c =
    let s0 = g.B.Board.sight c.args.board.now in
    let s1 = g.B.Board.sight c.build_all.new.board in
    let broken = built_as _ c.args.work c.work.view_is s0 s1 (Err c.in-Err.part) c.in-Err.ensures.runs in
    unbuilt_keeps s0 c.args.settings.now c.args.work c.requires.quiet s1 c.in-Err.part broken

pub returns-in-Err-clause-failed : goal.returns-in-Err-clause-failed
returns-in-Err-clause-failed g c =
    let s0 = g.B.Board.sight c.args.board.now in
    let s1 = g.B.Board.sight c.build_all.new.board in
    let broken = built_as _ c.args.work c.work.view_is s0 s1 (Err c.in-Err.part) c.in-Err.ensures.runs in
    unbuilt_failed s0 c.args.settings.now c.args.work c.requires.quiet s1 c.in-Err.part broken

pub returns-in-Err-clause-cut : goal.returns-in-Err-clause-cut
returns-in-Err-clause-cut g c =
    let s0 = g.B.Board.sight c.args.board.now in
    let s1 = g.B.Board.sight c.build_all.new.board in
    let broken = built_as _ c.args.work c.work.view_is s0 s1 (Err c.in-Err.part) c.in-Err.ensures.runs in
    unbuilt_cut s0 c.args.settings.now c.args.work c.requires.quiet s1 c.in-Err.part broken

pub returns-in-Err-clause-crash : goal.returns-in-Err-clause-crash
returns-in-Err-clause-crash g c =
    let s0 = g.B.Board.sight c.args.board.now in
    let s1 = g.B.Board.sight c.build_all.new.board in
    let broken = built_as _ c.args.work c.work.view_is s0 s1 (Err c.in-Err.part) c.in-Err.ensures.runs in
    unbuilt_crash s0 c.args.settings.now c.args.work c.requires.quiet s1 c.in-Err.part broken

-- ---- the commit

pub commit-requires-clause-ready : goal.commit-requires-clause-ready
commit-requires-clause-ready g c =
    let s0 = g.B.Board.sight c.args.board.now in
    let s1 = g.B.Board.sight c.build_all.new.board in
    let built = built_as _ c.args.work c.work.view_is s0 s1 (Ok tt) c.in_default.ensures.runs in
    can_commit s0 c.args.settings.now c.args.work c.requires.quiet s1 built

pub returns-in-Err-commit-clause-keeps : goal.returns-in-Err-commit-clause-keeps
returns-in-Err-commit-clause-keeps g c =
    let s0 = g.B.Board.sight c.args.board.now in
    let s1 = g.B.Board.sight c.build_all.new.board in
    let s2 = g.B.Board.sight c.commit-2.new.board in
    let built = built_as _ c.args.work c.work.view_is s0 s1 (Ok tt) c.in_default.ensures.runs in
    tried_keeps s0 c.args.settings.now c.args.work c.requires.quiet s1 built s2 c.in-Err-commit.part c.in-Err-commit.ensures.keeps

pub returns-in-Err-commit-clause-failed : goal.returns-in-Err-commit-clause-failed
returns-in-Err-commit-clause-failed g c =
    let s0 = g.B.Board.sight c.args.board.now in
    let s1 = g.B.Board.sight c.build_all.new.board in
    let s2 = g.B.Board.sight c.commit-2.new.board in
    let built = built_as _ c.args.work c.work.view_is s0 s1 (Ok tt) c.in_default.ensures.runs in
    let failed = subst (λ (y : Exchanged). FailedIn s1 y.commit.actions c.in-Err-commit.part s2) c.work.view_is c.in-Err-commit.ensures.failed in
    tried_failed s0 c.args.settings.now c.args.work c.requires.quiet s1 built s2 c.in-Err-commit.part failed

pub returns-in-Err-commit-clause-cut : goal.returns-in-Err-commit-clause-cut
returns-in-Err-commit-clause-cut g c =
    let s0 = g.B.Board.sight c.args.board.now in
    let s1 = g.B.Board.sight c.build_all.new.board in
    let s2 = g.B.Board.sight c.commit-2.new.board in
    let built = built_as _ c.args.work c.work.view_is s0 s1 (Ok tt) c.in_default.ensures.runs in
    let tried = tried_as _ c.args.work c.work.view_is s1 s2 c.args.settings.now (record { crash = c.commit-2.ensures.crash; but = c.commit-2.ensures.but }) in
    tried_cut s0 c.args.settings.now c.args.work c.requires.quiet s1 built s2 tried

pub returns-in-Err-commit-clause-crash : goal.returns-in-Err-commit-clause-crash
returns-in-Err-commit-clause-crash g c =
    let s0 = g.B.Board.sight c.args.board.now in
    let s1 = g.B.Board.sight c.build_all.new.board in
    let s2 = g.B.Board.sight c.commit-2.new.board in
    let built = built_as _ c.args.work c.work.view_is s0 s1 (Ok tt) c.in_default.ensures.runs in
    let tried = tried_as _ c.args.work c.work.view_is s1 s2 c.args.settings.now (record { crash = c.commit-2.ensures.crash; but = c.commit-2.ensures.but }) in
    tried_crash s0 c.args.settings.now c.args.work c.requires.quiet s1 built s2 tried

-- ---- behind it

pub clear_away-requires-clause-run : goal.clear_away-requires-clause-run
clear_away-requires-clause-run g c =
    let s0 = g.B.Board.sight c.args.board.now in
    let s1 = g.B.Board.sight c.build_all.new.board in
    let s2 = g.B.Board.sight c.commit-2.new.board in
    let built = built_as _ c.args.work c.work.view_is s0 s1 (Ok tt) c.in_default.ensures.runs in
    let made = made_as _ c.args.work c.work.view_is s1 s2 c.args.settings.now (record { tried = record { crash = c.commit-2.ensures.crash; but = c.commit-2.ensures.but }; did = c.in-Ok.ensures.did; ready = c.in-Ok.ensures.ready }) in
    subst (λ (y : Exchanged). CanRun s2 (plain y).after) (sym c.work.view_is) (can_clear s0 c.args.settings.now c.args.work c.requires.quiet s1 built s2 made c.requires.room)

pub clear_away-requires-clause-clear : goal.clear_away-requires-clause-clear
clear_away-requires-clause-clear g c =
    let s0 = g.B.Board.sight c.args.board.now in
    let s1 = g.B.Board.sight c.build_all.new.board in
    let s2 = g.B.Board.sight c.commit-2.new.board in
    let built = built_as _ c.args.work c.work.view_is s0 s1 (Ok tt) c.in_default.ensures.runs in
    let made = made_as _ c.args.work c.work.view_is s1 s2 c.args.settings.now (record { tried = record { crash = c.commit-2.ensures.crash; but = c.commit-2.ensures.but }; did = c.in-Ok.ensures.did; ready = c.in-Ok.ensures.ready }) in
    subst (λ (y : Exchanged). IsTrue s2.told → RetiredAreClear s2.world y.retire) (sym c.work.view_is)
    (retire_clear s0 c.args.settings.now c.args.work c.requires.room c.requires.quiet s1 built.did s2 made.did made.ready made.tried.but c.requires.left_out)

pub clear_away-requires-clause-stored : goal.clear_away-requires-clause-stored
clear_away-requires-clause-stored g c =
    let s0 = g.B.Board.sight c.args.board.now in
    let s1 = g.B.Board.sight c.build_all.new.board in
    let s2 = g.B.Board.sight c.commit-2.new.board in
    let built = built_as _ c.args.work c.work.view_is s0 s1 (Ok tt) c.in_default.ensures.runs in
    let made = made_as _ c.args.work c.work.view_is s1 s2 c.args.settings.now (record { tried = record { crash = c.commit-2.ensures.crash; but = c.commit-2.ensures.but }; did = c.in-Ok.ensures.did; ready = c.in-Ok.ensures.ready }) in
    subst (λ (y : Exchanged). IsTrue s2.told → AllTouchOnly storage y.after) (sym c.work.view_is)
    (after_stored s0 c.args.settings.now c.args.work c.requires.room c.requires.quiet s1 built.did s2 made.did made.ready made.tried.but)

pub returns-in-Err-clear_away-clause-keeps : goal.returns-in-Err-clear_away-clause-keeps
returns-in-Err-clear_away-clause-keeps g c =
    let s0 = g.B.Board.sight c.args.board.now in
    let s1 = g.B.Board.sight c.build_all.new.board in
    let s2 = g.B.Board.sight c.commit-2.new.board in
    let s3 = g.B.Board.sight c.clear_away.new.board in
    let built = built_as _ c.args.work c.work.view_is s0 s1 (Ok tt) c.in_default.ensures.runs in
    let made = made_as _ c.args.work c.work.view_is s1 s2 c.args.settings.now (record { tried = record { crash = c.commit-2.ensures.crash; but = c.commit-2.ensures.but }; did = c.in-Ok.ensures.did; ready = c.in-Ok.ensures.ready }) in
    let broken = cleared_as _ c.args.work c.work.view_is s2 s3 (Err c.in-Err-clear_away.part) c.in-Err-clear_away.ensures.runs in
    last_broken s0 c.args.settings.now c.args.work c.requires.quiet s1 built s2 made s3 c.in-Err-clear_away.part broken

pub returns-in-Err-clear_away-clause-failed : goal.returns-in-Err-clear_away-clause-failed
returns-in-Err-clear_away-clause-failed g c =
    let s0 = g.B.Board.sight c.args.board.now in
    let s1 = g.B.Board.sight c.build_all.new.board in
    let s2 = g.B.Board.sight c.commit-2.new.board in
    let s3 = g.B.Board.sight c.clear_away.new.board in
    let built = built_as _ c.args.work c.work.view_is s0 s1 (Ok tt) c.in_default.ensures.runs in
    let made = made_as _ c.args.work c.work.view_is s1 s2 c.args.settings.now (record { tried = record { crash = c.commit-2.ensures.crash; but = c.commit-2.ensures.but }; did = c.in-Ok.ensures.did; ready = c.in-Ok.ensures.ready }) in
    let broken = cleared_as _ c.args.work c.work.view_is s2 s3 (Err c.in-Err-clear_away.part) c.in-Err-clear_away.ensures.runs in
    last_failed s0 c.args.settings.now c.args.work c.requires.quiet s1 built s2 made s3 c.in-Err-clear_away.part broken

pub returns-in-Err-clear_away-clause-cut : goal.returns-in-Err-clear_away-clause-cut
returns-in-Err-clear_away-clause-cut g c =
    let s0 = g.B.Board.sight c.args.board.now in
    let s1 = g.B.Board.sight c.build_all.new.board in
    let s2 = g.B.Board.sight c.commit-2.new.board in
    let s3 = g.B.Board.sight c.clear_away.new.board in
    let built = built_as _ c.args.work c.work.view_is s0 s1 (Ok tt) c.in_default.ensures.runs in
    let made = made_as _ c.args.work c.work.view_is s1 s2 c.args.settings.now (record { tried = record { crash = c.commit-2.ensures.crash; but = c.commit-2.ensures.but }; did = c.in-Ok.ensures.did; ready = c.in-Ok.ensures.ready }) in
    let broken = cleared_as _ c.args.work c.work.view_is s2 s3 (Err c.in-Err-clear_away.part) c.in-Err-clear_away.ensures.runs in
    last_cut s0 c.args.settings.now c.args.work c.requires.quiet s1 built s2 made s3 (Err c.in-Err-clear_away.part) broken

pub returns-in-Err-clear_away-clause-crash : goal.returns-in-Err-clear_away-clause-crash
returns-in-Err-clear_away-clause-crash g c =
    let s0 = g.B.Board.sight c.args.board.now in
    let s1 = g.B.Board.sight c.build_all.new.board in
    let s2 = g.B.Board.sight c.commit-2.new.board in
    let s3 = g.B.Board.sight c.clear_away.new.board in
    let built = built_as _ c.args.work c.work.view_is s0 s1 (Ok tt) c.in_default.ensures.runs in
    let made = made_as _ c.args.work c.work.view_is s1 s2 c.args.settings.now (record { tried = record { crash = c.commit-2.ensures.crash; but = c.commit-2.ensures.but }; did = c.in-Ok.ensures.did; ready = c.in-Ok.ensures.ready }) in
    let broken = cleared_as _ c.args.work c.work.view_is s2 s3 (Err c.in-Err-clear_away.part) c.in-Err-clear_away.ensures.runs in
    last_crash s0 c.args.settings.now c.args.work c.requires.quiet s1 built s2 made s3 (Err c.in-Err-clear_away.part) broken

pub bind_all-requires-clause-names : goal.bind_all-requires-clause-names
bind_all-requires-clause-names g c =
    λ p has.
    let its = subst (λ (l : List Parts). Contains l p) (c.in_default.ensures.built ∙ ap (λ (y : Exchanged). new_parts y.drafts) c.work.view_is) has in
    subst (λ (r : Rec). NamesParts r p) (sym (c.in-Ok.ensures.named ∙ ap (λ (y : Exchanged). next_of (plain y)) c.work.view_is)) (c.requires.names p its)

pub returns-clause-did : goal.returns-clause-did
returns-clause-did g c =
    let s0 = g.B.Board.sight c.args.board.now in
    let s1 = g.B.Board.sight c.build_all.new.board in
    let s2 = g.B.Board.sight c.commit-2.new.board in
    let s3 = g.B.Board.sight c.clear_away.new.board in
    let built = built_as _ c.args.work c.work.view_is s0 s1 (Ok tt) c.in_default.ensures.runs in
    let made = made_as _ c.args.work c.work.view_is s1 s2 c.args.settings.now (record { tried = record { crash = c.commit-2.ensures.crash; but = c.commit-2.ensures.but }; did = c.in-Ok.ensures.did; ready = c.in-Ok.ensures.ready }) in
    let cleared = cleared_as _ c.args.work c.work.view_is s2 s3 (Ok tt) c.in_default-clear_away.ensures.runs in
    all_done s0 c.args.settings.now c.args.work c.requires.quiet s1 built s2 made s3 cleared

pub returns-clause-cut : goal.returns-clause-cut
returns-clause-cut g c =
    let s0 = g.B.Board.sight c.args.board.now in
    let s1 = g.B.Board.sight c.build_all.new.board in
    let s2 = g.B.Board.sight c.commit-2.new.board in
    let s3 = g.B.Board.sight c.clear_away.new.board in
    let built = built_as _ c.args.work c.work.view_is s0 s1 (Ok tt) c.in_default.ensures.runs in
    let made = made_as _ c.args.work c.work.view_is s1 s2 c.args.settings.now (record { tried = record { crash = c.commit-2.ensures.crash; but = c.commit-2.ensures.but }; did = c.in-Ok.ensures.did; ready = c.in-Ok.ensures.ready }) in
    let cleared = cleared_as _ c.args.work c.work.view_is s2 s3 (Ok tt) c.in_default-clear_away.ensures.runs in
    last_cut s0 c.args.settings.now c.args.work c.requires.quiet s1 built s2 made s3 (Ok tt) cleared

pub returns-clause-crash : goal.returns-clause-crash
returns-clause-crash g c =
    let s0 = g.B.Board.sight c.args.board.now in
    let s1 = g.B.Board.sight c.build_all.new.board in
    let s2 = g.B.Board.sight c.commit-2.new.board in
    let s3 = g.B.Board.sight c.clear_away.new.board in
    let built = built_as _ c.args.work c.work.view_is s0 s1 (Ok tt) c.in_default.ensures.runs in
    let made = made_as _ c.args.work c.work.view_is s1 s2 c.args.settings.now (record { tried = record { crash = c.commit-2.ensures.crash; but = c.commit-2.ensures.but }; did = c.in-Ok.ensures.did; ready = c.in-Ok.ensures.ready }) in
    let cleared = cleared_as _ c.args.work c.work.view_is s2 s3 (Ok tt) c.in_default-clear_away.ensures.runs in
    last_crash s0 c.args.settings.now c.args.work c.requires.quiet s1 built s2 made s3 (Ok tt) cleared

pub returns-clause-done : goal.returns-clause-done
returns-clause-done g c =
    let s0 = g.B.Board.sight c.args.board.now in
    let s1 = g.B.Board.sight c.build_all.new.board in
    let s2 = g.B.Board.sight c.commit-2.new.board in
    let s3 = g.B.Board.sight c.clear_away.new.board in
    let built = built_as _ c.args.work c.work.view_is s0 s1 (Ok tt) c.in_default.ensures.runs in
    let made = made_as _ c.args.work c.work.view_is s1 s2 c.args.settings.now (record { tried = record { crash = c.commit-2.ensures.crash; but = c.commit-2.ensures.but }; did = c.in-Ok.ensures.did; ready = c.in-Ok.ensures.ready }) in
    let cleared = cleared_as _ c.args.work c.work.view_is s2 s3 (Ok tt) c.in_default-clear_away.ensures.runs in
    all_durable s0 c.args.settings.now c.args.work c.requires.quiet s1 built s2 made s3 cleared

pub returns-clause-ready : goal.returns-clause-ready
returns-clause-ready g c =
    let s0 = g.B.Board.sight c.args.board.now in
    let s1 = g.B.Board.sight c.build_all.new.board in
    let s2 = g.B.Board.sight c.commit-2.new.board in
    let s3 = g.B.Board.sight c.clear_away.new.board in
    let built = built_as _ c.args.work c.work.view_is s0 s1 (Ok tt) c.in_default.ensures.runs in
    let made = made_as _ c.args.work c.work.view_is s1 s2 c.args.settings.now (record { tried = record { crash = c.commit-2.ensures.crash; but = c.commit-2.ensures.but }; did = c.in-Ok.ensures.did; ready = c.in-Ok.ensures.ready }) in
    let cleared = cleared_as _ c.args.work c.work.view_is s2 s3 (Ok tt) c.in_default-clear_away.ensures.runs in
    all_ready s0 c.args.settings.now c.args.work c.requires.quiet s1 built s2 made s3 cleared
