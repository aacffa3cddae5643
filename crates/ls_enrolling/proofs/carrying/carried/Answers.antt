use Rattle.std.proofs.Common.{IsTrue, sym, subst}
use Rattle.std.specs.Prelude.{Err}
use Rattle.ls_board.specs.declared.action.BoardFault.TheVariants.{Memory}
use Rattle.ls_drawing.specs.Drawing.{stop_of}
use Rattle.ls_drawing.proofs.PassingLemmas.{passes_lacking}
use Rattle.ls_standing.specs.Named.{credential_of}
use Rattle.ls_standing.specs.Quiet.{IsUnnamedProtector}
use Rattle.ls_turn.specs.declared.session.Session.{Session}
use Rattle.ls_turn.specs.declared.stop.Stop.{Stop}
use Rattle.ls_turn.specs.Agreeing.{retired_files}
use Rattle.ls_turn.specs.Serving.{Serves, Always}
use Rattle.ls_enrolling.specs.declared.planned.Planned.{Planned}
use Rattle.ls_enrolling.specs.Enrolling.{row_then}
use Rattle.ls_enrolling.specs.Planning.{chosen_of}
use Rattle.ls_enrolling.proofs.CarryLemmas.{readied_itself, new_numbers, is_sound, is_prepared, are_named, is_left_out, are_files, keeps_named, is_waiting, is_quiet, is_fresh, is_left, carries}
use Rattle.ls_enrolling.proofs.carrying.carried.Goals as goal

pub returns-in-Err-clause-serves : goal.returns-in-Err-clause-serves
returns-in-Err-clause-serves g c = λ p turn is.
    let b = g.B.Board.sight c.args.board.now in
    let x = c.args.x.now in
    subst (λ (e : Stop). Serves b x turn Always (Err e) c.stop_by.new.x b) (sym c.stop_by.ensures.stop)
    (subst (λ (y : Session). Serves b x turn Always (Err (stop_of Memory)) y b) (sym c.stop_by.ensures.stopped) ((passes_lacking {T = Planned} b).stops x turn))

pub commit_change-requires : goal.commit_change-requires
commit_change-requires g c κs within =
    let b = g.B.Board.sight c.args.board.now in
    let x = c.args.x.now in
    let user = c.args.user in
    let escrow = c.args.escrow in
    let k = c.args.plan in
    let can = c.requires.can in
    let p = c.requires.planned in
    let work = c.in-Ok.work in
    let same = c.in-Ok.ensures.same in
    let free : IsTrue b.told → IsUnnamedProtector b.world x.settings.settled.rec (credential_of (row_then (chosen_of user escrow p.drawn k))) k.slot = λ told.
    c.a_new_place_is_clear.ensures.unnamed b x (retired_files x) (credential_of (row_then (chosen_of user escrow p.drawn k))) k.slot can told p.may.rules (new_numbers b x user escrow k p)
    (λ enrolled. p.plan.choice.chosen.even) p.plan.choice.place in
    let commits = c.commits_touch_settings_files_alone.ensures x.settings k.commit.to k.commit.actions p.plan.commit in
    let few = g.met.B.Board.slots_are_few c.args.board.now in
    let lens = g.met.B.Board.slots_are_told c.args.board.now in (
      within,
      (
        can,
        (
          readied_itself x,
          (
            is_sound b x user escrow k p can work same,
            (
              is_prepared b x user escrow k p can work same,
              (
                is_quiet b x user escrow k p can work same few lens free commits,
                (
                  is_fresh b x user escrow k p can work same few lens free commits,
                  (
                    are_named b x user escrow k p can work same,
                    (
                      λ told. is_left_out b x user escrow k p can work same,
                      (
                        are_files b x user escrow k p can work same,
                        (
                          keeps_named b x user escrow k p can work same,
                          (
                            is_waiting b x user escrow k p can work same,
                            is_left b x user escrow k p can work same few lens free commits,
                          ),
                        ),
                      ),
                    ),
                  ),
                ),
              ),
            ),
          ),
        ),
      ),
    )

pub returns-clause-serves : goal.returns-clause-serves
returns-clause-serves g c = λ p turn is.
    let b = g.B.Board.sight c.args.board.now in
    let x = c.args.x.now in
    let user = c.args.user in
    let escrow = c.args.escrow in
    let k = c.args.plan in
    let can = c.requires.can in
    let free : IsTrue b.told → IsUnnamedProtector b.world x.settings.settled.rec (credential_of (row_then (chosen_of user escrow p.drawn k))) k.slot = λ told.
    c.a_new_place_is_clear.ensures.unnamed b x (retired_files x) (credential_of (row_then (chosen_of user escrow p.drawn k))) k.slot can told p.may.rules (new_numbers b x user escrow k p)
    (λ enrolled. p.plan.choice.chosen.even) p.plan.choice.place in
    let commits = c.commits_touch_settings_files_alone.ensures x.settings k.commit.to k.commit.actions p.plan.commit in
    c.commit_change.ensures.serves turn
    (carries b x user escrow k p can c.in-Ok.work c.in-Ok.ensures.same (g.met.B.Board.slots_are_few c.args.board.now) (g.met.B.Board.slots_are_told c.args.board.now) free commits turn is)
