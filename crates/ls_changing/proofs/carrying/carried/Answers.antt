use Rattle.std.proofs.Common.{◌≡◌, ◌++◌, ◌∷◌, IsTrue, refl, sym, ap, subst, ◌∙◌}
use Rattle.std.specs.Prelude.{Err}
use Rattle.ls_board.specs.declared.action.BoardFault.TheVariants.{Memory}
use Rattle.ls_drawing.specs.Drawing.{stop_of}
use Rattle.ls_standing.specs.Named.{credential_of}
use Rattle.ls_standing.specs.Quiet.{IsUnnamedProtector}
use Rattle.ls_vault.specs.Revealed.{shown_metrics}
use Rattle.ls_turn.specs.declared.session.Session.{Session}
use Rattle.ls_turn.specs.declared.stop.Stop.{Stop}
use Rattle.ls_turn.specs.Agreeing.{retired_files}
use Rattle.ls_turn.specs.Serving.{Serves, Always}
use Rattle.ls_changing.specs.declared.planned.Planned.{Planned}
use Rattle.ls_changing.specs.Keeping.{HasId}
use Rattle.ls_changing.specs.Planning.{chosen_of}
use Rattle.ls_changing.specs.Replacing.{row_then}
use Rattle.ls_changing.proofs.CarryLemmas.{new_numbers, gone_there, is_readied, is_sound, is_prepared, are_named, are_files, keeps_named, is_waiting, is_quiet, is_fresh, is_left_out, is_left, carries, ready_by, lacks}
use Rattle.ls_drawing.proofs.PassingLemmas.{passes_lacking}
use Rattle.ls_changing.proofs.carrying.carried.Goals as goal

pub take_named-gone-requires : goal.take_named-gone-requires
take_named-gone-requires g c = record {
  there = subst (λ (x : Session). HasId x.named.items c.args.plan.gone) (sym c.requires.1.0)
      (gone_there (g.B.Board.sight c.args.board.now) g.before c.args.user c.args.new.now c.args.plan c.requires.1.1.1 c.requires.1.1.0);
}

pub returns-in-Err-clause-serves : goal.returns-in-Err-clause-serves
returns-in-Err-clause-serves g c = λ p turn is.
    let b = g.B.Board.sight c.args.board.now in
    subst (λ (e : Stop). Serves b g.before turn Always (Err e) c.stop_by.new.x b) (sym c.stop_by.ensures.stop)
    (lacks b g.before _ c.stop_by.new.x turn (stop_of Memory) ((passes_lacking {T = Planned} b).stops g.before turn)
    (ap (λ (z : Session). z.slots) c.stop_by.ensures.stopped ∙ ap (λ (z : Session). z.slots) c.requires.1.0)
    (ap (λ (z : Session). z.boot) c.stop_by.ensures.stopped ∙ ap (λ (z : Session). z.boot) c.requires.1.0)
    (ap (λ (z : Session). z.stopped) c.stop_by.ensures.stopped))

pub commit_change-requires : goal.commit_change-requires
commit_change-requires g c = λ κs le.
    let b = g.B.Board.sight c.args.board.now in
    let new = c.args.new.now in
    let k = c.args.plan in
    let q = c.take_named-gone.result in
    let before = c.requires.1.0 in
    let can = c.requires.1.1.0 in
    let p = c.requires.1.1.1 in
    let taken = c.take_named-gone.ensures.taken in
    let split : g.before.named.items ≡ taken.0 ++ q ∷ taken.1 = ap (λ (z : Session). z.named.items) (sym before) ∙ taken.2 in
    let y : Session = record c.args.x.now { named = c.take_named-gone.new.named; opened = c.keep_metrics.new.opened } in
    let ready = ready_by g.before c.args.x.now y before refl taken.0 taken.1 c.args.user (shown_metrics new) taken.3
    c.keep_metrics.ensures.same in
    let work = c.in-Ok.work in
    let same = c.in-Ok.ensures.same in
    let free : IsTrue b.told → IsUnnamedProtector b.world g.before.settings.settled.rec (credential_of (row_then (chosen_of p.row new k))) k.slot = λ told.
    c.a_new_place_is_clear.ensures.unnamed b g.before (retired_files g.before) (credential_of (row_then (chosen_of p.row new k))) k.slot can told p.rules (new_numbers b g.before c.args.user new k p)
    (λ enrolled. p.plan.chosen.even) p.plan.place in
    let commits = c.commits_touch_settings_files_alone.ensures g.before.settings k.commit.to k.commit.actions p.plan.commit in
    let few = g.met.B.Board.slots_are_few c.args.board.now in
    let lens = g.met.B.Board.slots_are_told c.args.board.now in (
      le,
      (
        can,
        (
          is_readied b g.before c.args.user new k p can taken.0 taken.1 q split c.take_named-gone.ensures.id y ready work same,
          (
            is_sound b g.before c.args.user new k p can taken.0 taken.1 q split c.take_named-gone.ensures.id y ready work same,
            (
              is_prepared b g.before c.args.user new k p can taken.0 taken.1 q split c.take_named-gone.ensures.id y ready work same,
              (
                is_quiet b g.before c.args.user new k p can taken.0 taken.1 q split c.take_named-gone.ensures.id y ready work same few lens free commits,
                (
                  is_fresh b g.before c.args.user new k p can taken.0 taken.1 q split c.take_named-gone.ensures.id y ready work same few lens free commits,
                  (
                    are_named b g.before c.args.user new k p can taken.0 taken.1 q split c.take_named-gone.ensures.id y ready work same,
                    (
                      is_left_out b g.before c.args.user new k p can taken.0 taken.1 q split c.take_named-gone.ensures.id y ready work same few lens free commits,
                      (
                        are_files b g.before c.args.user new k p can taken.0 taken.1 q split c.take_named-gone.ensures.id y ready work same,
                        (
                          keeps_named b g.before c.args.user new k p can taken.0 taken.1 q split c.take_named-gone.ensures.id y ready work same,
                          (
                            is_waiting b g.before c.args.user new k p can taken.0 taken.1 q split c.take_named-gone.ensures.id y ready work same,
                            is_left b g.before c.args.user new k p can taken.0 taken.1 q split c.take_named-gone.ensures.id y ready work same few lens free commits,
                          ),
                        ),
                      ),
                    ),
                  ),
                ),
              ),
            ),
          ),
        ),
      ),
    )

pub returns-clause-serves : goal.returns-clause-serves
returns-clause-serves g c = λ p turn is.
    let b = g.B.Board.sight c.args.board.now in
    let new = c.args.new.now in
    let k = c.args.plan in
    let q = c.take_named-gone.result in
    let before = c.requires.1.0 in
    let can = c.requires.1.1.0 in
    let taken = c.take_named-gone.ensures.taken in
    let split : g.before.named.items ≡ taken.0 ++ q ∷ taken.1 = ap (λ (z : Session). z.named.items) (sym before) ∙ taken.2 in
    let y : Session = record c.args.x.now { named = c.take_named-gone.new.named; opened = c.keep_metrics.new.opened } in
    let ready = ready_by g.before c.args.x.now y before refl taken.0 taken.1 c.args.user (shown_metrics new) taken.3
    c.keep_metrics.ensures.same in
    let work = c.in-Ok.work in
    let same = c.in-Ok.ensures.same in
    let free : IsTrue b.told → IsUnnamedProtector b.world g.before.settings.settled.rec (credential_of (row_then (chosen_of p.row new k))) k.slot = λ told.
    c.a_new_place_is_clear.ensures.unnamed b g.before (retired_files g.before) (credential_of (row_then (chosen_of p.row new k))) k.slot can told p.rules (new_numbers b g.before c.args.user new k p)
    (λ enrolled. p.plan.chosen.even) p.plan.place in
    let commits = c.commits_touch_settings_files_alone.ensures g.before.settings k.commit.to k.commit.actions p.plan.commit in
    let few = g.met.B.Board.slots_are_few c.args.board.now in
    let lens = g.met.B.Board.slots_are_told c.args.board.now in
    c.commit_change.ensures.serves turn
    (carries b g.before c.args.user new k p can taken.0 taken.1 q split c.take_named-gone.ensures.id y ready work same few lens free commits turn is)
