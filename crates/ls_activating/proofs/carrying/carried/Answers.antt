use Rattle.std.proofs.Common.{◌≡◌, ℕ, List, IsTrue, refl, sym, ap, subst, ◌∙◌}
use Rattle.std.specs.List.{Contains}
use Rattle.std.specs.Prelude.{Err}
use Rattle.ls_board.specs.declared.action.BoardFault.TheVariants.{Memory}
use Rattle.ls_drawing.specs.Drawing.{stop_of}
use Rattle.ls_drawing.proofs.PassingLemmas.{passes_lacking}
use Rattle.ls_standing.specs.Quiet.{IsUnnamedProtector}
use Rattle.ls_turn.specs.declared.session.Session.{Session}
use Rattle.ls_turn.specs.declared.stop.Stop.{Stop}
use Rattle.ls_turn.specs.Agreeing.{retired_files}
use Rattle.ls_turn.specs.Serving.{Serves, Always}
use Rattle.ls_changing.proofs.CarryLemmas.{lacks}
use Rattle.ls_activating.specs.declared.planned.Planned.{Planned}
use Rattle.ls_activating.specs.Counting.{without_ids}
use Rattle.ls_activating.specs.Planning.{Made}
use Rattle.ls_activating.proofs.CarryLemmas.{carries, carry_files, carry_left, carry_left_out, carry_named, carry_names, carry_new, carry_prepared, carry_quiet, carry_readied, carry_sound, carry_waiting, ready_by}
use Rattle.ls_activating.proofs.PlaceLemmas.{its, its_numbers, made, place}
use Rattle.ls_activating.proofs.carrying.carried.Goals as goal

pub returns-in-Err-clause-serves : goal.returns-in-Err-clause-serves
returns-in-Err-clause-serves g c = λ turn is.
    let b = g.B.Board.sight c.args.board.now in
    subst (λ (e : Stop). Serves b g.before turn Always (Err e) c.stop_by.new.x b) (sym c.stop_by.ensures.stop)
    (lacks b g.before _ c.stop_by.new.x turn (stop_of Memory) ((passes_lacking {T = Planned} b).stops g.before turn)
    (ap (λ (z : Session). z.slots) c.stop_by.ensures.stopped ∙ ap (λ (z : Session). z.slots) c.requires.1.0)
    (ap (λ (z : Session). z.boot) c.stop_by.ensures.stopped ∙ ap (λ (z : Session). z.boot) c.requires.1.0)
    (ap (λ (z : Session). z.stopped) c.stop_by.ensures.stopped))

pub commit_change-requires : goal.commit_change-requires
commit_change-requires g c = λ κs le.
    let b = g.B.Board.sight c.args.board.now in
    let x = g.before in
    let user = c.args.user in
    let k = c.args.plan in
    let can = c.requires.1.1.0 in
    let p = c.requires.1.1.1 in
    let y : Session = record c.args.x.now { pending = c.take_out.new.pending } in
    let ready = ready_by x c.args.x.now y user c.requires.1.0 refl
    (c.take_out.ensures.same ∙ ap (λ (ids : List ℕ). without_ids ids c.args.x.now.pending.items) (c.as_slice.ensures.same ∙ p.by.plan.ids)) in
    let work = c.in-Ok.work in
    let same = c.in-Ok.ensures.same in
    let free : IsTrue b.told → (m : Made) → Contains (made b x can user k p) m → IsUnnamedProtector b.world x.settings.settled.rec (its b x can user k p m) m.slot =
    λ told m within. c.a_new_place_is_clear.ensures.unnamed b x (retired_files x) (its b x can user k p m) m.slot can told p.rules (its_numbers b x can user k p m within) (λ enrolled. absurd (cc)) (place b x can user k p m within) in
    let commits = c.commits_touch_settings_files_alone.ensures x.settings k.commit.to k.commit.actions p.by.plan.commit in
    let few = g.met.B.Board.slots_are_few c.args.board.now in
    let lens = g.met.B.Board.slots_are_told c.args.board.now in (
      le,
      (
        can,
        (
          carry_readied b x can user k p y ready work same,
          (
            carry_sound b x can user k p y ready work same,
            (
              carry_prepared b x can user k p y ready work same,
              (
                carry_quiet b x can user k p y ready work same few lens free commits,
                (
                  carry_new b x can user k p y ready work same few lens free commits,
                  (
                    carry_names b x can user k p y ready work same,
                    (
                      carry_left_out b x can user k p y ready work same,
                      (
                        carry_files b x can user k p y ready work same,
                        (
                          carry_named b x can user k p y ready work same,
                          (
                            carry_waiting b x can user k p y ready work same,
                            carry_left b x can user k p y ready work same few lens free commits,
                          ),
                        ),
                      ),
                    ),
                  ),
                ),
              ),
            ),
          ),
        ),
      ),
    )

pub returns-clause-serves : goal.returns-clause-serves
returns-clause-serves g c = λ turn is.
    let b = g.B.Board.sight c.args.board.now in
    let x = g.before in
    let user = c.args.user in
    let k = c.args.plan in
    let can = c.requires.1.1.0 in
    let p = c.requires.1.1.1 in
    let y : Session = record c.args.x.now { pending = c.take_out.new.pending } in
    let ready = ready_by x c.args.x.now y user c.requires.1.0 refl
    (c.take_out.ensures.same ∙ ap (λ (ids : List ℕ). without_ids ids c.args.x.now.pending.items) (c.as_slice.ensures.same ∙ p.by.plan.ids)) in
    let work = c.in-Ok.work in
    let same = c.in-Ok.ensures.same in
    let free : IsTrue b.told → (m : Made) → Contains (made b x can user k p) m → IsUnnamedProtector b.world x.settings.settled.rec (its b x can user k p m) m.slot =
    λ told m within. c.a_new_place_is_clear.ensures.unnamed b x (retired_files x) (its b x can user k p m) m.slot can told p.rules (its_numbers b x can user k p m within) (λ enrolled. absurd (cc)) (place b x can user k p m within) in
    let commits = c.commits_touch_settings_files_alone.ensures x.settings k.commit.to k.commit.actions p.by.plan.commit in
    let few = g.met.B.Board.slots_are_few c.args.board.now in
    let lens = g.met.B.Board.slots_are_told c.args.board.now in
    c.commit_change.ensures.serves turn (carries b x can user k p y ready work same few lens free commits turn is)
