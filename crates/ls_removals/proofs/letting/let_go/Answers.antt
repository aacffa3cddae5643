use Rattle.std.proofs.Common.{◌≡◌, List, refl, ap, subst, ◌∙◌}
use Rattle.ls_formats.specs.declared.parts.Parts.{Parts}
use Rattle.ls_settings.specs.Commits.{IsCommit}
use Rattle.ls_settings.specs.Loaded.{Loaded}
use Rattle.ls_turn.specs.declared.session.Session.{Session}
use Rattle.ls_turn.specs.Serving.{stage_in}
use Rattle.ls_turn.proofs.PerformLemmas.{too_heavy}
use Rattle.ls_committing.specs.Committing.{IsReadied}
use Rattle.ls_removals.specs.Going.{leaving, staying}
use Rattle.ls_removals.specs.Letting.{letting}
use Rattle.ls_removals.proofs.ReadiedLemmas.{is_sound, is_prepared, are_named, are_files, keeps_named, can_wait, is_quiet, is_fresh, is_left_out, is_left, lets, behind_still}
use Rattle.ls_removals.proofs.letting.let_go.Goals as goal

pub returns-in_default-clause-serves : goal.returns-in_default-clause-serves
returns-in_default-clause-serves g c = λ turn all.
    too_heavy (g.B.Board.sight c.args.board.now) g.before _ turn c.requires.1.1.0.slots c.requires.1.1.0.boot refl

pub returns-in_default-letting-clause-serves : goal.returns-in_default-letting-clause-serves
returns-in_default-letting-clause-serves g c = λ turn all.
    too_heavy (g.B.Board.sight c.args.board.now) g.before _ turn c.requires.1.1.0.slots c.requires.1.1.0.boot refl

pub commit_change-requires : goal.commit_change-requires
commit_change-requires g c = λ κs le.
    let b = g.B.Board.sight c.args.board.now in
    let can = c.requires.1.0 in
    let behind = c.requires.1.1.0 in
    let is = c.requires.1.1.1.0 in
    let prepared : IsCommit g.before.settings c.args.commit.to c.args.commit.actions = subst (λ (z : Loaded). IsCommit z c.args.commit.to c.args.commit.actions) behind.settings c.requires.1.1.1.1.0 in
    let leaves = c.requires.1.1.1.1.1.0 in
    let y : Session = record c.args.x.now { named = c.take_going.new.named } in
    let ready : IsReadied g.before y = record { slots = behind.slots; boot = behind.boot; settings = behind.settings; retired = behind.retired; stopped = behind.stopped } in
    let its_named : y.named.items ≡ staying c.args.going.now g.before.named.items = c.in-Ok.ensures.stays ∙ ap (staying c.args.going.now) behind.named in
    let k = c.in-Ok-letting.work in
    let same : k ≡ letting c.args.commit (leaving c.args.going.now g.before.named.items) c.args.after = c.in-Ok-letting.ensures.same ∙ ap (λ (z : List Parts). letting c.args.commit z c.args.after) (c.in-Ok.ensures.gone ∙ ap (leaving c.args.going.now) behind.named) in
    let commits = c.commits_touch_settings_files_alone.ensures g.before.settings c.args.commit.to c.args.commit.actions prepared in (
      le,
      (
        can,
        (
          ready,
          (
            is_sound b g.before can is c.args.going.now c.args.commit c.args.after leaves y ready its_named k same prepared,
            (
              is_prepared b g.before can is c.args.going.now c.args.commit c.args.after leaves y ready its_named k same prepared,
              (
                is_quiet b g.before can is c.args.going.now c.args.commit c.args.after leaves y ready its_named k same prepared,
                (
                  is_fresh b g.before can is c.args.going.now c.args.commit c.args.after leaves y ready its_named k same prepared,
                  (
                    are_named b g.before can is c.args.going.now c.args.commit c.args.after leaves y ready its_named k same prepared,
                    (
                      is_left_out b g.before can is c.args.going.now c.args.commit c.args.after leaves y ready its_named k same prepared,
                      (
                        are_files b g.before can is c.args.going.now c.args.commit c.args.after leaves y ready its_named k same prepared,
                        (
                          keeps_named b g.before can is c.args.going.now c.args.commit c.args.after leaves y ready its_named k same prepared,
                          (
                            can_wait b g.before can is c.args.going.now c.args.commit c.args.after leaves y ready its_named k same prepared c.args.x.now.pending.items c.requires.1.1.1.1.1.1,
                            λ told. is_left b g.before can is c.args.going.now c.args.commit c.args.after leaves y ready its_named k same prepared told commits,
                          ),
                        ),
                      ),
                    ),
                  ),
                ),
              ),
            ),
          ),
        ),
      ),
    )

pub returns-clause-serves : goal.returns-clause-serves
returns-clause-serves g c = λ turn all.
    let b = g.B.Board.sight c.args.board.now in
    let can = c.requires.1.0 in
    let behind = c.requires.1.1.0 in
    let is = c.requires.1.1.1.0 in
    let prepared : IsCommit g.before.settings c.args.commit.to c.args.commit.actions = subst (λ (z : Loaded). IsCommit z c.args.commit.to c.args.commit.actions) behind.settings c.requires.1.1.1.1.0 in
    let leaves = c.requires.1.1.1.1.1.0 in
    let y : Session = record c.args.x.now { named = c.take_going.new.named } in
    let ready : IsReadied g.before y = record { slots = behind.slots; boot = behind.boot; settings = behind.settings; retired = behind.retired; stopped = behind.stopped } in
    let its_named : y.named.items ≡ staying c.args.going.now g.before.named.items = c.in-Ok.ensures.stays ∙ ap (staying c.args.going.now) behind.named in
    let k = c.in-Ok-letting.work in
    let same : k ≡ letting c.args.commit (leaving c.args.going.now g.before.named.items) c.args.after = c.in-Ok-letting.ensures.same ∙ ap (λ (z : List Parts). letting c.args.commit z c.args.after) (c.in-Ok.ensures.gone ∙ ap (leaving c.args.going.now) behind.named) in
    let commits = c.commits_touch_settings_files_alone.ensures g.before.settings c.args.commit.to c.args.commit.actions prepared in
    c.commit_change.ensures.serves turn
    (lets b g.before can is c.args.going.now c.args.commit c.args.after leaves y ready its_named k same prepared commits (g.met.B.Board.slots_are_told c.args.board.now) turn
    (λ told s a. behind_still c.args.x.now y refl b.world c.args.commit.to.settled.rec s (turn (stage_in b.world s)) (all told s a)))
