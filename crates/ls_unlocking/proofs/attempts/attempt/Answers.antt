use Rattle.std.proofs.Common.{◌≡◌, Option, None, Some, sym, ◌∙◌, ap, subst}
use Rattle.std.specs.Prelude.{Err}
use Rattle.ls_credential.specs.Rules.{KindAndText}
use Rattle.ls_record.specs.declared.row.UserRow.{UserRow}
use Rattle.ls_script.specs.declared.command.Command.TheVariants as command
use Rattle.ls_turn.specs.declared.stop.Stop.{Stop}
use Rattle.ls_turn.specs.Serving.{Serves, turned}
use Rattle.ls_turn.proofs.RefuseLemmas.{unrefused}
use Rattle.ls_turn.proofs.RowLemmas.{row_found}
use Rattle.ls_turn.proofs.StoredLemmas.{stored_can}
use Rattle.ls_vault.specs.Kinds.{same_kind}
use Rattle.ls_unlocking.specs.Fairness.{IsFair}
use Rattle.ls_unlocking.proofs.AttemptLemmas.{nobody_serves, nobody_refuses, kind_serves, kind_refuses, kinds_are, no_refusal, some_protector, stopped_kept, attempt_serves, attempt_refuses, attempt_found, same_some, other_kinds}
use Rattle.ls_unlocking.proofs.MomentLemmas.{moment_kept, moment_stops}
use Rattle.ls_unlocking.proofs.attempts.attempt.Goals as goal

pub returns-in_default-clause-serves : goal.returns-in_default-clause-serves
returns-in_default-clause-serves g c = nobody_serves (g.B.Board.sight c.args.board.now) c.args.x.now c.args.user c.args.offered.now (sym c.in_default.ensures.same) c.requires.can

pub returns-in_default-clause-refuses : goal.returns-in_default-clause-refuses
returns-in_default-clause-refuses g c = nobody_refuses (g.B.Board.sight c.args.board.now) c.args.x.now c.args.user c.args.offered.now (sym c.in_default.ensures.same)

pub returns-then-not-is_same_kind-clause-serves : goal.returns-then-not-is_same_kind-clause-serves
returns-then-not-is_same_kind-clause-serves g c =
    kind_serves (g.B.Board.sight c.args.board.now) c.args.x.now c.args.user c.args.offered.now c.in-Some.row.now (sym c.in-Some.ensures.same)
    (ap (λ (d : KindAndText). same_kind d.kind c.in-Some.row.now.kind) (sym c.offered.view_is) ∙ sym c.if-not-is_same_kind.ensures.same) c.requires.can

pub returns-then-not-is_same_kind-clause-refuses : goal.returns-then-not-is_same_kind-clause-refuses
returns-then-not-is_same_kind-clause-refuses g c =
    kind_refuses (g.B.Board.sight c.args.board.now) c.args.x.now c.args.user c.args.offered.now c.in-Some.row.now (sym c.in-Some.ensures.same)
    (ap (λ (d : KindAndText). same_kind d.kind c.in-Some.row.now.kind) (sym c.offered.view_is) ∙ sym c.if-not-is_same_kind.ensures.same)

pub returns-in-Err-clause-serves : goal.returns-in-Err-clause-serves
returns-in-Err-clause-serves g c =
    let old = g.B.Board.sight c.args.board.now in
    let new = g.B.Board.sight c.take_moment.new.board in
    let x = c.args.x.now in
    let y = c.stop_by.new.x in
    let turn = turned x.slots (command.Attempt c.args.user c.args.offered.now) in
    let fair = IsFair (command.Attempt c.args.user c.args.offered.now) in
    subst (λ (e : Stop). Serves old x turn fair (Err e) y new) (sym c.stop_by.ensures.stop)
    (moment_stops old new x y turn fair (stopped_kept x y _ c.stop_by.ensures.stopped) c.in-Err.fault c.in-Err.ensures.takes (ap (λ z. z.stopped) c.stop_by.ensures.stopped))

pub returns-in-Err-clause-refuses : goal.returns-in-Err-clause-refuses
returns-in-Err-clause-refuses g c =
    unrefused _ (g.B.Board.sight c.args.board.now) c.args.x.now _ _ _
    (no_refusal (g.B.Board.sight c.args.board.now) c.args.x.now c.args.user c.args.offered.now c.in-Some.row.now (sym c.in-Some.ensures.same)
    (kinds_are c.args.offered.now.kind c.in-Some.row.now.kind (ap (λ (d : KindAndText). same_kind d.kind c.in-Some.row.now.kind) (sym c.offered.view_is) ∙ sym c.if-not-is_same_kind.ensures.same)))
    (λ w same own. cc)

pub try_user-end-requires : goal.try_user-end-requires
try_user-end-requires g c =
    let old = g.B.Board.sight c.args.board.now in
    let m1 = g.B.Board.sight c.take_moment.new.board in
    let kept = moment_kept old m1 c.in-Ok.moment c.in-Ok.ensures.takes in
    record {
      can = stored_can old m1 c.args.x.now kept.told kept.slots kept.storage c.requires.can;
      rules = c.in-Some.ensures.kept;
      row = (row_found c.args.user c.args.x.now.settings.settled.rec.users c.in-Some.row.now (sym c.in-Some.ensures.same)).0;
      kind = kinds_are c.args.offered.now.kind c.in-Some.row.now.kind (ap (λ (d : KindAndText). same_kind d.kind c.in-Some.row.now.kind) (sym c.offered.view_is) ∙ sym c.if-not-is_same_kind.ensures.same);
    }

pub finish-requires-clause-credential : goal.finish-requires-clause-credential
finish-requires-clause-credential g c = some_protector c.args.x.now.settings.settled.rec c.in-Some.ensures.kept c.args.user c.in-Some.row.now (sym c.in-Some.ensures.same)

pub finish-requires-clause-tried : goal.finish-requires-clause-tried
finish-requires-clause-tried g c = some_protector c.args.x.now.settings.settled.rec c.in-Some.ensures.kept c.args.user c.in-Some.row.now (sym c.in-Some.ensures.same)

pub returns-clause-serves : goal.returns-clause-serves
returns-clause-serves g c =
    let un = c.try_user-end.ensures.unlocks in
    attempt_serves (g.B.Board.sight c.args.board.now) c.args.x.now c.args.user c.args.offered.now c.in-Some.row.now (sym c.in-Some.ensures.same)
    (kinds_are c.args.offered.now.kind c.in-Some.row.now.kind (ap (λ (d : KindAndText). same_kind d.kind c.in-Some.row.now.kind) (sym c.offered.view_is) ∙ sym c.if-not-is_same_kind.ensures.same))
    c.requires.can c.in-Some.ensures.kept c.in-Ok.moment (g.B.Board.sight c.take_moment.new.board) c.in-Ok.ensures.takes un.0 un.1 un.2
    c.try_user-end.result (g.B.Board.sight c.try_user-end.new.board) un.3 (g.met.B.Board.tables_are_sorted c.try_user-end.new.board)
    c.finish.new.x c.finish.result c.finish.ensures.finishes

pub returns-clause-refuses : goal.returns-clause-refuses
returns-clause-refuses g c =
    attempt_refuses (g.B.Board.sight c.args.board.now) c.args.x.now c.args.user c.args.offered.now c.in-Some.row.now (sym c.in-Some.ensures.same)
    (kinds_are c.args.offered.now.kind c.in-Some.row.now.kind (ap (λ (d : KindAndText). same_kind d.kind c.in-Some.row.now.kind) (sym c.offered.view_is) ∙ sym c.if-not-is_same_kind.ensures.same))
    c.try_user-end.result c.try_user-end.ensures.late c.finish.result c.finish.new.x (g.B.Board.sight c.try_user-end.new.board) c.finish.ensures.finishes

pub returns-in_default-clause-found : goal.returns-in_default-clause-found
returns-in_default-clause-found g c = λ told row p its kind has id. absurd (none_some (c.in_default.ensures.same ∙ its))
  where
    none_some : {T : Type 0} {a : T} → ◌≡◌ {A = Option T} None (Some a) → ⊥
    none_some e = cc

pub returns-then-not-is_same_kind-clause-found : goal.returns-then-not-is_same_kind-clause-found
returns-then-not-is_same_kind-clause-found g c = λ told row p its kind has id.
    let same : c.in-Some.row.now ≡ row = same_some (c.in-Some.ensures.same ∙ its) in
    absurd (other_kinds c.args.offered.now.kind c.in-Some.row.now.kind
    (ap (λ (d : KindAndText). same_kind d.kind c.in-Some.row.now.kind) (sym c.offered.view_is) ∙ sym c.if-not-is_same_kind.ensures.same)
    (kind ∙ sym (ap (λ (r : UserRow). r.kind) same)))

pub returns-clause-found : goal.returns-clause-found
returns-clause-found g c = λ told row p its kind has id.
    let un = c.try_user-end.ensures.unlocks in
    attempt_found (g.B.Board.sight c.args.board.now) c.args.x.now c.args.user c.args.offered.now c.in-Some.row.now (sym c.in-Some.ensures.same)
    (kinds_are c.args.offered.now.kind c.in-Some.row.now.kind (ap (λ (d : KindAndText). same_kind d.kind c.in-Some.row.now.kind) (sym c.offered.view_is) ∙ sym c.if-not-is_same_kind.ensures.same))
    c.requires.can c.in-Some.ensures.kept c.in-Ok.moment (g.B.Board.sight c.take_moment.new.board) c.in-Ok.ensures.takes un.0 un.1 un.2
    c.try_user-end.result (g.B.Board.sight c.try_user-end.new.board) un.3 (g.met.B.Board.tables_are_sorted c.try_user-end.new.board)
    c.finish.new.x c.finish.result c.finish.ensures.finishes told row p its has id
