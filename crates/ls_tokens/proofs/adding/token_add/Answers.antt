use Rattle.std.proofs.Common.{◌≡◌, ◌++◌, ◌∷◌, ℕ, false, List, [], sym, ◌∙◌, ap, subst, arith}
use Rattle.std.specs.Prelude.{Err}
use Rattle.ls_arming.specs.Numbers.{contains}
use Rattle.ls_drawing.proofs.DrawLemmas.{draw_stops}
use Rattle.ls_script.specs.declared.command.Command.TheVariants as command
use Rattle.ls_turn.specs.declared.stop.Stop.{Stop}
use Rattle.ls_turn.specs.Serving.{Serves, turned, Always}
use Rattle.ls_turn.proofs.RefuseLemmas.{refuses, unrefused}
use Rattle.ls_vault.specs.Fresh.{fresh, drawn_number}
use Rattle.ls_tokens.proofs.AddingLemmas.{add_refused, add_lacks, add_lacks_then, add_done, stopped_kept, put_kept}
use Rattle.ls_tokens.proofs.adding.token_add.Goals as goal

pub returns-in-Some-clause-serves : goal.returns-in-Some-clause-serves
returns-in-Some-clause-serves g c = add_refused c.args.x.now c.args.user c.args.token.now (g.B.Board.sight c.args.board.now) c.requires.can c.in-Some.why (sym (c.in-Some.ensures.same c.args.token.now))

pub returns-in-Some-clause-refuses : goal.returns-in-Some-clause-refuses
returns-in-Some-clause-refuses g c = refuses _ (g.B.Board.sight c.args.board.now) c.args.x.now c.in-Some.why (sym (c.in-Some.ensures.same c.args.token.now))

pub returns-in-Err-clause-serves : goal.returns-in-Err-clause-serves
returns-in-Err-clause-serves g c =
    add_lacks c.args.x.now c.args.user c.args.token.now c.stop_by.new.x (stopped_kept c.args.x.now c.stop_by.new.x _ c.stop_by.ensures.stopped) (ap (λ z. z.stopped) c.stop_by.ensures.stopped)
    c.stop_by.result c.stop_by.ensures.stop (g.B.Board.sight c.args.board.now)

pub returns-in-Err-clause-refuses : goal.returns-in-Err-clause-refuses
returns-in-Err-clause-refuses g c = unrefused _ (g.B.Board.sight c.args.board.now) c.args.x.now _ _ _ (sym (c.in-None.ensures.same c.args.token.now)) (λ w same own. cc)

pub returns-in-Err-draw-clause-serves : goal.returns-in-Err-draw-clause-serves
returns-in-Err-draw-clause-serves g c =
    let x = c.args.x.now in
    let y = c.stop_by-in-Err-draw.new.x in
    let old = g.B.Board.sight c.args.board.now in
    let new = g.B.Board.sight c.draw.new.board in
    subst (λ (e : Stop). Serves old x (turned x.slots (command.TokenAdd c.args.user c.args.token.now)) Always (Err e) y new) (sym c.stop_by-in-Err-draw.ensures.stop)
    (draw_stops 8 old new x y (turned x.slots (command.TokenAdd c.args.user c.args.token.now)) Always (stopped_kept x y _ c.stop_by-in-Err-draw.ensures.stopped)
    c.in-Err-draw.fault c.in-Err-draw.ensures.draws (ap (λ z. z.stopped) c.stop_by-in-Err-draw.ensures.stopped))

pub returns-in-Err-draw-clause-refuses : goal.returns-in-Err-draw-clause-refuses
returns-in-Err-draw-clause-refuses g c = unrefused _ (g.B.Board.sight c.args.board.now) c.args.x.now _ _ _ (sym (c.in-None.ensures.same c.args.token.now)) (λ w same own. cc)

pub returns-in-Ok-put_pending-clause-serves : goal.returns-in-Ok-put_pending-clause-serves
returns-in-Ok-put_pending-clause-serves g c =
    let x = c.args.x.now in
    let y = c.put_pending.new.x in
    let put = c.in-Ok-put_pending.ensures.put in
    add_done x c.args.user c.args.token.now y c.id_by-id.result (sym put.0)
    (put.1 ∙ ap (λ (l : List ℕ). x.pending.items ++ record { user = c.args.user; id = c.id_by-id.result; token = l } ∷ []) c.in-Ok.ensures.token)
    c.requires.can.waits c.in-None.ensures.kept (sym (c.in-None.ensures.same c.args.token.now)) c.id_by-id.ensures.odd (omega (arith, c.id_by-id.type_inv))
    (subst (λ (l : List ℕ). contains l c.id_by-id.result ≡ false) (c.as_slice-2.ensures.same ∙ c.in-Ok.ensures.taken) c.id_by-id.ensures.free)
    (g.B.Board.sight c.args.board.now) (g.B.Board.sight c.draw.new.board) c.requires.can c.in-Ok-draw.drawn c.in-Ok-draw.ensures.draws
    (c.id_by-id.ensures.same
    ∙ (ap (λ (l : List ℕ). fresh (drawn_number l) c.as_slice-2.result.now) c.as_slice.ensures.same
    ∙ ap (λ (l : List ℕ). fresh (drawn_number c.in-Ok-draw.drawn) l) (c.as_slice-2.ensures.same ∙ c.in-Ok.ensures.taken)))

pub returns-in-Ok-put_pending-clause-refuses : goal.returns-in-Ok-put_pending-clause-refuses
returns-in-Ok-put_pending-clause-refuses g c = unrefused _ (g.B.Board.sight c.args.board.now) c.args.x.now _ _ _ (sym (c.in-None.ensures.same c.args.token.now)) (λ w same own. cc)

pub returns-clause-serves : goal.returns-clause-serves
returns-clause-serves g c =
    add_lacks_then c.args.x.now c.args.user c.args.token.now c.stop_by-in-Err-put_pending.new.x
    (put_kept c.args.x.now c.put_pending.new.x c.stop_by-in-Err-put_pending.new.x _ c.in-Err-put_pending.ensures.kept.0 c.stop_by-in-Err-put_pending.ensures.stopped)
    (ap (λ z. z.stopped) c.stop_by-in-Err-put_pending.ensures.stopped) c.stop_by-in-Err-put_pending.result c.stop_by-in-Err-put_pending.ensures.stop
    (g.B.Board.sight c.args.board.now) (g.B.Board.sight c.draw.new.board) c.in-Ok-draw.drawn c.in-Ok-draw.ensures.draws

pub returns-clause-refuses : goal.returns-clause-refuses
returns-clause-refuses g c = unrefused _ (g.B.Board.sight c.args.board.now) c.args.x.now _ _ _ (sym (c.in-None.ensures.same c.args.token.now)) (λ w same own. cc)
