use Rattle.std.proofs.Common.{inl, inr, refl, sym, ap, ◌∙◌}
use Rattle.ls_board.specs.declared.action.Answer.{Answer}
use Rattle.ls_board.specs.declared.action.Action.TheVariants.{GkVerify}
use Rattle.ls_sealing.specs.Chain.{gatekeeper_password}
use Rattle.ls_chain.specs.declared.asking.HandleAnswer.TheVariants.{Accepted as Known, Wrong as Missed, Throttled as Held, Unknown as Foreign}
use Rattle.ls_chain.specs.Asking.{verify_of}
use Rattle.ls_chain.specs.Links.{links_at}
use Rattle.ls_chain.specs.Attempting.{handle_end, attempt_by, opened_end}
use Rattle.ls_chain.proofs.TryLemmas.{device_failed, device_ends, device_opens}
use Rattle.std.proofs.Common.{None, Ok, Err, ℕ, List, subst}
use Rattle.ls_chain.specs.declared.asking.HandleAnswer.{HandleAnswer}
use Rattle.ls_chain.specs.Asking.{AsksDevice}
use Rattle.ls_chain.proofs.trying.try_handle.Goals as goal

pub returns-in-Ok-Accepted-clause-tries : goal.returns-in-Ok-Accepted-clause-tries
returns-in-Ok-Accepted-clause-tries g c =
    device_opens (GkVerify c.args.handle.now (gatekeeper_password c.args.stretched.now) c.args.moment) (record { absent = λ w. inl refl; whole = λ w. inr refl })
    (handle_end c.args.user c.args.id c.args.handle.now c.args.stretched.now c.args.moment) verify_of (g.B.Board.sight c.args.board.now) (g.B.Board.sight c.ready.new.self) _ _ c.ready.result c.ready.ensures (g.B.Board.sight c.ask_handle.new.board)
    (Known c.in-Ok-Accepted.field-0-0) (subst (λ (k : List ℕ). AsksDevice (GkVerify c.args.handle.now k c.args.moment) verify_of (g.B.Board.sight c.ready.new.self) (Ok (Known c.in-Ok-Accepted.field-0-0)) (g.B.Board.sight c.ask_handle.new.board)) (c.in_ok-password.ensures.same ∙ c.gatekeeper_password.ensures.same) (subst (λ (q : HandleAnswer). AsksDevice (GkVerify c.args.handle.now c.in_ok-password.password c.args.moment) verify_of (g.B.Board.sight c.ready.new.self) (Ok q) (g.B.Board.sight c.ask_handle.new.board)) c.in-Ok-Accepted.field-0-is c.in-Ok-Accepted.ensures.asks)) (g.B.Board.sight c.opened.new.board) c.opened.result
    (λ w. opened_end (links_at w c.args.user c.args.id) c.args.stretched.now None) c.opened.ensures.looks (λ w answers. ap (λ (x : Answer). attempt_by (links_at w c.args.user c.args.id) c.args.stretched.now x) (sym answers.0))

pub returns-in-Ok-Wrong-clause-tries : goal.returns-in-Ok-Wrong-clause-tries
returns-in-Ok-Wrong-clause-tries g c =
    device_ends (GkVerify c.args.handle.now (gatekeeper_password c.args.stretched.now) c.args.moment) (record { absent = λ w. inl refl; whole = λ w. inr refl })
    (handle_end c.args.user c.args.id c.args.handle.now c.args.stretched.now c.args.moment) verify_of (g.B.Board.sight c.args.board.now) (g.B.Board.sight c.ready.new.self) _ _ c.ready.result c.ready.ensures (g.B.Board.sight c.ask_handle.new.board)
    (Missed c.in-Ok-Wrong.rest) (subst (λ (k : List ℕ). AsksDevice (GkVerify c.args.handle.now k c.args.moment) verify_of (g.B.Board.sight c.ready.new.self) (Ok (Missed c.in-Ok-Wrong.rest)) (g.B.Board.sight c.ask_handle.new.board)) (c.in_ok-password.ensures.same ∙ c.gatekeeper_password.ensures.same) (subst (λ (q : HandleAnswer). AsksDevice (GkVerify c.args.handle.now c.in_ok-password.password c.args.moment) verify_of (g.B.Board.sight c.ready.new.self) (Ok q) (g.B.Board.sight c.ask_handle.new.board)) c.in-Ok-Wrong.field-0-is c.in-Ok-Wrong.ensures.asks)) _ (λ p is. cc) (λ w answers. ap (λ (x : Answer). attempt_by (links_at w c.args.user c.args.id) c.args.stretched.now x) (sym answers.0))

pub returns-in-Ok-Throttled-clause-tries : goal.returns-in-Ok-Throttled-clause-tries
returns-in-Ok-Throttled-clause-tries g c =
    device_ends (GkVerify c.args.handle.now (gatekeeper_password c.args.stretched.now) c.args.moment) (record { absent = λ w. inl refl; whole = λ w. inr refl })
    (handle_end c.args.user c.args.id c.args.handle.now c.args.stretched.now c.args.moment) verify_of (g.B.Board.sight c.args.board.now) (g.B.Board.sight c.ready.new.self) _ _ c.ready.result c.ready.ensures (g.B.Board.sight c.ask_handle.new.board)
    (Held c.in-Ok-Throttled.rest) (subst (λ (k : List ℕ). AsksDevice (GkVerify c.args.handle.now k c.args.moment) verify_of (g.B.Board.sight c.ready.new.self) (Ok (Held c.in-Ok-Throttled.rest)) (g.B.Board.sight c.ask_handle.new.board)) (c.in_ok-password.ensures.same ∙ c.gatekeeper_password.ensures.same) (subst (λ (q : HandleAnswer). AsksDevice (GkVerify c.args.handle.now c.in_ok-password.password c.args.moment) verify_of (g.B.Board.sight c.ready.new.self) (Ok q) (g.B.Board.sight c.ask_handle.new.board)) c.in-Ok-Throttled.field-0-is c.in-Ok-Throttled.ensures.asks)) _ (λ p is. cc) (λ w answers. ap (λ (x : Answer). attempt_by (links_at w c.args.user c.args.id) c.args.stretched.now x) (sym answers.0))

pub returns-in-Ok-Unknown-clause-tries : goal.returns-in-Ok-Unknown-clause-tries
returns-in-Ok-Unknown-clause-tries g c =
    device_ends (GkVerify c.args.handle.now (gatekeeper_password c.args.stretched.now) c.args.moment) (record { absent = λ w. inl refl; whole = λ w. inr refl })
    (handle_end c.args.user c.args.id c.args.handle.now c.args.stretched.now c.args.moment) verify_of (g.B.Board.sight c.args.board.now) (g.B.Board.sight c.ready.new.self) _ _ c.ready.result c.ready.ensures (g.B.Board.sight c.ask_handle.new.board)
    Foreign (subst (λ (k : List ℕ). AsksDevice (GkVerify c.args.handle.now k c.args.moment) verify_of (g.B.Board.sight c.ready.new.self) (Ok Foreign) (g.B.Board.sight c.ask_handle.new.board)) (c.in_ok-password.ensures.same ∙ c.gatekeeper_password.ensures.same) (subst (λ (q : HandleAnswer). AsksDevice (GkVerify c.args.handle.now c.in_ok-password.password c.args.moment) verify_of (g.B.Board.sight c.ready.new.self) (Ok q) (g.B.Board.sight c.ask_handle.new.board)) c.in-Ok-Unknown.field-0-is c.in-Ok-Unknown.ensures.asks)) _ (λ p is. cc) (λ w answers. ap (λ (x : Answer). attempt_by (links_at w c.args.user c.args.id) c.args.stretched.now x) (sym answers.0))

pub returns-clause-tries : goal.returns-clause-tries
returns-clause-tries g c =
    device_failed (GkVerify c.args.handle.now (gatekeeper_password c.args.stretched.now) c.args.moment) (record { absent = λ w. inl refl; whole = λ w. inr refl })
    (handle_end c.args.user c.args.id c.args.handle.now c.args.stretched.now c.args.moment) verify_of (g.B.Board.sight c.args.board.now) (g.B.Board.sight c.ready.new.self) _ _ c.ready.result c.ready.ensures (g.B.Board.sight c.ask_handle.new.board)
    c.in-Err.part (subst (λ (k : List ℕ). AsksDevice (GkVerify c.args.handle.now k c.args.moment) verify_of (g.B.Board.sight c.ready.new.self) (Err c.in-Err.part) (g.B.Board.sight c.ask_handle.new.board)) (c.in_ok-password.ensures.same ∙ c.gatekeeper_password.ensures.same) c.in-Err.ensures.asks)
