-- What the Gatekeeper answers to a handle and a password, as the answer to an action.
use Rattle.std.proofs.Common.{◌≡◌, ◌∙◌, ℕ, List, [], sym, subst}
use Rattle.std.specs.Prelude.{Result, Ok, Err, IfOk}
use Rattle.ls_board.specs.declared.action.Action.{Action}
use Rattle.ls_board.specs.declared.action.Action.TheVariants.{GkVerify}
use Rattle.ls_board.specs.declared.action.Answer.{Answer}
use Rattle.ls_board.specs.declared.world.World.{World}
use Rattle.ls_board.specs.Effect.{after, Answers}
use Rattle.ls_board.specs.Gatekeeper.{verify_answer}
use Rattle.ls_secure.specs.Asked.{Asks}

pub verify_answered : {E : Type 0} (result : Result Answer E) (w v : World) (handle given password out : List ℕ) (moment : ℕ) (a : Action)
    → IfOk result (λ answer. answer ≡ verify_answer w.gk_key w.gk handle given moment) → v ≡ after w (GkVerify handle given moment) 0
    → given ≡ password → out ≡ [] → a ≡ GkVerify handle password moment
    → IfOk result (λ answer. Asks a → Answers w a answer out × (v ≡ after w a 0))
verify_answered (Ok x) w v handle given password out moment a is then same empty asked =
    subst (λ (b : Action). Asks b → Answers w b x out × (v ≡ after w b 0)) (sym (asked ∙ (λ i. GkVerify handle (sym same i) moment))) (λ _. ((is, empty), then))
verify_answered (Err e) w v handle given password out moment a is then same empty asked = tt
