use Rattle.std.proofs.Common.{◌≡◌, ◌∙◌, [], ap, arith}
use Rattle.std.proofs.lemmas.Grind.{common_steps}
use Rattle.ls_vault.proofs.ScriptLemmas.{reached_end}
use Rattle.ls_vault.specs.Script.{Stage}
use Rattle.ls_vault.proofs.script.replies.Goals as goal

pub returns-clause-state : goal.returns-clause-state
returns-clause-state c =
    let none : c.loop-rest.rest.now ≡ [] = grind (arith, common_steps, c.is_empty.ensures, c.loop-rest-test.false) in
    ap (λ (at : Stage). at.state) c.stage-2.view_is
    ∙ reached_end c.args.slots c.args.state c.args.script.now c.args.moments.now c.args.noise.now c.loop-rest.rest.now c.loop-rest.stage none c.loop-rest.invariant.1
