use Rattle.ls_unsealing.proofs.SealsLemmas.{decided_by}
use Rattle.ls_checker.proofs.DecisionLemmas.{true_is}
use Rattle.ls_checker.proofs.escrow.holds_tokens.Goals as goal

pub returns-then-user : goal.returns-then-user
returns-then-user c = record {
  decided = decided_by c.holds_escrow.result (true_is _ _ c.args.user.now.escrow c.if-user.true) c.holds_escrow.ensures.decided;
}
