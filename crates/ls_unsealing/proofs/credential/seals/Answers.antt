use Rattle.ls_unsealing.specs.Parts.{held_by}
use Rattle.ls_unsealing.proofs.SealsLemmas.{seals_both, decided_by}
use Rattle.ls_unsealing.proofs.credential.seals.Goals as goal

pub returns-in-Some : goal.returns-in-Some
returns-in-Some c = record {
  decided = decided_by c.opens.result (seals_both c.args.id (held_by c.args.held.now) c.args.credential.now c.args.secret.now c.in_ok-accepted.field-0 c.in-Some.stretched c.in-Some.is c.in_ok-accepted.ensures.found)
      c.opens.ensures.decided;
}
