use Rattle.ls_checker.proofs.StandingLemmas.{stands_decided}
use Rattle.ls_checker.proofs.standing.stands_for.Goals as goal

pub returns-in-Some : goal.returns-in-Some
returns-in-Some c = record {
  decided = stands_decided c.args.world.now c.args.vault.now c.in_ok-current_record.field-0 _ c.stands_by.result
      c.in-Some.is c.in_ok-current_record.ensures.found c.stands_by.ensures.decided;
}
