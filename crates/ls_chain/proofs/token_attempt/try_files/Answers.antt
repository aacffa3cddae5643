use Rattle.ls_chain.proofs.TokenAttemptLemmas.{token_some, token_none}
use Rattle.ls_chain.proofs.token_attempt.try_files.Goals as goal

pub returns-in-Some : goal.returns-in-Some
returns-in-Some g c = record {
  tries = token_some c.args.user c.args.id c.args.slot c.args.token.now c.args.files.now _ _ _ c.in-Some.slot c.in-Some.is c.try_slot.ensures.tries;
}

pub returns-in-None : goal.returns-in-None
returns-in-None g c = record {
  tries = token_none c.args.user c.args.id c.args.slot c.args.token.now c.args.files.now _ _ _ c.in-None.is c.open_files.ensures.looks;
}
