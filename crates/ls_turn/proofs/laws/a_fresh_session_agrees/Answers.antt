use Rattle.ls_turn.proofs.FreshLemmas.{fresh_agrees}
use Rattle.ls_turn.proofs.laws.a_fresh_session_agrees.Goals as goal

pub returns : goal.returns
returns c = fresh_agrees
