use Rattle.ls_turn.specs.Agreeing.{retired_files}
use Rattle.ls_turn.proofs.StoredLemmas.{outer_stores, stored_agrees, stored_bare, stored_can, stored_strange}
use Rattle.ls_turn.proofs.laws.the_calls_of_the_loop_keep_a_session.Goals as goal

pub returns-clause-agrees : goal.returns-clause-agrees
returns-clause-agrees c = λ w mid x s a outer move. stored_agrees w mid (outer_stores w mid a outer move) x s

pub returns-clause-can : goal.returns-clause-can
returns-clause-can c = λ old new x a outer told slots move. stored_can old new x told slots (λ was. outer_stores old.world new.world a outer (move was))

pub returns-clause-bare : goal.returns-clause-bare
returns-clause-bare c = λ start w mid x a outer move. stored_bare w mid (outer_stores w mid a outer move) start x.settings.settled.rec (retired_files x)

pub returns-clause-strange : goal.returns-clause-strange
returns-clause-strange c = λ w mid a outer move. stored_strange w mid (outer_stores w mid a outer move)
