use Rattle.ls_turn.proofs.StoredLemmas.{now_stores, draw_stores, stored_agrees}
use Rattle.ls_turn.proofs.laws.a_moment_or_noise_keeps_a_session.Goals as goal

pub returns-clause-now : goal.returns-clause-now
returns-clause-now c = λ w mid x s within. stored_agrees w mid (now_stores w mid within) x s

pub returns-clause-draw : goal.returns-clause-draw
returns-clause-draw c = λ w mid x s len within. stored_agrees w mid (draw_stores w mid len within) x s
