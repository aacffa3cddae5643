use Rattle.ls_standing.proofs.SweepLemmas.{sweep_touches, sweep_bare}
use Rattle.ls_standing.proofs.bare.a_sweep_takes_what_is_left_over.Goals as goal

pub returns-clause-only : goal.returns-clause-only
returns-clause-only c = sweep_touches

pub returns-clause-bare : goal.returns-clause-bare
returns-clause-bare c = λ start w r names slots sids aliases cell is strange left. sweep_bare w r names slots sids aliases cell is left start strange
