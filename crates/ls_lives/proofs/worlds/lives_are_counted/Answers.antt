use Rattle.ls_lives.proofs.WorldLemmas.{counted}
use Rattle.ls_lives.proofs.worlds.lives_are_counted.Goals as goal

pub returns : goal.returns
returns c = counted
