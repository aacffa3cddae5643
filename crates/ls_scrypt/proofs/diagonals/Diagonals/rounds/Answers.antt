use Rattle.std.proofs.Common.{ap, ◌∙◌}
use Rattle.ls_scrypt.specs.Salsa.{double_rounds, double_round}
use Rattle.ls_scrypt.proofs.diagonals.Diagonals.rounds.Goals as goal

pub returns : goal.returns
unfolding double_rounds
returns c =
    c.double_round.ensures
    ∙ ap double_round (c.double_round-thrice.ensures ∙ ap double_round (c.double_round-twice.ensures ∙ ap double_round c.double_round-once.ensures))
