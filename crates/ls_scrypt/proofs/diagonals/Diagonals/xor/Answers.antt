use Rattle.ls_scrypt.proofs.LaneLemmas.{words_of-small}
use Rattle.ls_scrypt.proofs.diagonals.Diagonals.xor.Goals as goal

pub returns-clause-small : goal.returns-clause-small
returns-clause-small c =
    words_of-small c.args.self c.xored.ensures.small c.xored-2.ensures.small c.xored-3.ensures.small c.xored-4.ensures.small
