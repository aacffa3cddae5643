use Rattle.ls_scrypt.proofs.LaneLemmas.{each_small}
use Rattle.ls_scrypt.proofs.rounds.xored.Goals as goal

pub returns-clause-small : goal.returns-clause-small
returns-clause-small c = each_small c.args.x c.fits-x.1
