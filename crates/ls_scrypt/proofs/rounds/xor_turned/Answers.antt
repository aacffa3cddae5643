use Rattle.ls_scrypt.proofs.LaneLemmas.{lanes_turn}
use Rattle.ls_scrypt.proofs.rounds.xor_turned.Goals as goal

pub returns : goal.returns
returns c =
    lanes_turn c.args.k c.requires.0 c.requires.1 c.args.b c.fits-b.0 c.args.x c.fits-x.0 c.args.y c.fits-y.0
