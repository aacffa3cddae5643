use Rattle.std.proofs.Common.{refl}
use Rattle.ls_scrypt.specs.Salsa.{quarter}
use Rattle.ls_scrypt.proofs.rounds.quarter.Goals as goal

pub returns : goal.returns
unfolding quarter
returns c j h =
    rw (c.xor_turned-a.ensures j h, c.xor_turned-d.ensures j h, c.xor_turned-c.ensures j h, c.xor_turned-b.ensures j h) refl
