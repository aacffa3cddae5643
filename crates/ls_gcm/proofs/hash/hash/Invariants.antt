use Rattle.std.proofs.Common.{◌≡◌}
use Rattle.ls_gcm.specs.Gcm.{ghash, hashed_text}
use Rattle.ls_gcm.proofs.hash.hash.Given as goal

abbrev pub invariant-parts : goal.invariant-parts
invariant-parts l = l.y ≡ ghash l.table (hashed_text l.text) l.i
