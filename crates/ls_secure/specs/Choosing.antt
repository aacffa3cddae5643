-- Which of the two secure files counts.
use Rattle.std.specs.Prelude.{nat_lt, if◌then◌else◌}
use Rattle.ls_secure.specs.declared.choosing.Side.{Side}
use Rattle.ls_secure.specs.declared.choosing.Side.TheVariants.{First, Second}
use Rattle.ls_secure.specs.declared.choosing.SecureFile.{SecureFile}
use Rattle.ls_secure.specs.declared.choosing.SecureFile.TheVariants.{Absent, Foreign, Whole}
use Rattle.ls_secure.specs.declared.choosing.Chosen.{Chosen}
use Rattle.ls_secure.specs.declared.choosing.Chosen.TheVariants.{Fresh, Foreign as NoneWhole, Counts}

-- the other one of the two
abbrev pub other : Side → Side
other First = Second
other Second = First

-- Of two whole files that of the greater sequence number counts, the first at a tie. Where none is
-- whole, the first one that is there is at fault.
abbrev pub choice : SecureFile → SecureFile → Chosen
choice Absent Absent = Fresh
choice Absent Foreign = NoneWhole Second
choice Absent (Whole n e) = Counts Second n e
choice Foreign Absent = NoneWhole First
choice Foreign Foreign = NoneWhole First
choice Foreign (Whole n e) = Counts Second n e
choice (Whole m d) Absent = Counts First m d
choice (Whole m d) Foreign = Counts First m d
choice (Whole m d) (Whole n e) = if nat_lt m n then Counts Second n e else Counts First m d
