-- What the settings of a world keep beside its vault.
use Rattle.std.specs.Prelude.{ℕ, List, [], Option, None, Some}
use Rattle.ls_arming.specs.declared.arming.Arming.{Arming}
use Rattle.ls_naming.specs.Current.{Settled}
use Rattle.ls_board.specs.declared.world.World.{World}
use Rattle.ls_vault.specs.declared.vault.Books.{Books}

-- the users of an arming whose key is gone: those that are armed, where the cell holds no key
abbrev pub dead_users : Option Arming → Option (List ℕ) → List ℕ
dead_users None cell = []
dead_users (Some a) None = a.users
dead_users (Some a) (Some key) = []

-- The books of a world with these settings: how many commits were kept, which is the sequence number,
-- and the users of an arming whose key is gone.
abbrev pub books : World → Settled → Books
books w s = record { kept = s.sequence; dead = dead_users s.rec.armed w.cell }
