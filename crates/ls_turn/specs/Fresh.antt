-- A session as opening leaves it, and a board on which nothing is kept.
use Rattle.std.specs.Prelude.{◌≡◌, ℕ, false, [], ◌∷◌, List, replicate, None, Some}
use Rattle.ls_board.specs.declared.world.World.{World}
use Rattle.ls_board.specs.Effect.{file_at}
use Rattle.ls_board.specs.Worlds.{blank_world}
use Rattle.ls_formats.specs.declared.side.Side.{Side}
use Rattle.ls_formats.specs.declared.side.Side.TheVariants.{First, Second}
use Rattle.ls_formats.specs.PartNames.{settings_text}
use Rattle.ls_naming.specs.Current.{Settled, unsettled}
use Rattle.ls_settings.specs.Loaded.{Loaded}
use Rattle.ls_standing.specs.Books.{books}
use Rattle.ls_vault.specs.declared.state.State.{State}
use Rattle.ls_vault.specs.declared.vault.Vault.{Vault}
use Rattle.ls_turn.specs.declared.session.Session.{Session}

-- ---- a session as opening leaves it

-- nobody is opened or captured, nothing is pending, prepared or retired, and no call has stopped
pub record IsFresh (boot slots : ℕ) (x : Session) : Type 0 where
  pub boot_is : x.boot ≡ boot
  pub slots_are : x.slots ≡ slots
  pub opened : x.opened.items ≡ []
  pub pending : x.pending.items ≡ []
  pub prepared : x.prepared ≡ false
  pub captured : x.captured.items ≡ []
  pub retired : x.retired.items ≡ []
  pub stopped : x.stopped ≡ None

-- the state of the machine then: this vault, the books of the world, and an empty session at the boot
abbrev pub opened_state : World → Settled → ℕ → Vault → State
opened_state w s boot v = record {
  vault = v;
  books = books w s;
  session = record { boot = boot; opened = []; pending = []; prepared = false; captured = [] };
}

-- ---- a board that was opened for the first time

abbrev pub zeros : List ℕ
zeros = replicate 4096 0

-- both settings files are 4,096 zeros
abbrev pub HasZeros : World → Type 0
HasZeros w = (side : Side) → file_at w (settings_text side) ≡ Some zeros

abbrev pub nothing_loaded : Loaded
nothing_loaded = record { settled = unsettled; target_open = false }

abbrev pub empty_vault : Vault
empty_vault = record { users = []; arming = None }

-- a world with nothing else in it
abbrev pub empty_world : ℕ → World
empty_world slots = record (blank_world slots) {
  files = (settings_text First, zeros) ∷ (settings_text Second, zeros) ∷ [];
}
