-- Settings files that are whole.
use Rattle.std.specs.Prelude.{◌≡◌, true}
use Rattle.ls_formats.specs.declared.side.Side.{Side}
use Rattle.ls_formats.specs.PartNames.{settings_text}
use Rattle.ls_naming.specs.Current.{is_open}
use Rattle.ls_board.specs.declared.world.World.{World}
use Rattle.ls_board.specs.Effect.{file_at}
use Rattle.ls_settings.specs.Loaded.{IsWhole}

-- the settings file of the side has 4,096 bytes, if its gate is open
abbrev pub IsWholeIfOpen : World → Side → Type 0
IsWholeIfOpen w side =
    is_open (file_at w (settings_text side)) ≡ true → IsWhole (file_at w (settings_text side))
