-- What a world holds of the users of a record.
use Rattle.std.specs.Prelude.{ℕ, Bool, List, map, Option}
use Rattle.std.specs.List.{list_any}
use Rattle.ls_formats.specs.declared.part.FilePart.{FilePart}
use Rattle.ls_formats.specs.PartNames.{part_name_text}
use Rattle.ls_record.specs.declared.row.UserRow.{UserRow}
use Rattle.ls_arming.specs.declared.arming.Arming.{Arming}
use Rattle.ls_naming.specs.Named.{is_armed, has_secure, user_parts}
use Rattle.ls_naming.specs.Membership.{same_part}
use Rattle.ls_board.specs.declared.devices.Counter.{Counter}
use Rattle.ls_board.specs.declared.world.World.{World}
use Rattle.ls_board.specs.Effect.{file_at}
use Rattle.ls_board.specs.Gatekeeper.{record_at}
use Rattle.ls_board.specs.Keys.{key_at}
use Rattle.ls_sealing.specs.Protectors.{Protector, credential, token, Held, held, where_it_has}

-- ---- protectors

-- the protector of a user's credential
abbrev pub credential_of : UserRow → Protector
credential_of row =
    record { user = row.user; id = row.protector; purpose = credential row.kind }

-- the protector of a user's token with this id
abbrev pub token_of : UserRow → ℕ → Protector
token_of row id = record { user = row.user; id = id; purpose = token }

-- ---- the user itself

-- All that a world holds of a user beside the protectors.
pub record UserHeld : Type 0 where
  -- its files by their parts
  pub files : FilePart → Option (List ℕ)
  -- the Gatekeeper's record of its secure id, and the key under which the Gatekeeper signs
  pub counter : Option Counter
  pub device : List ℕ
  -- where it is armed, the key of alias 0 and what the resume cell holds
  pub key : Option (List ℕ)
  pub cell : Option (List ℕ)

-- the user has this file
abbrev pub is_its_part : Option Arming → UserRow → FilePart → Bool
is_its_part armed row part = list_any (same_part part) (user_parts armed row)

-- the file of a user's part, whose name has the id 0
abbrev pub user_file : World → UserRow → FilePart → Option (List ℕ)
user_file w row part = file_at w (part_name_text (record { user = row.user; id = 0; part = part }))

abbrev pub held_of_user : World → Option Arming → UserRow → UserHeld
held_of_user w armed row = record {
  files = λ part. where_it_has (is_its_part armed row part) (user_file w row part);
  counter = where_it_has (has_secure row) (record_at w.gk row.secure);
  device = w.gk_key;
  key = where_it_has (is_armed armed row.user) (key_at w.keys 0);
  cell = where_it_has (is_armed armed row.user) w.cell;
}

-- ---- a row

-- All that a world holds of what a row names.
pub record RowHeld : Type 0 where
  pub user : UserHeld
  pub credential : Held
  -- of each token, in the order of the row
  pub tokens : List Held

abbrev pub held_of_row : World → Option Arming → UserRow → RowHeld
held_of_row w armed row = record {
  user = held_of_user w armed row;
  credential = held w (credential_of row);
  tokens = map (λ id. held w (token_of row id)) row.tokens;
}
