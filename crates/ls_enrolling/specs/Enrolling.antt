-- A user is added: its row, and what is written.
use Rattle.std.specs.Prelude.{◌≡◌, ◌≢◌, ◌<◌, ◌+◌, ◌^◌, ◌++◌, ◌∷◌, [], ℕ, Bool, true, if◌then◌else◌, List, take, drop, length, Option, is_some}
use Rattle.std.specs.List.{Contains}
use Rattle.ls_board.specs.declared.action.Action.{Action}
use Rattle.ls_board.specs.declared.action.Action.TheVariants.{Put, Sync}
use Rattle.ls_board.specs.declared.world.World.{World}
use Rattle.ls_credential.specs.declared.kind.Kind.TheVariants.{Empty}
use Rattle.ls_edits.specs.Rows.{new_row}
use Rattle.ls_formats.specs.Contents.{AreBytes}
use Rattle.ls_formats.specs.declared.part.FilePart.TheVariants.{E0, P1}
use Rattle.ls_formats.specs.PartNames.{PartOf, part_name_text}
use Rattle.ls_naming.specs.Named.{only_if}
use Rattle.ls_record.specs.declared.row.UserRow.{UserRow}
use Rattle.ls_record.specs.Rows.{Rec, is_protector_id}
use Rattle.ls_sealing.specs.Building.{writing_actions, writing_of, for_credential}
use Rattle.ls_sealing.specs.Draws.{credential_draw_size}
use Rattle.ls_sealing.specs.Protectors.{Protector}
use Rattle.ls_secret.specs.Escrow.{e0_of}
use Rattle.ls_secret.specs.Secrets.{SecretValue, IsSecret}
use Rattle.ls_standing.specs.Named.{credential_of}
use Rattle.ls_standing.specs.NamedProtectors.{NamesProtector}
use Rattle.ls_vault.specs.declared.user.User.{User}
use Rattle.ls_vault.specs.Drawn.{credential_len}
use Rattle.ls_vault.specs.UserChanges.{new_user}

-- ---- how what is drawn parts

-- behind the two halves of the secret, and with escrow the start for the first one, comes what is for
-- the protector: its id, and the rest
abbrev pub block_at : Bool → ℕ
block_at escrow = if escrow then 76 else 64

-- how many bytes are drawn on a board with so many slots
abbrev pub draw_len : ℕ → Bool → ℕ
draw_len slots escrow = block_at escrow + credential_len slots Empty

abbrev pub first_half : List ℕ → List ℕ
first_half drawn = take 32 drawn

abbrev pub second_half : List ℕ → List ℕ
second_half drawn = take 32 (drop 32 drawn)

abbrev pub half_iv : List ℕ → List ℕ
half_iv drawn = take 12 (drop 64 drawn)

-- what is drawn for the protector, behind its id
abbrev pub protector_bytes : Bool → List ℕ → List ℕ
protector_bytes escrow drawn = drop (block_at escrow + 8) drawn

-- ---- what is chosen

-- The number of a new user, whether it may have tokens, the id of its protector and its slot, and the
-- drawn bytes.
pub record Chosen : Type 0 where
  pub user : ℕ
  pub escrow : Bool
  pub id : ℕ
  pub slot : Option ℕ
  pub drawn : List ℕ

-- its row, without a credential and without tokens
abbrev pub row_then : Chosen → UserRow
row_then n = record (new_row n.user n.id) { escrow = n.escrow }

abbrev pub user_then : Chosen → User
user_then n = new_user n.user n.escrow n.drawn

-- The choice fits the record: the user has no row, there is room for one, and no protector has the id.
-- So many bytes are drawn, and the secret keeps its rules.
pub record IsChosen (r : Rec) (n : Chosen) : Type 0 where
  pub none : (other : UserRow) → Contains r.users other → other.user ≢ n.user
  pub room : length r.users < 16
  pub small : n.user < 2 ^ 32
  pub even : is_protector_id n.id ≡ true
  pub id : n.id < 2 ^ 64
  pub other : (q : Protector) → NamesProtector r q → q.id ≢ n.id
  pub secret : IsSecret (user_then n).secret
  pub drawn : AreBytes
      (block_at n.escrow + 8 + credential_draw_size (is_some n.slot) Empty) n.drawn

-- ---- what is written

abbrev pub e0_part : ℕ → PartOf
e0_part user = record { user = user; id = 0; part = E0 }

abbrev pub p1_part : ℕ → PartOf
p1_part user = record { user = user; id = 0; part = P1 }

-- with escrow the first half of the secret, sealed under it, and the second one
abbrev pub half_files : ℕ → Bool → SecretValue → List ℕ → List Action
half_files user escrow secret drawn =
    only_if escrow
    (Put (part_name_text (e0_part user)) (e0_of secret (first_half drawn) (half_iv drawn))
    ∷ Put (part_name_text (p1_part user)) (second_half drawn)
    ∷ [])

-- what writes the protector
abbrev pub protector_written : World → Chosen → List Action
protector_written w n =
    writing_actions (credential_of (row_then n)) n.slot
    (writing_of n.id n.slot (for_credential (user_then n).credential (user_then n).secret)
    (protector_bytes n.escrow n.drawn) w.gk_key)

-- all that is written before the commit
abbrev pub written : World → Chosen → List Action
written w n =
    protector_written w n
    ++ (half_files n.user n.escrow (user_then n).secret n.drawn ++ Sync ∷ [])
