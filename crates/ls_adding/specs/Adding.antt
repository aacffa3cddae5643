-- A change of the vault that adds a user without escrow and without a credential.
use Rattle.std.specs.Prelude.{◌≡◌, ◌≢◌, ◌++◌, ℕ, false, List, [], ◌∷◌, Option, is_some}
use Rattle.std.specs.List.{Contains}
use Rattle.ls_board.specs.declared.action.Action.{Action}
use Rattle.ls_board.specs.declared.action.Action.TheVariants.{Sync}
use Rattle.ls_board.specs.declared.world.World.{World}
use Rattle.ls_board.specs.Runs.{AllApply}
use Rattle.ls_credential.specs.declared.kind.Kind.TheVariants.{Empty}
use Rattle.ls_formats.specs.Contents.{AreBytes}
use Rattle.ls_record.specs.declared.edit.Edit.TheVariants.{PutRow}
use Rattle.ls_record.specs.declared.row.UserRow.{UserRow}
use Rattle.ls_record.specs.Edits.{changed as edited, MayChange}
use Rattle.ls_record.specs.Rows.{IsRecord}
use Rattle.ls_sealing.specs.Building.{FitsSlots, writing_actions, writing_of, for_credential}
use Rattle.ls_sealing.specs.Draws.{credential_draw_size}
use Rattle.ls_secret.specs.Secrets.{IsSecret}
use Rattle.ls_settings.specs.Loaded.{Loaded, IsReady}
use Rattle.ls_standing.specs.Named.{credential_of}
use Rattle.ls_standing.specs.Quiet.{IsUnnamedProtector}
use Rattle.ls_vault.specs.declared.user.User.{User}
use Rattle.ls_vault.specs.declared.vault.Vault.{Vault}
use Rattle.ls_vault.specs.Users.{with_user}
use Rattle.ls_vault.specs.UserChanges.{new_user}
use Rattle.ls_change.specs.declared.work.Work.{Work}
use Rattle.ls_change.specs.Work.{next_of}
use Rattle.ls_edits.specs.Rows.{new_row}

-- The number of a new user, the id of its protector and its slot, where the board has slots; the
-- bytes that are drawn for the secret, and those for the protector.
pub record NewUser : Type 0 where
  pub user : ℕ
  pub id : ℕ
  pub slot : Option ℕ
  pub drawn : List ℕ
  pub bytes : List ℕ

abbrev pub row_of : NewUser → UserRow
row_of n = new_row n.user n.id

abbrev pub user_of : NewUser → User
user_of n = new_user n.user false n.drawn

-- what writes its protector, up to the disk
abbrev pub written : World → NewUser → List Action
written w n =
    writing_actions (credential_of (row_of n)) n.slot
    (writing_of n.id n.slot (for_credential (user_of n).credential (user_of n).secret) n.bytes w.gk_key)
    ++ Sync ∷ []

abbrev pub with_new : Vault → NewUser → Vault
with_new v n = record v { users = with_user v.users (user_of n) }

-- The change writes the protector of the new user, which the record doesn't name, and commits the
-- record with its row.
pub record AddsUser (w : World) (s : Loaded) (k : Work) (n : NewUser) : Type 0 where
  pub ready : IsReady w s
  pub rules : IsRecord s.settled.rec
  pub none : (other : UserRow) → Contains s.settled.rec.users other → other.user ≢ n.user
  pub may : MayChange s.settled.rec (PutRow (row_of n))
  pub unnamed : IsUnnamedProtector w s.settled.rec (credential_of (row_of n)) n.slot
  pub fits : FitsSlots n.slot w
  pub secret : IsSecret (user_of n).secret
  pub drawn : AreBytes (credential_draw_size (is_some n.slot) Empty) n.bytes
  pub before : k.before ≡ written w n
  pub applies : AllApply w k.before
  pub next : next_of k ≡ edited s.settled.rec (PutRow (row_of n))
  pub after : k.after ≡ []
