-- A change of the vault that drops a user.
use Rattle.std.specs.Prelude.{◌≡◌, ◌≢◌, ◌++◌, ℕ, List, [], ◌∷◌, map, Option, None, is_some}
use Rattle.std.specs.List.{Contains, flat_map}
use Rattle.ls_board.specs.declared.action.Action.{Action}
use Rattle.ls_board.specs.declared.action.Action.TheVariants.{GkForget, Sync}
use Rattle.ls_board.specs.declared.world.World.{World}
use Rattle.ls_naming.specs.Named.{only_if, has_secure, user_parts}
use Rattle.ls_record.specs.declared.edit.Edit.TheVariants.{DropRow}
use Rattle.ls_arming.specs.declared.arming.Arming.{Arming}
use Rattle.ls_record.specs.declared.row.UserRow.{UserRow}
use Rattle.ls_record.specs.Edits.{changed as edited}
use Rattle.ls_record.specs.Rows.{Rec, IsRecord}
use Rattle.ls_sealing.specs.Protectors.{has_weaver, held_number}
use Rattle.ls_settings.specs.Loaded.{Loaded, IsReady}
use Rattle.ls_standing.specs.NamedProtectors.{row_protectors}
use Rattle.ls_standing.specs.Quiet.{IsUnnamedProtector}
use Rattle.ls_vault.specs.declared.vault.Vault.{Vault}
use Rattle.ls_vault.specs.Users.{without_user}
use Rattle.ls_arming.specs.Disarming.{disarmed}
use Rattle.ls_change.specs.declared.work.Work.{Work}
use Rattle.ls_change.specs.Work.{next_of}
use Rattle.ls_retiring.specs.declared.built.Built.{Built}
use Rattle.ls_retiring.specs.Retiring.{protector_of, erasing_all, file_names, own_removes}

-- The row of a user who is dropped, and its protectors with their slots.
pub record DroppedUser : Type 0 where
  pub row : UserRow
  pub gone : List Built

-- What takes the user away once its row is gone: its protectors are erased, their files stay; the
-- Gatekeeper forgets its secure id, and its own files are removed, up to the disk.
abbrev pub dropping : Option Arming → DroppedUser → List Action
dropping armed u =
    erasing_all u.gone ++ (only_if (has_secure u.row) (GkForget u.row.secure ∷ [])
    ++ (own_removes u.row.user (user_parts armed u.row) ++ Sync ∷ []))

-- the vault without the user, who is armed no longer
abbrev pub without : Vault → DroppedUser → Vault
without v u = record {
  users = without_user v.users u.row.user;
  arming = disarmed v.arming u.row.user;
}

-- The change commits the record without the row of the user, and then takes the user away. These are
-- the protectors that the row names, in order, and the next record names nothing of them.
pub record DropsUser (w : World) (s : Loaded) (k : Work) (u : DroppedUser) : Type 0 where
  pub ready : IsReady w s
  pub rules : IsRecord s.settled.rec
  pub there : Contains s.settled.rec.users u.row
  pub protectors : map protector_of u.gone ≡ row_protectors u.row
  pub unnamed : (b : Built) → Contains u.gone b
      → IsUnnamedProtector w (next_of k) (protector_of b) b.place.slot
  pub before : k.before ≡ []
  pub next : next_of k ≡ edited s.settled.rec (DropRow u.row.user)
  pub after : k.after ≡ dropping s.settled.rec.armed u

-- ---- what is left of the user

-- each of these has its slot, and it has one where the board has slots
abbrev pub HaveSlots : World → List Built → Type 0
HaveSlots w gone =
    (b : Built) → Contains gone b
    → (held_number w (protector_of b) ≡ b.place.slot) × (is_some b.place.slot ≡ has_weaver w)

-- where there was an arming, there is one
abbrev pub StaysArmed : Rec → Rec → Type 0
StaysArmed r next = ¬ (r.armed ≡ None) → next.armed ≢ None

-- the files that stay
abbrev pub files_left : DroppedUser → List (List ℕ)
files_left u = flat_map file_names u.gone
