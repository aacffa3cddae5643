-- A user gets another credential: its row then, and what is written and taken away beside its protectors.
use Rattle.std.specs.Prelude.{◌≡◌, ◌≢◌, ◌<◌, ◌^◌, ◌==◌, ◌&&◌, ◌++◌, ◌∷◌, [], not, nat_le, ℕ, Bool, true, false, if◌then◌else◌, List, length, Option, None}
use Rattle.std.specs.List.{Contains}
use Rattle.ls_board.specs.declared.action.Action.{Action}
use Rattle.ls_board.specs.declared.action.Action.TheVariants.{Put, Remove, GkEnroll, GkForget, Sync}
use Rattle.ls_credential.specs.declared.kind.Kind.TheVariants.{Empty}
use Rattle.ls_credential.specs.Counts.{metrics_of, IsSmall}
use Rattle.ls_credential.specs.Rules.{KindAndText, fault_of}
use Rattle.ls_formats.specs.declared.part.FilePart.TheVariants.{Handle}
use Rattle.ls_formats.specs.PartNames.{PartOf, part_name_text}
use Rattle.ls_naming.specs.Named.{only_if}
use Rattle.ls_record.specs.declared.row.UserRow.{UserRow}
use Rattle.ls_record.specs.Rows.{Rec, is_protector_id, is_secure_id}
use Rattle.ls_sealing.specs.Protectors.{Protector}
use Rattle.ls_standing.specs.NamedProtectors.{NamesProtector}
use Rattle.ls_vault.specs.Kinds.{is_pin}
use Rattle.ls_vault.specs.declared.user.User.{User}

-- ---- the row

-- the length that the row of a credential shows: that of a PIN of 6 digits or more, where it may be shown
abbrev pub shown_for : Bool → KindAndText → ℕ
shown_for auto c = if auto && is_pin c.kind && nat_le 6 (length c.text) then length c.text else 0

-- the row with another credential, the protector of which has this id, and with this secure id
abbrev pub with_credential : KindAndText → ℕ → ℕ → UserRow → UserRow
with_credential c id secure row = record row {
  kind = c.kind;
  pin = shown_for row.auto c;
  protector = id;
  secure = secure;
}

-- the user with this credential and secure id, and without failures
abbrev pub with_its_credential : KindAndText → ℕ → User → User
with_its_credential c secure u =
    record u { credential = c; fails = 0; until = 0; secure = secure }

-- ---- the secure id

-- there is a secure id, and there was none
abbrev pub comes : ℕ → ℕ → Bool
comes old new = (old == 0) && not (new == 0)

-- there was a secure id, and there is none
abbrev pub goes : ℕ → ℕ → Bool
goes old new = not (old == 0) && (new == 0)

-- the name of a user's `handle` file
abbrev pub handle_of : ℕ → PartOf
handle_of user = record { user = user; id = 0; part = Handle }

abbrev pub handle_name : ℕ → List ℕ
handle_name user = part_name_text (handle_of user)

-- where a secure id comes, it is enrolled and its handle is put
abbrev pub enrolling : UserRow → ℕ → List ℕ → List Action
enrolling row secure handle =
    only_if (comes row.secure secure) (GkEnroll secure ∷ Put (handle_name row.user) handle ∷ [])

-- where one goes, it is forgotten and its handle is removed; and a sync
abbrev pub forgetting : UserRow → ℕ → List Action
forgetting row secure =
    only_if (goes row.secure secure) (GkForget row.secure ∷ Remove (handle_name row.user) ∷ [])
    ++ Sync ∷ []

-- ---- what is chosen

-- The row of the user, the credential, the id of its protector and its slot, and the secure id.
pub record Chosen : Type 0 where
  pub row : UserRow
  pub credential : KindAndText
  pub id : ℕ
  pub slot : Option ℕ
  pub secure : ℕ

abbrev pub row_then : Chosen → UserRow
row_then n = with_credential n.credential n.id n.secure n.row

-- The choice fits the record: the credential keeps the rule of its kind, no protector has the id, and a
-- secure id is the user's own, or new.
pub record IsChosen (r : Rec) (n : Chosen) : Type 0 where
  pub here : Contains r.users n.row
  pub rule : fault_of n.credential.kind n.credential.text ≡ None
  pub small : n.credential.kind ≢ Empty → IsSmall (metrics_of n.credential)
  pub even : is_protector_id n.id ≡ true
  pub id : n.id < 2 ^ 64
  pub other : (q : Protector) → NamesProtector r q → q.id ≢ n.id
  pub rules : is_secure_id n.credential.kind n.secure ≡ true
  pub secure : n.secure < 2 ^ 64
  pub same : (n.row.secure == 0) ≡ false → (n.secure == 0) ≡ false → n.secure ≡ n.row.secure
  pub new : comes n.row.secure n.secure ≡ true
      → (row : UserRow) → Contains r.users row → row.secure ≢ n.secure
