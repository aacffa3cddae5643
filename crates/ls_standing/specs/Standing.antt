-- When a world stands for a vault.
use Rattle.std.specs.Prelude.{◌≡◌, ◌≢◌, ℕ, true, List, [], map, Option, None, Some, IfSome, IsSomeAnd, MatchBool, Ok}
use Rattle.std.specs.List.{AllZip}
use Rattle.std.specs.Option.{option_and_then}
use Rattle.ls_credential.specs.Rules.{fault_of}
use Rattle.ls_formats.specs.declared.part.FilePart.TheVariants.{Handle, E0, P1, Resume}
use Rattle.ls_formats.specs.declared.side.Side.{Side}
use Rattle.ls_formats.specs.PartNames.{PartOf, part_name_text, settings_text}
use Rattle.ls_record.specs.declared.row.UserRow.{UserRow}
use Rattle.ls_record.specs.Rows.{Rec}
use Rattle.ls_secret.specs.declared.personal.Personal.TheVariants.{SpGkAuthentication}
use Rattle.ls_secret.specs.Derivation.{subkey_of}
use Rattle.ls_secret.specs.Escrow.{opened_e0}
use Rattle.ls_secret.specs.Subkeys.{subkey_bytes}
use Rattle.ls_naming.specs.Named.{NamesFile}
use Rattle.ls_naming.specs.Current.{Settled, current, is_open}
use Rattle.ls_board.specs.declared.world.World.{World}
use Rattle.ls_board.specs.Effect.{file_at, touch_at}
use Rattle.ls_board.specs.Gatekeeper.{signed, salt_of, no_fails}
use Rattle.ls_settings.specs.Loaded.{IsWhole, AreUntouched}
use Rattle.ls_vault.specs.declared.user.User.{User}
use Rattle.ls_vault.specs.declared.vault.Vault.{Vault}
use Rattle.ls_arming.specs.declared.arming.Arming.{Arming}
use Rattle.ls_vault.specs.Revealed.{shown_length}
use Rattle.ls_sealing.specs.Chain.{opened_resume}
use Rattle.ls_sealing.specs.Protectors.{Held, failures, has_weaver}
use Rattle.ls_sealing.specs.Seals.{Seals, ShowsMetrics, SealsToken, CompletesTo}
use Rattle.ls_standing.specs.Named.{UserHeld, RowHeld, held_of_row}
use Rattle.ls_standing.specs.Opening.{first_foreign}

-- ---- one user

-- The row says what the record keeps of the user, whose credential keeps the rule of its kind.
pub record SaysUser (row : UserRow) (u : User) : Type 0 where
  pub number : row.user ≡ u.number
  pub kind : row.kind ≡ u.credential.kind
  pub rule : fault_of u.credential.kind u.credential.text ≡ None
  pub escrow : row.escrow ≡ u.escrow
  pub auto : row.auto ≡ u.auto
  pub pin : row.pin ≡ shown_length u
  pub secure : row.secure ≡ u.secure
  pub tokens : row.tokens ≡ map (λ t. t.id) u.tokens

-- The `e0` file opens under the secret to its first half; with what the `p1` file holds it gives the
-- secret; and each token's protector seals it for the token's bytes.
pub record HoldsEscrow (h : UserHeld) (sealings : List Held) (u : User) : Type 0 where
  pub p0 : List ℕ
  pub e0 : option_and_then (opened_e0 u.secret) (h.files E0) ≡ Some p0
  pub whole : IsSomeAnd (h.files P1) (CompletesTo u.secret p0)
  pub tokens : AllZip (λ held t. SealsToken held (h.files P1) t.bytes u.secret p0) sealings u.tokens

-- The `handle` file is the Gatekeeper's, for the secure id and the key that derives from the secret,
-- and the id has a record without failures.
pub record HoldsHandle (h : UserHeld) (u : User) : Type 0 where
  pub handle : IsSomeAnd (h.files Handle) (λ handle.
      handle ≡ signed h.device u.secure (salt_of handle)
      (subkey_bytes (subkey_of u.secret SpGkAuthentication)))
  pub counter : h.counter ≡ Some no_fails

-- where it is armed and the cell holds a key, the `resume` file opens to the user's secret
abbrev pub HoldsResume : UserHeld → User → Type 0
HoldsResume h u =
    IfSome h.cell (λ once. IsSomeAnd (h.files Resume) (λ file.
    opened_resume h.key once file ≡ Some u.secret.sp))

-- What a world holds of a row is what it has to hold of this user.
pub record HoldsUser (row : UserRow) (h : RowHeld) (u : User) : Type 0 where
  pub says : SaysUser row u
  pub seals : Seals row.protector h.credential u.credential u.secret
  pub counted : failures h.credential ≡ record { fails = u.fails; until = u.until }
  pub metrics : ShowsMetrics h.credential u.credential u.secret
  pub escrow : MatchBool u.escrow (HoldsEscrow h.user h.tokens u) (u.tokens ≡ [])
  pub handle : u.secure ≢ 0 → HoldsHandle h.user u
  pub resume : HoldsResume h.user u

-- ---- all users

-- what is armed: what the record says, as long as the cell holds a key
abbrev pub kept_arming : Option Arming → Option (List ℕ) → Option Arming
kept_arming armed None = None
kept_arming armed (Some once) = armed

-- The files, slots, keys and Gatekeeper records that a record names are those of this vault.
pub record Holds (w : World) (r : Rec) (v : Vault) : Type 0 where
  pub users : AllZip (λ row u. HoldsUser row (held_of_row w r.armed row) u) r.users v.users
  pub files : first_foreign w r ≡ None
  pub arming : v.arming ≡ kept_arming r.armed w.cell

-- ---- a world

-- an open settings file that isn't current has 4,096 bytes
abbrev pub IsTargetWhole : World → Option Side → Type 0
IsTargetWhole w current =
    (side : Side) → ¬ (current ≡ Some side)
    → is_open (file_at w (settings_text side)) ≡ true → IsWhole (file_at w (settings_text side))

-- The world stands for the vault, by these settings.
pub record StandsBy (w : World) (s : Settled) (v : Vault) : Type 0 where
  pub settings : current (file_at w) ≡ Ok s
  pub target : IsTargetWhole w s.side
  pub holds : Holds w s.rec v

-- The world stands for the vault.
abbrev pub StandsFor : World → Vault → Type 0
StandsFor w v = (s : Settled) × StandsBy w s v

-- ---- images

-- no file that the record names is touched
abbrev pub NamedAreUntouched : World → Rec → Type 0
NamedAreUntouched w r =
    (name : PartOf) → NamesFile (has_weaver w) r name → touch_at w (part_name_text name) ≡ None

-- The world stands for the vault, and neither a settings file nor one that the record names is
-- touched. So each image of it stands for the vault too.
pub record StandsDurably (w : World) (s : Settled) (v : Vault) : Type 0 where
  pub stands : StandsBy w s v
  pub settings : AreUntouched w
  pub named : NamedAreUntouched w s.rec
