-- The actions that build a protector from what is offered, a secret and drawn bytes.
use Rattle.std.specs.Prelude.{◌≡◌, ◌<◌, ◌^◌, ◌++◌, ◌∷◌, ℕ, if◌then◌else◌, List, [], length, map, replicate, unwrap_or, is_some, Option, None, Some, MatchOption}
use Rattle.std.specs.Option.{option_map}
use Rattle.ls_credential.specs.Rules.{KindAndText}
use Rattle.ls_credential.specs.Counts.{metrics_of}
use Rattle.ls_weaver.specs.Slots.{written, blank_slot}
use Rattle.ls_blob.specs.declared.kind.BlobKind.{BlobKind}
use Rattle.ls_blob.specs.declared.kind.BlobKind.TheVariants.{Credential, StrongToken}
use Rattle.ls_blob.specs.Kinds.{kind_byte}
use Rattle.ls_blob.specs.Personal.{sealed_under}
use Rattle.ls_secret.specs.declared.personal.Personal.TheVariants.{PasswordMetrics}
use Rattle.ls_secret.specs.Derivation.{subkey_of}
use Rattle.ls_secret.specs.Subkeys.{subkey_bytes}
use Rattle.ls_secret.specs.Secrets.{SecretValue}
use Rattle.ls_formats.specs.declared.part.FilePart.{FilePart}
use Rattle.ls_formats.specs.declared.part.FilePart.TheVariants.{SpBlob, Pwd, Secdis, Weaver, Metrics, Handle, E0, P1, Resume}
use Rattle.ls_formats.specs.Contents.{pwd, pwd_bytes, slot_bytes, metrics_bytes}
use Rattle.ls_naming.specs.Named.{only_if, has_credential}
use Rattle.ls_board.specs.declared.action.Action.{Action}
use Rattle.ls_board.specs.declared.action.Action.TheVariants.{Put, Remove, WeaverWrite, GkEnroll, GkForget, KeyPut, KeyDrop}
use Rattle.ls_board.specs.declared.world.World.{World}
use Rattle.ls_board.specs.Gatekeeper.{signed, no_fails}
use Rattle.ls_sealing.specs.Chain.{stretched_default, stretched_at, weaver_key, gatekeeper_password, value_share, discardable_share, sealed_discardable, layered}
use Rattle.ls_sealing.specs.Protectors.{Purpose, credential, token, Protector, parts_for, has_part, is_enrolled, file_name, where_it_has, Held}
use Rattle.ls_sealing.specs.Draws.{CredentialDraw, credential_draw, TokenDraw, token_draw}

-- ---- what is written

-- the key in the key store, the key and the value of the slot, and the content of each file
pub record Writing : Type 0 where
  pub key : List ℕ
  pub slot_key : List ℕ
  pub value : List ℕ
  pub content : FilePart → List ℕ

-- a slot is given where the board has Weaver
abbrev pub slot_writes : Option ℕ → List ℕ → List ℕ → List Action
slot_writes None key value = []
slot_writes (Some slot) key value = WeaverWrite slot key value ∷ []

-- the files of these parts are put, or removed
abbrev pub puts : Protector → (FilePart → List ℕ) → List FilePart → List Action
puts p content parts = map (λ part. Put (file_name p part) (content part)) parts

abbrev pub removes : Protector → List FilePart → List Action
removes p parts = map (λ part. Remove (file_name p part)) parts

-- The actions in their order: those of devices, and then each file is put.
abbrev pub writing_actions : Protector → Option ℕ → Writing → List Action
writing_actions p slot m =
    KeyPut p.id m.key ∷ (only_if (is_enrolled (is_some slot) p.purpose) (GkEnroll p.id ∷ [])
    ++ (slot_writes slot m.slot_key m.value
    ++ puts p m.content (parts_for (is_some slot) p.purpose)))

-- what a world then holds of the protector, where this is the Gatekeeper's key
abbrev pub held_of : Purpose → Option ℕ → Writing → List ℕ → Held
held_of purpose slot m device = record {
  weaver = is_some slot;
  files = λ part. where_it_has (has_part (is_some slot) purpose part) (Some (m.content part));
  slot = option_map (λ _. written m.slot_key m.value) slot;
  counter = where_it_has (is_enrolled (is_some slot) purpose) (Some no_fails);
  device = device;
  key = Some m.key;
}

-- ---- parts of it

-- the version, the kind and the two layers
abbrev pub blob_bytes : ℕ → BlobKind → List ℕ → List ℕ
blob_bytes version kind content = version ∷ kind_byte kind ∷ content

abbrev pub slot_file : Option ℕ → List ℕ
slot_file slot = slot_bytes (record { slot = unwrap_or slot 0 })

-- ---- for a credential

-- the stretched text, at the usual cost
abbrev pub new_stretched : KindAndText → CredentialDraw → List ℕ
new_stretched c d =
    if has_credential c.kind then stretched_at 11 3 1 d.salt c.text else stretched_default

abbrev pub new_share : Option ℕ → CredentialDraw → List ℕ
new_share None d = discardable_share d.discardable
new_share (Some slot) d = value_share d.value

-- without Weaver the `pwd` file has the handle of the stretched text, if there is a credential
abbrev pub new_handle : ℕ → Option ℕ → KindAndText → CredentialDraw → List ℕ → Option (List ℕ)
new_handle id None c d gk_key =
    where_it_has (has_credential c.kind)
    (Some (signed gk_key id d.handle_salt (gatekeeper_password (new_stretched c d))))
new_handle id (Some slot) c d gk_key = None

-- what each file holds, with this handle in `pwd`
abbrev pub credential_content : Option ℕ → KindAndText → SecretValue → CredentialDraw
    → Option (List ℕ) → FilePart → List ℕ
credential_content slot c s d handle SpBlob =
    blob_bytes s.version Credential
    (layered d.key (new_stretched c d ++ new_share slot d) d.inner_iv d.outer_iv s.sp)
credential_content slot c s d handle Pwd =
    pwd_bytes (pwd c.kind 11 3 1 d.salt handle)
credential_content slot c s d handle Secdis = d.discardable
credential_content slot c s d handle Weaver = slot_file slot
credential_content slot c s d handle Metrics =
    sealed_under (subkey_bytes (subkey_of s PasswordMetrics)) [] d.metrics_iv
    (metrics_bytes (metrics_of c))
credential_content slot c s d handle Handle = []
credential_content slot c s d handle E0 = []
credential_content slot c s d handle P1 = []
credential_content slot c s d handle Resume = []

abbrev pub credential_writing : Option ℕ → KindAndText → SecretValue → CredentialDraw
    → Option (List ℕ) → Writing
credential_writing slot c s d handle = record {
  key = d.key;
  slot_key = weaver_key (new_stretched c d);
  value = d.value;
  content = credential_content slot c s d handle;
}

-- ---- for a token

-- the discardable bytes, which with Weaver are sealed under the value of the slot
unfoldable pub discardable_file : Option ℕ → TokenDraw → List ℕ
discardable_file None d = d.discardable
discardable_file (Some slot) d = sealed_discardable d.value d.discardable_iv d.discardable

-- what each file holds
abbrev pub token_content : Option ℕ → List ℕ → ℕ → List ℕ → TokenDraw → FilePart → List ℕ
token_content slot bytes version p0 d SpBlob =
    blob_bytes version StrongToken
    (layered d.key (bytes ++ discardable_share d.discardable) d.inner_iv d.outer_iv p0)
token_content slot bytes version p0 d Secdis = discardable_file slot d
token_content slot bytes version p0 d Weaver = slot_file slot
token_content slot bytes version p0 d Pwd = []
token_content slot bytes version p0 d Metrics = []
token_content slot bytes version p0 d Handle = []
token_content slot bytes version p0 d E0 = []
token_content slot bytes version p0 d P1 = []
token_content slot bytes version p0 d Resume = []

abbrev pub token_writing : Option ℕ → List ℕ → ℕ → List ℕ → TokenDraw → Writing
token_writing slot bytes version p0 d = record {
  key = d.key;
  slot_key = replicate 16 0;
  value = d.value;
  content = token_content slot bytes version p0 d;
}

-- ---- the actions

-- What is offered, and what it is to give: a credential and a secret; or the bytes of a token, and
-- the version and the first half of a secret.
pub data Offer : Type 0 where
  for_credential : KindAndText → SecretValue → Offer
  for_token : List ℕ → ℕ → List ℕ → Offer

abbrev pub purpose_of : Offer → Purpose
purpose_of (for_credential c s) = credential c.kind
purpose_of (for_token bytes version p0) = token

-- what is written, by the id, the slot with Weaver, the drawn bytes and the Gatekeeper's key
abbrev pub writing_of : ℕ → Option ℕ → Offer → List ℕ → List ℕ → Writing
writing_of id slot (for_credential c s) drawn gk_key =
    let d = credential_draw c.kind drawn in
    credential_writing slot c s d (new_handle id slot c d gk_key)
writing_of id slot (for_token bytes version p0) drawn gk_key =
    token_writing slot bytes version p0 (token_draw drawn)

-- the protector of a user with this id
abbrev pub protector_for : ℕ → ℕ → Offer → Protector
protector_for user id offer = record { user = user; id = id; purpose = purpose_of offer }

-- The actions that build it.
abbrev pub protector_actions : ℕ → ℕ → Option ℕ → Offer → List ℕ → List ℕ → List Action
protector_actions user id slot offer drawn gk_key =
    writing_actions (protector_for user id offer) slot (writing_of id slot offer drawn gk_key)

-- The actions that erase it, and leave its files: the slot is blanked, the key and the record go.
abbrev pub erasing_actions : Protector → Option ℕ → List Action
erasing_actions p slot =
    slot_writes slot (replicate 16 0) (replicate 16 0)
    ++ (KeyDrop p.id ∷ only_if (is_enrolled (is_some slot) p.purpose) (GkForget p.id ∷ []))

-- what a world then holds of it
abbrev pub erased : Held → Held
erased h = record h { slot = option_map (λ _. blank_slot) h.slot; counter = None; key = None }

-- The actions that take it away: it is erased, and then each file is removed.
abbrev pub retiring_actions : Protector → Option ℕ → List Action
retiring_actions p slot =
    erasing_actions p slot ++ removes p (parts_for (is_some slot) p.purpose)

-- ---- where it can be built

-- a slot is given exactly where the board has slots, and is one of them
abbrev pub FitsSlots : Option ℕ → World → Type 0
FitsSlots slot w =
    MatchOption slot (length w.slots ≡ 0) (λ n. (n < length w.slots) × (n < 2 ^ 32))
