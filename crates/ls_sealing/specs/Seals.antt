-- When what a world holds of a protector seals a secret for a credential or a token.
use Rattle.std.specs.Prelude.{◌≡◌, ◌++◌, not, ℕ, Bool, if◌then◌else◌, List, [], length, drop, replicate, unwrap_or, is_some, Option, None, Some, IsSome, IsSomeAnd, MatchOption, MatchBool}
use Rattle.std.specs.Option.{option_and_then}
use Rattle.ls_credential.specs.declared.kind.Kind.{Kind}
use Rattle.ls_credential.specs.declared.kind.Kind.TheVariants.{Empty}
use Rattle.ls_credential.specs.Rules.{KindAndText}
use Rattle.ls_credential.specs.Counts.{metrics_of}
use Rattle.ls_weaver.specs.declared.slot.Slot.{Slot}
use Rattle.ls_weaver.specs.Slots.{written}
use Rattle.ls_blob.specs.declared.kind.BlobKind.{BlobKind}
use Rattle.ls_blob.specs.declared.kind.BlobKind.TheVariants.{Credential, StrongToken}
use Rattle.ls_blob.specs.Blobs.{Spells}
use Rattle.ls_blob.specs.Personal.{opened_under}
use Rattle.ls_secret.specs.declared.personal.Personal.TheVariants.{PasswordMetrics}
use Rattle.ls_secret.specs.Derivation.{subkey_of}
use Rattle.ls_secret.specs.Subkeys.{subkey_bytes}
use Rattle.ls_secret.specs.Secrets.{SecretValue, IsSecret, synthetic_password}
use Rattle.ls_formats.specs.declared.part.FilePart.TheVariants.{SpBlob, Pwd, Secdis, Metrics}
use Rattle.ls_formats.specs.Contents.{IsPwd, pwd_bytes, pwd_of, metrics_bytes}
use Rattle.ls_board.specs.Gatekeeper.{signed, salt_of}
use Rattle.ls_sealing.specs.Chain.{stretched, weaver_key, gatekeeper_password, value_share, discardable_share, opened_discardable, opened_layers}
use Rattle.ls_sealing.specs.Protectors.{Held}

-- ---- the blob

-- what stands behind the version and the kind
abbrev pub content_of : Option (List ℕ) → List ℕ
content_of file = drop 2 (unwrap_or file [])

-- the `spblob` file spells a blob of this kind and version
abbrev pub HasBlob : Held → BlobKind → ℕ → Type 0
HasBlob h kind version =
    IsSomeAnd (h.files SpBlob)
    (Spells (record { version = version; kind = kind; content = content_of (h.files SpBlob) }))

-- what its two layers open to, under this secret of the protector
abbrev pub blob_text : Held → List ℕ → Option (List ℕ)
blob_text h secret = opened_layers h.key secret (content_of (h.files SpBlob))

-- ---- a credential

-- The `pwd` file keeps the rules of its format, and says this kind. It has a handle exactly without
-- Weaver.
pub record IsPwdFile (weaver : Bool) (kind : Kind) (file : List ℕ) : Type 0 where
  pub spelled : pwd_bytes (pwd_of file) ≡ file
  pub rules : IsPwd (pwd_of file)
  pub says : (pwd_of file).kind ≡ kind
  pub handle : is_some (pwd_of file).handle ≡ not weaver

-- a protector for no credential has no `pwd` file, and any other one has it
abbrev pub HasKind : Held → Kind → Type 0
HasKind h kind = MatchOption (h.files Pwd) (kind ≡ Empty) (IsPwdFile h.weaver kind)

-- it is the handle that the device signs for this id, with the salt in it and this stretched text
abbrev pub IsHandleOf : List ℕ → ℕ → List ℕ → List ℕ → Type 0
IsHandleOf device id stretched handle =
    handle ≡ signed device id (salt_of handle) (gatekeeper_password stretched)

-- The devices accept the stretched text: with Weaver the slot has its key; without it the handle of
-- the `pwd` file is its handle, and the id has a record. Without Weaver and without a credential no
-- device is asked.
abbrev pub Accepts : ℕ → Held → List ℕ → Type 0
Accepts id h stretched =
    MatchBool h.weaver (IsSomeAnd h.slot (λ slot. slot.key ≡ weaver_key stretched))
    (MatchOption (h.files Pwd) (Unit {0})
    (λ file. IsSome h.counter × IsSomeAnd (pwd_of file).handle (IsHandleOf h.device id stretched)))

-- how many discardable bytes there are
abbrev pub discardable_size : ℕ
discardable_size = 16384

abbrev pub slot_value : Option Slot → List ℕ
slot_value None = []
slot_value (Some slot) = slot.value

-- what joins the stretched text: the share of the slot's value, or without Weaver of the `secdis`
-- file
abbrev pub credential_share : Held → List ℕ
credential_share h =
    if h.weaver then value_share (slot_value h.slot)
    else discardable_share (unwrap_or (h.files Secdis) [])

-- the protector's secret for a text: 96 bytes
abbrev pub credential_secret : Held → List ℕ → List ℕ
credential_secret h text = stretched (h.files Pwd) text ++ credential_share h

-- The protector of this id seals the secret for the credential: it is of the credential's kind, its
-- devices accept the stretched text, and this leads through the slot's value or the `secdis` file,
-- and through the key of the id, to a blob of the secret's version that opens to its text.
pub record Seals (id : ℕ) (h : Held) (c : KindAndText) (s : SecretValue) : Type 0 where
  pub kind : HasKind h c.kind
  pub accepts : Accepts id h (stretched (h.files Pwd) c.text)
  pub discardable : MatchBool h.weaver (Unit {0})
      (IsSomeAnd (h.files Secdis) (λ file. length file ≡ discardable_size))
  pub blob : HasBlob h Credential s.version
  pub opened : blob_text h (credential_secret h c.text) ≡ Some s.sp
  pub secret : IsSecret s

-- The `metrics` file opens, under the secret, to what is counted of the credential. A protector for
-- no credential has no such file.
abbrev pub ShowsMetrics : Held → KindAndText → SecretValue → Type 0
ShowsMetrics h c s =
    MatchOption (h.files Metrics) (c.kind ≡ Empty)
    (λ file. opened_under (subkey_bytes (subkey_of s PasswordMetrics)) [] file ≡
    Some (metrics_bytes (metrics_of c)))

-- ---- a token

-- a token's slot is read with a key of zeros, and has no failures
abbrev pub IsTokenSlot : Slot → Type 0
IsTokenSlot slot = slot ≡ written (replicate 16 0) slot.value

-- its discardable bytes: the `secdis` file, which with Weaver opens under the slot's value
abbrev pub discardable_of : Held → Option (List ℕ)
discardable_of h =
    if h.weaver then option_and_then (opened_discardable (slot_value h.slot)) (h.files Secdis)
    else h.files Secdis

-- the protector's secret for the bytes of a token
abbrev pub token_secret : Held → List ℕ → List ℕ
token_secret h token = token ++ discardable_share (unwrap_or (discardable_of h) [])

-- a half of which a secret is made has 32 bytes; with the first half it gives the secret
abbrev pub CompletesTo : SecretValue → List ℕ → List ℕ → Type 0
CompletesTo s p0 p1 = (length p1 ≡ 32) × (synthetic_password p0 p1 ≡ s.sp)

-- The protector seals the first half p0 of the secret for the token's bytes: these lead through the
-- slot, the `secdis` file and the key of the id to a blob of the secret's version that opens to p0,
-- and p0 with what the user's `p1` file holds gives the secret.
pub record SealsToken (h : Held) (p1 : Option (List ℕ)) (token : List ℕ) (s : SecretValue)
    (p0 : List ℕ) : Type 0 where
  pub slot : MatchBool h.weaver (IsSomeAnd h.slot IsTokenSlot) (Unit {0})
  pub discardable : IsSomeAnd (discardable_of h) (λ bytes. length bytes ≡ discardable_size)
  pub blob : HasBlob h StrongToken s.version
  pub opened : blob_text h (token_secret h token) ≡ Some p0
  pub whole : IsSomeAnd p1 (CompletesTo s p0)
