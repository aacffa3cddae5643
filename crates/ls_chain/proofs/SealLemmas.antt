-- What seals leads to the secret.
use Rattle.std.proofs.Common.{◌≡◌, ◌⊎◌, inl, inr, ◌++◌, not, ℕ, ◌+◌, Bool, true, false, cond, IsTrue, List, [], ◌∷◌, length, drop, Option, None, Some, Result, Ok, refl, ◌∙◌, ap}
use Rattle.std.specs.Prelude.{slice_index, unwrap_or, IsSomeAnd, IfSome, MatchBool}
use Rattle.std.specs.Option.{option_map}
use Rattle.ls_blob.specs.declared.kind.BlobKind.{BlobKind}
use Rattle.ls_blob.specs.declared.kind.BlobKind.TheVariants.{Credential, StrongToken}
use Rattle.ls_blob.specs.Blobs.{Spells}
use Rattle.ls_blob.specs.Kinds.{kind_byte, content_size}
use Rattle.ls_blob.specs.Parsing.{first_fault as blob_fault, kind_fault}
use Rattle.ls_credential.specs.Rules.{KindAndText}
use Rattle.ls_credential.specs.declared.kind.Kind.{Kind}
use Rattle.ls_credential.specs.declared.kind.Kind.TheVariants.{Empty, Pattern, Pin, Password}
use Rattle.ls_secret.specs.Secrets.{SecretValue, IsSecret, is_version, is_sp_text, secret_fault}
use Rattle.ls_secret.specs.declared.fault.SecretFault.{SecretFault}
use Rattle.ls_secret.specs.declared.fault.SecretFault.TheVariants.{Version, Shape}
use Rattle.ls_weaver.specs.declared.slot.Slot.{Slot}
use Rattle.ls_formats.specs.declared.part.FilePart.TheVariants.{SpBlob, Secdis, Pwd}
use Rattle.ls_board.specs.declared.world.World.{World}
use Rattle.ls_sealing.specs.Chain.{stretched, value_share, discardable_share, opened_layers}
use Rattle.ls_sealing.specs.Protectors.{Held, held, has_weaver, credential}
use Rattle.ls_sealing.specs.Seals.{Seals, content_of, slot_value, discardable_size, credential_share}
use Rattle.ls_blob.specs.Parsing.{blob_place}
use Rattle.ls_sealing.specs.PartFormats.{format_fault}
use Rattle.ls_chain.specs.declared.fault.Spot.{Spot}
use Rattle.ls_chain.specs.Links.{unless_at, sound_file, next_of, Links, links_at}
use Rattle.ls_chain.specs.Credentials.{secret_by, secret_in, opened_secret, share_with, credential_chain}
use Rattle.ls_chain.specs.Linked.{AreLinks, HasForm, weaver_value}

-- ---- a blob

spelled_none : (v : ℕ) (k : BlobKind) (content : List ℕ) → (v ≡ 2) ⊎ (v ≡ 3) → length content ≡ content_size k → blob_fault (v ∷ kind_byte k ∷ content) ≡ None
spelled_none v k content version size = by version ∙ sized k size
  where
    by : (v ≡ 2) ⊎ (v ≡ 3) → blob_fault (v ∷ kind_byte k ∷ content) ≡ kind_fault (kind_byte k) (2 + length content)
    by (inl e) = ap (λ x. blob_fault (x ∷ kind_byte k ∷ content)) e
    by (inr e) = ap (λ x. blob_fault (x ∷ kind_byte k ∷ content)) e

    sized : (k : BlobKind) → length content ≡ content_size k → kind_fault (kind_byte k) (2 + length content) ≡ None
    sized Credential size = ap (λ n. kind_fault 0 (2 + n)) size
    sized StrongToken size = ap (λ n. kind_fault 1 (2 + n)) size

-- a blob that is spelled is sound, and has the version
pub blob_found : (v : ℕ) (k : BlobKind) (file : Option (List ℕ)) → IsSomeAnd file (Spells (record { version = v; kind = k; content = content_of file }))
    → (sound_file SpBlob file ≡ Ok (unwrap_or file [])) × (slice_index (unwrap_or file []) 0 ≡ v)
blob_found v k None spells = absurd spells
blob_found v k (Some bytes) spells = (
  ap (unless_at SpBlob bytes) (ap (λ (l : List ℕ). format_fault SpBlob l) spells.spelling ∙ ap (option_map blob_place) (spelled_none v k (drop 2 bytes) spells.version spells.size)),
  ap (λ (l : List ℕ). slice_index l 0) spells.spelling,
)

-- ---- a secret

pub no_fault : (s : SecretValue) → IsSecret s → secret_fault s.version s.sp ≡ None
no_fault s keeps = by (is_version s.version) (is_sp_text s.sp) keeps.version keeps.sp
  where
    fault_by : Bool → Bool → Option SecretFault
    fault_by a b = cond (not a) (Some Version) (cond (not b) (Some Shape) None)

    by : (a b : Bool) → IsTrue a → IsTrue b → fault_by a b ≡ None
    by true true a b = refl
    by true false a b = absurd (cc)
    by false b a also = absurd (cc)

-- ---- the share

share_found : (weaver : Bool) (slot : Option Slot) (file own value : Option (List ℕ)) → MatchBool weaver (value ≡ Some (slot_value slot)) ((value ≡ None) × (own ≡ file))
    → MatchBool weaver (Unit {0}) (IsSomeAnd file (λ f. length f ≡ discardable_size)) → (weaver ≡ false → IfSome file (λ f. format_fault Secdis f ≡ None))
    → share_with own value ≡ Ok (cond weaver (value_share (slot_value slot)) (discardable_share (unwrap_or file [])))
share_found true slot file own value is size form = ap (share_with own) is
share_found false slot file own value is size form = ap (share_with own) is.0 ∙ ap (λ (f : Option (List ℕ)). share_with f None) is.1 ∙ by file size (form refl)
  where
    by : (file : Option (List ℕ)) → IsSomeAnd file (λ f. length f ≡ discardable_size) → IfSome file (λ f. format_fault Secdis f ≡ None) → share_with file None ≡ Ok (discardable_share (unwrap_or file []))
    by None size form = absurd size
    by (Some bytes) size form = ap (λ (at : Option ℕ). next_of (unless_at Secdis bytes at) (λ (b : List ℕ). Ok (discardable_share b))) form

-- ---- a credential

module _ (id : ℕ) (h : Held) (c : KindAndText) (s : SecretValue) (l : Links) (value : Option (List ℕ)) (seals : Seals id h c s) (links : AreLinks h l value) (form : h.weaver ≡ false → HasForm h Secdis) where
  abbrev text : List ℕ
  text = stretched (h.files Pwd) c.text

  opens : (bytes : List ℕ) → bytes ≡ unwrap_or (h.files SpBlob) [] → slice_index bytes 0 ≡ s.version → opened_secret h.key (text ++ credential_share h) bytes ≡ Ok s
  opens bytes is version =
      ap (λ (v : ℕ). secret_in v (opened_layers h.key (text ++ credential_share h) (drop 2 bytes))) version
      ∙ ap (λ (b : List ℕ). secret_in s.version (opened_layers h.key (text ++ credential_share h) (drop 2 b))) is
      ∙ ap (secret_in s.version) seals.opened
      ∙ ap (secret_by s.version s.sp) (no_fault s seals.secret)

  pub leads : credential_chain l (stretched (h.files Pwd) c.text) value ≡ Ok s
  leads =
      let found = blob_found s.version Credential (h.files SpBlob) seals.blob in
      ap (λ (x : Result (List ℕ) Spot). next_of x (λ share. next_of (sound_file SpBlob (l.files SpBlob)) (λ blob. opened_secret l.key (text ++ share) blob)))
      (share_found h.weaver h.slot (h.files Secdis) (l.files Secdis) value links.share seals.discardable form)
      ∙ ap (λ (f : Option (List ℕ)). next_of (sound_file SpBlob f) (λ blob. opened_secret l.key (text ++ credential_share h) blob)) links.blob
      ∙ ap (λ (k : Option (List ℕ)). next_of (sound_file SpBlob (h.files SpBlob)) (λ blob. opened_secret k (text ++ credential_share h) blob)) links.key
      ∙ ap (λ (x : Result (List ℕ) Spot). next_of x (λ blob. opened_secret h.key (text ++ credential_share h) blob)) found.0
      ∙ opens (unwrap_or (h.files SpBlob) []) refl found.1

-- ---- in a world

pub linked : (w : World) (user id : ℕ) (kind : Kind) → let h = held w (record { user = user; id = id; purpose = credential kind }) in AreLinks h (links_at w user id) (weaver_value h)
linked w user id kind = by (has_weaver w) refl kind
  where
    h : Kind → Held
    h kind = held w (record { user = user; id = id; purpose = credential kind })

    by : (weaver : Bool) → has_weaver w ≡ weaver → (kind : Kind) → AreLinks (h kind) (links_at w user id) (weaver_value (h kind))
    by true is Empty = record { blob = refl; key = refl; share = rw is refl }
    by true is Pattern = record { blob = refl; key = refl; share = rw is refl }
    by true is Pin = record { blob = refl; key = refl; share = rw is refl }
    by true is Password = record { blob = refl; key = refl; share = rw is refl }
    by false is Empty = record { blob = refl; key = refl; share = rw is (refl, refl) }
    by false is Pattern = record { blob = refl; key = refl; share = rw is (refl, refl) }
    by false is Pin = record { blob = refl; key = refl; share = rw is (refl, refl) }
    by false is Password = record { blob = refl; key = refl; share = rw is (refl, refl) }
