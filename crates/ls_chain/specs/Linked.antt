-- What a chain goes through, as what a world holds of a protector.
use Rattle.std.specs.Prelude.{◌≡◌, ℕ, Bool, true, if◌then◌else◌, List, Option, None, Some, IfSome, MatchBool}
use Rattle.ls_formats.specs.declared.part.FilePart.{FilePart}
use Rattle.ls_formats.specs.declared.part.FilePart.TheVariants.{SpBlob, Pwd, Secdis, Weaver, E0, P1}
use Rattle.ls_formats.specs.Contents.{pwd_of}
use Rattle.ls_sealing.specs.Chain.{stretched}
use Rattle.ls_sealing.specs.Protectors.{Held}
use Rattle.ls_sealing.specs.Seals.{slot_value}
use Rattle.ls_sealing.specs.PartFormats.{format_fault}
use Rattle.ls_secret.specs.Secrets.{SecretValue}
use Rattle.ls_secret.specs.Escrow.{opened_e0}
use Rattle.ls_chain.specs.declared.offered.Offered.{Offered}
use Rattle.ls_chain.specs.declared.token.TokenFiles.{TokenFiles}
use Rattle.ls_chain.specs.Links.{Links}

-- with Weaver the value of the slot
abbrev pub weaver_value : Held → Option (List ℕ)
weaver_value h = if h.weaver then Some (slot_value h.slot) else None

-- the blob and the key are those that are held; and with Weaver the value is that of the slot,
-- without it the discardable bytes are those that are held
pub record AreLinks (h : Held) (l : Links) (value : Option (List ℕ)) : Type 0 where
  pub blob : l.files SpBlob ≡ h.files SpBlob
  pub key : l.key ≡ h.key
  pub share : MatchBool h.weaver (value ≡ Some (slot_value h.slot))
      ((value ≡ None) × (l.files Secdis ≡ h.files Secdis))

-- a file, where it is there, is in the format of its part
abbrev pub IsInForm : FilePart → Option (List ℕ) → Type 0
IsInForm part file = IfSome file (λ bytes. format_fault part bytes ≡ None)

-- a file that is held is in the format of its part
abbrev pub HasForm : Held → FilePart → Type 0
HasForm h part = IsInForm part (h.files part)

-- a file is there, and in the format of its part
abbrev pub IsSoundFile : FilePart → Option (List ℕ) → List ℕ → Type 0
IsSoundFile part file bytes = (file ≡ Some bytes) × (format_fault part bytes ≡ None)

-- The files of a token are those that are held, in their format, and the key too; with Weaver the
-- value is that of the slot. The user's halves are in their format, and the sealed one opens under
-- the secret to the first half.
pub record AreTokenLinks (h : Held) (s : SecretValue) (p0 : List ℕ) (l : Links)
    (files : TokenFiles) (value : Option (List ℕ)) : Type 0 where
  pub blob : h.files SpBlob ≡ Some files.blob
  pub secdis : h.files Secdis ≡ Some files.secdis
  pub key : l.key ≡ h.key
  pub share : value ≡ weaver_value h
  pub p1 : (p1 : List ℕ) × IsSoundFile P1 (l.files P1) p1
  pub e0 : (e0 : List ℕ) × IsSoundFile E0 (l.files E0) e0 × (opened_e0 s e0 ≡ Some p0)

-- ---- before a device is asked

-- with Weaver the file of the slot is there, and in its format
abbrev pub HasSlotFile : Bool → Links → Type 0
HasSlotFile weaver l = weaver ≡ true → (bytes : List ℕ) × IsSoundFile Weaver (l.files Weaver) bytes

-- A `pwd` file that is held is there, and in its format; and so is with Weaver the file of the slot.
pub record AreOfferLinks (h : Held) (l : Links) : Type 0 where
  pub pwd : IfSome (h.files Pwd) (IsSoundFile Pwd (l.files Pwd))
  pub slot : HasSlotFile h.weaver l

-- the handle of a `pwd` file, if there is one
abbrev pub stored_handle : Option (List ℕ) → Option (List ℕ)
stored_handle None = None
stored_handle (Some file) = (pwd_of file).handle

-- what a credential offers to its device
abbrev pub offered_to : Held → List ℕ → Offered
offered_to h text =
    record { stretched = stretched (h.files Pwd) text; handle = stored_handle (h.files Pwd) }

-- The blob of a token is the one that is held, and these are the files of it; its discardable bytes
-- are in their format, and so is with Weaver the file of the slot.
pub record AreTokenFiles (h : Held) (l : Links) (files : TokenFiles) : Type 0 where
  pub own : l.files SpBlob ≡ h.files SpBlob
  pub blob : h.files SpBlob ≡ Some files.blob
  pub secdis : IsSoundFile Secdis (l.files Secdis) files.secdis
  pub slot : HasSlotFile h.weaver l
