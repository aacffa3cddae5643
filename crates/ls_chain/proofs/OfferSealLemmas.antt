-- What is sealed is offered to its device.
use Rattle.std.proofs.Common.{◌≡◌, ◌||◌, not, ℕ, Bool, true, false, cond, List, [], Option, None, Some, Result, Ok, Err, refl, ◌∙◌, ap}
use Rattle.std.specs.Prelude.{is_some, unwrap_or, IfSome, MatchOption}
use Rattle.ls_credential.specs.declared.kind.Kind.{Kind}
use Rattle.ls_credential.specs.declared.kind.Kind.TheVariants.{Empty, Pattern, Pin, Password}
use Rattle.ls_credential.specs.Rules.{KindAndText}
use Rattle.ls_blob.specs.declared.kind.BlobKind.TheVariants.{StrongToken}
use Rattle.ls_secret.specs.Secrets.{SecretValue}
use Rattle.ls_formats.specs.declared.part.FilePart.{FilePart}
use Rattle.ls_formats.specs.declared.part.FilePart.TheVariants.{SpBlob, Pwd, Secdis, Weaver, P1}
use Rattle.ls_formats.specs.Contents.{pwd_of}
use Rattle.ls_sealing.specs.Chain.{stretched, stretched_at}
use Rattle.ls_sealing.specs.Protectors.{Held}
use Rattle.ls_sealing.specs.Seals.{Seals, SealsToken, IsPwdFile}
use Rattle.ls_chain.specs.declared.fault.Spot.{Spot}
use Rattle.ls_chain.specs.declared.offered.Offered.{Offered}
use Rattle.ls_chain.specs.declared.token.TokenFiles.{TokenFiles}
use Rattle.ls_chain.specs.Links.{spot, next_of, unless_at, sound_file, Links}
use Rattle.ls_chain.specs.Offers.{offered_in, pwd_offer, slot_checked, offer_chain}
use Rattle.ls_chain.specs.Tokens.{slot_file_of, token_files}
use Rattle.ls_chain.specs.Linked.{IsSoundFile, HasSlotFile, AreOfferLinks, AreTokenFiles, stored_handle, offered_to}
use Rattle.ls_chain.proofs.SealLemmas.{blob_found}

-- a file that is there and in its format
found : (part : FilePart) (file : Option (List ℕ)) (bytes : List ℕ) → IsSoundFile part file bytes → sound_file part file ≡ Ok bytes
found part file bytes is = ap (sound_file part) is.0 ∙ ap (unless_at part bytes) is.1

-- ---- a credential

both : (w h : Bool) → h ≡ not w → (w || h) ≡ true
both true h is = refl
both false h is = is

offers : (weaver : Bool) (text file : List ℕ) (kind : Kind) → IsPwdFile weaver kind file
    → offered_in weaver text file ≡ Ok (record { stretched = stretched (Some file) text; handle = (pwd_of file).handle })
offers weaver text file kind is = let p = pwd_of file in
    ap (λ (b : Bool). cond b (Ok (record { stretched = stretched_at p.log_n p.log_r p.log_p p.salt text; handle = p.handle })) (Err (spot Pwd 20))) (both weaver (is_some p.handle) is.handle)

module _ (weaver : Bool) (l : Links) (text : List ℕ) where
  stored : (kind : Kind) (file : Option (List ℕ)) → MatchOption file (kind ≡ Empty) (IsPwdFile weaver kind) → IfSome file (IsSoundFile Pwd (l.files Pwd))
      → pwd_offer l weaver kind text ≡ Ok (record { stretched = stretched file text; handle = stored_handle file })
  stored kind None is sound = ap (λ (k : Kind). pwd_offer l weaver k text) is
  stored Empty (Some file) is sound = absurd (is.rules.kind is.says)
  stored Pattern (Some file) is sound = ap (λ (x : Result (List ℕ) Spot). next_of x (offered_in weaver text)) (found Pwd (l.files Pwd) file sound) ∙ offers weaver text file Pattern is
  stored Pin (Some file) is sound = ap (λ (x : Result (List ℕ) Spot). next_of x (offered_in weaver text)) (found Pwd (l.files Pwd) file sound) ∙ offers weaver text file Pin is
  stored Password (Some file) is sound = ap (λ (x : Result (List ℕ) Spot). next_of x (offered_in weaver text)) (found Pwd (l.files Pwd) file sound) ∙ offers weaver text file Password is

checked : (weaver : Bool) (l : Links) (o : Offered) → HasSlotFile weaver l → slot_checked l weaver o ≡ Ok o
checked true l o has = let file = has refl in ap (λ (x : Result (List ℕ) Spot). next_of x (λ bytes. Ok o)) (found Weaver (l.files Weaver) file.0 file.1)
checked false l o has = refl

pub offered_text : (id : ℕ) (h : Held) (c : KindAndText) (s : SecretValue) (l : Links) → Seals id h c s → AreOfferLinks h l → (text : List ℕ) → offer_chain l h.weaver c.kind text ≡ Ok (offered_to h text)
offered_text id h c s l seals links text =
    ap (λ (x : Result Offered Spot). next_of x (slot_checked l h.weaver)) (stored h.weaver l text c.kind (h.files Pwd) seals.kind links.pwd)
    ∙ checked h.weaver l (offered_to h text) links.slot

pub offered_leads : (id : ℕ) (h : Held) (c : KindAndText) (s : SecretValue) (l : Links) → Seals id h c s → AreOfferLinks h l → offer_chain l h.weaver c.kind c.text ≡ Ok (offered_to h c.text)
offered_leads id h c s l seals links = offered_text id h c s l seals links c.text

-- ---- a token

filed : (weaver : Bool) (l : Links) (files : TokenFiles) → HasSlotFile weaver l → slot_file_of l weaver files ≡ Ok files
filed true l files has = let file = has refl in ap (λ (x : Result (List ℕ) Spot). next_of x (λ bytes. Ok files)) (found Weaver (l.files Weaver) file.0 file.1)
filed false l files has = refl

pub files_lead : (h : Held) (l : Links) (token : List ℕ) (s : SecretValue) (p0 : List ℕ) (files : TokenFiles) → SealsToken h (l.files P1) token s p0 → AreTokenFiles h l files → token_files l h.weaver ≡ Ok files
files_lead h l token s p0 files seals links =
    ap (λ (x : Result (List ℕ) Spot). next_of x (λ blob. next_of (sound_file Secdis (l.files Secdis)) (λ secdis. slot_file_of l h.weaver (record { blob = blob; secdis = secdis }))))
    (ap (sound_file SpBlob) links.own ∙ (blob_found s.version StrongToken (h.files SpBlob) seals.blob).0 ∙ ap (λ (f : Option (List ℕ)). Ok (unwrap_or f [])) links.blob)
    ∙ ap (λ (x : Result (List ℕ) Spot). next_of x (λ secdis. slot_file_of l h.weaver (record { blob = files.blob; secdis = secdis }))) (found Secdis (l.files Secdis) files.secdis links.secdis)
    ∙ filed h.weaver l files links.slot
