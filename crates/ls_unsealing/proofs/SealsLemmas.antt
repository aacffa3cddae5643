-- What an accepted text and an opened blob say together.
use Rattle.std.proofs.Common.{◌≡◌, ◌++◌, List, ℕ, Option, Some, length, sym, subst}
use Rattle.std.specs.Prelude.{◌↔◌, Bool, Result, Ok, Err, IsTrue, IsSomeAnd, IfOk, IfSome, MatchBool}
use Rattle.ls_credential.specs.Rules.{KindAndText}
use Rattle.ls_blob.specs.declared.kind.BlobKind.TheVariants.{Credential}
use Rattle.ls_secret.specs.Secrets.{SecretValue, IsSecret}
use Rattle.ls_formats.specs.declared.part.FilePart.TheVariants.{Pwd, Secdis}
use Rattle.ls_sealing.specs.Chain.{stretched}
use Rattle.ls_sealing.specs.Protectors.{Held}
use Rattle.ls_sealing.specs.Seals.{Seals, HasKind, Accepts, HasBlob, blob_text, credential_share, discardable_size}

-- the text is accepted, and leads to the secret
abbrev pub Opens : Held → List ℕ → SecretValue → Type 0
Opens h text s =
    MatchBool h.weaver (Unit {0}) (IsSomeAnd (h.files Secdis) (λ file. length file ≡ discardable_size))
    × HasBlob h Credential s.version × (blob_text h (text ++ credential_share h) ≡ Some s.sp) × IsSecret s

pub seals_both : (id : ℕ) (h : Held) (c : KindAndText) (s : SecretValue) (o : Option (List ℕ)) (text : List ℕ) → o ≡ Some text
    → IfSome o (λ t. HasKind h c.kind × (t ≡ stretched (h.files Pwd) c.text) × Accepts id h t)
    → Opens h text s ↔ Seals id h c s
seals_both id h c s o text is found =
    let all = subst (λ (x : Option (List ℕ)). IfSome x (λ t. HasKind h c.kind × (t ≡ stretched (h.files Pwd) c.text) × Accepts id h t)) is found in (
      λ opens. record {
        kind = all.0;
        accepts = subst (Accepts id h) all.1 all.2;
        discardable = opens.0;
        blob = opens.1;
        opened = subst (λ (t : List ℕ). blob_text h (t ++ credential_share h) ≡ Some s.sp) all.1 opens.2;
        secret = opens.3;
      },
      λ seals. (seals.discardable, seals.blob, subst (λ (t : List ℕ). blob_text h (t ++ credential_share h) ≡ Some s.sp) (sym all.1) seals.opened, seals.secret),
    )

-- what decides one fact decides another that is the same
pub decided_by : {E P Q : Type 0} (r : Result Bool E) → P ↔ Q → IfOk r (λ b. IsTrue b ↔ P) → IfOk r (λ b. IsTrue b ↔ Q)
decided_by (Ok b) same decided = (λ h. same.0 (decided.0 h), λ h. decided.1 (same.1 h))
decided_by (Err e) same decided = decided
