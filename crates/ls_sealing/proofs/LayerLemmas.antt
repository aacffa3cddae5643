-- What is sealed in two layers opens by both.
use Rattle.std.proofs.Common.{◌≡◌, ◌+◌, ◌⊎◌, inl, inr, ℕ, true, List, length, Some, refl, ap, ◌∙◌, arith}
use Rattle.std.specs.Prelude.{IsSomeAnd}
use Rattle.std.specs.Option.{option_and_then}
use Rattle.std.proofs.Math.Dec.{eqb}
use Rattle.std.proofs.lemmas.Bool.{or_cases, and_parts, eqb-true}
use Rattle.ls_gcm.specs.Gcm.{gcm_seal}
use Rattle.ls_gcm.proofs.SealingLemmas.{gcm_open-gcm_seal, parts}
use Rattle.ls_blob.specs.declared.kind.BlobKind.{BlobKind}
use Rattle.ls_blob.specs.Kinds.{content_size}
use Rattle.ls_blob.specs.Blobs.{Spells}
use Rattle.ls_blob.specs.Personal.{sealed_under, opened_under}
use Rattle.ls_blob.proofs.PersonalLemmas.{opened_under-sealed_under, length-sealed_under}
use Rattle.ls_secret.specs.Secrets.{SecretValue, IsSecret}
use Rattle.ls_sealing.specs.Chain.{layer_personal, layered, opened_layers}
use Rattle.ls_sealing.specs.Seals.{content_of}
use Rattle.ls_sealing.specs.Building.{blob_bytes}

pub layers_open : (key secret inner outer text : List ℕ) → length key ≡ 32 → length inner ≡ 12 → length outer ≡ 12
    → opened_layers (Some key) secret (layered key secret inner outer text) ≡ Some text
layers_open key secret inner outer text ek ei eo =
    let sealed = sealed_under secret layer_personal inner text in
    ap (option_and_then (opened_under secret layer_personal)) (gcm_open-gcm_seal key outer sealed (gcm_seal key outer sealed) ek eo refl)
    ∙ opened_under-sealed_under secret layer_personal inner text ei

pub length-layered : (key secret inner outer text : List ℕ) → length key ≡ 32 → length inner ≡ 12 → length outer ≡ 12
    → length (layered key secret inner outer text) ≡ length text + 56
length-layered key secret inner outer text ek ei eo =
    let sealed = sealed_under secret layer_personal inner text in
    let p = parts key outer sealed (gcm_seal key outer sealed) ek eo refl in
    let l = length-sealed_under secret layer_personal inner text ei in
    omega (arith, p.0, l)

-- the version is one that a blob may have
pub version_is : (s : SecretValue) → IsSecret s → (s.version ≡ 2) ⊎ (s.version ≡ 3)
version_is s is = either (or_cases (eqb s.version 2) (eqb s.version 3) is.version)
  where
    either : (eqb s.version 2 ≡ true) ⊎ (eqb s.version 3 ≡ true) → (s.version ≡ 2) ⊎ (s.version ≡ 3)
    either (inl two) = inl (eqb-true s.version 2 two)
    either (inr three) = inr (eqb-true s.version 3 three)

pub length_sp : (s : SecretValue) → IsSecret s → length s.sp ≡ 128
length_sp s is = eqb-true (length s.sp) 128 (and_parts (eqb (length s.sp) 128) _ is.sp).0

-- a blob that was written is one
pub blob_spells : (version : ℕ) (kind : BlobKind) (content : List ℕ) → (version ≡ 2) ⊎ (version ≡ 3) → length content ≡ content_size kind
    → IsSomeAnd (Some (blob_bytes version kind content)) (Spells (record { version = version; kind = kind; content = content_of (Some (blob_bytes version kind content)) }))
blob_spells version kind content good long = record { version = good; size = long; spelling = refl }
