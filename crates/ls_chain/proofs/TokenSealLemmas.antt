-- What seals for a token leads to the secret.
use Rattle.std.proofs.Common.{◌≡◌, ◌++◌, ℕ, Bool, true, false, cond, List, [], length, drop, Option, None, Some, Result, Ok, Err, refl, sym, ◌∙◌, ap, subst}
use Rattle.std.specs.Prelude.{slice_index, unwrap_or, IsSomeAnd, bytes_eq}
use Rattle.std.specs.Option.{option_and_then}
use Rattle.std.proofs.lemmas.Bool.{eq-eqb}
use Rattle.std.proofs.lemmas.Slice.Eq.{bytes_eq-Decides}
use Rattle.ls_blob.specs.declared.kind.BlobKind.TheVariants.{StrongToken}
use Rattle.ls_blob.specs.Personal.{opened_under}
use Rattle.ls_secret.specs.Secrets.{SecretValue, IsSecret, synthetic_password}
use Rattle.ls_secret.specs.Escrow.{opened_e0}
use Rattle.ls_formats.specs.declared.part.FilePart.TheVariants.{SpBlob, Secdis, P1, E0}
use Rattle.ls_weaver.specs.declared.slot.Slot.{Slot}
use Rattle.ls_sealing.specs.Chain.{discardable_share, layer_personal, opened_outer, opened_layers, opened_discardable}
use Rattle.ls_sealing.specs.Protectors.{Held}
use Rattle.ls_sealing.specs.Seals.{SealsToken, CompletesTo, blob_text, content_of, slot_value, discardable_size, discardable_of, token_secret}
use Rattle.ls_chain.specs.declared.fault.Spot.{Spot}
use Rattle.ls_chain.specs.declared.token.TokenEnd.TheVariants.{Opened, WrongToken}
use Rattle.ls_chain.specs.declared.token.TokenFiles.{TokenFiles}
use Rattle.ls_chain.specs.Links.{spot, unless_at, sound_file, next_of, Links}
use Rattle.ls_chain.specs.Credentials.{secret_by, secret_in}
use Rattle.ls_chain.specs.Tokens.{of_size, discardable_in, half_by, half_in, is_half, checked_half, completed_in, text_of_half, token_chain}
use Rattle.ls_chain.specs.Linked.{AreTokenLinks, IsSoundFile}
use Rattle.ls_chain.proofs.SealLemmas.{blob_found, no_fault}

-- bytes are equal to themselves
same_bytes : (xs : List ℕ) → bytes_eq xs xs ≡ true
same_bytes xs = (bytes_eq-Decides xs xs).1 refl

-- ---- the discardable bytes

sized : (text : Option (List ℕ)) → IsSomeAnd text (λ bytes. length bytes ≡ discardable_size) → of_size text ≡ Ok (unwrap_or text [])
sized None size = absurd size
sized (Some bytes) size = ap (λ (b : Bool). cond b (Ok bytes) (Err (spot Secdis 0))) (eq-eqb (length bytes) discardable_size size)

discardable_found : (weaver : Bool) (slot : Option Slot) (file : List ℕ) (held value : Option (List ℕ)) → held ≡ Some file → value ≡ cond weaver (Some (slot_value slot)) None
    → let text = cond weaver (option_and_then (opened_discardable (slot_value slot)) held) held in
    IsSomeAnd text (λ bytes. length bytes ≡ discardable_size) → discardable_in file value ≡ Ok (unwrap_or text [])
discardable_found true slot file held value is its size =
    ap (discardable_in file) its ∙ subst (λ (x : Option (List ℕ)). IsSomeAnd (option_and_then (opened_discardable (slot_value slot)) x) (λ bytes. length bytes ≡ discardable_size)
    → of_size (opened_discardable (slot_value slot) file) ≡ Ok (unwrap_or (option_and_then (opened_discardable (slot_value slot)) x) [])) (sym is) (sized (opened_discardable (slot_value slot) file)) size
discardable_found false slot file held value is its size = ap (discardable_in file) its ∙ ap (λ (x : Option (List ℕ)). Ok (unwrap_or x [])) (sym is)

-- ---- the blob

half_found : (secret p0 : List ℕ) (outer : Option (List ℕ)) → option_and_then (opened_under secret layer_personal) outer ≡ Some p0 → half_by secret outer ≡ Ok (Some p0)
half_found secret p0 None is = absurd (cc)
half_found secret p0 (Some inner) is = ap (λ (x : Option (List ℕ)). Ok x) is

half_missed : (secret other p0 : List ℕ) (outer : Option (List ℕ)) → option_and_then (opened_under secret layer_personal) outer ≡ Some p0 → option_and_then (opened_under other layer_personal) outer ≡ None → half_by other outer ≡ Ok None
half_missed secret other p0 None is none = absurd (cc)
half_missed secret other p0 (Some inner) is none = ap (λ (x : Option (List ℕ)). Ok x) none

-- ---- the halves

module _ (l : Links) (s : SecretValue) (p0 p1 e0 : List ℕ) (one : IsSoundFile P1 (l.files P1) p1) (two : IsSoundFile E0 (l.files E0) e0) (opens : opened_e0 s e0 ≡ Some p0) (whole : synthetic_password p0 p1 ≡ s.sp) (keeps : IsSecret s) where
  abbrev last : List ℕ → Result SecretValue Spot
  last e0 = next_of (secret_in s.version (Some (synthetic_password p0 p1))) (checked_half e0 p0)

  made : secret_in s.version (Some (synthetic_password p0 p1)) ≡ Ok s
  made = ap (λ (text : List ℕ). secret_in s.version (Some text)) whole ∙ ap (secret_by s.version s.sp) (no_fault s keeps)

  completed : completed_in l s.version p0 ≡ Ok s
  completed =
      ap (λ (f : Option (List ℕ)). next_of (sound_file P1 f) (λ p1. next_of (sound_file E0 (l.files E0)) (λ e0. next_of (secret_in s.version (Some (synthetic_password p0 p1))) (checked_half e0 p0)))) one.0
      ∙ ap (λ (at : Option ℕ). next_of (unless_at P1 p1 at) (λ p1. next_of (sound_file E0 (l.files E0)) (λ e0. next_of (secret_in s.version (Some (synthetic_password p0 p1))) (checked_half e0 p0)))) one.1
      ∙ ap (λ (f : Option (List ℕ)). next_of (sound_file E0 f) last) two.0
      ∙ ap (λ (at : Option ℕ). next_of (unless_at E0 e0 at) last) two.1
      ∙ ap (λ (x : Result SecretValue Spot). next_of x (checked_half e0 p0)) made
      ∙ ap (λ (x : Option (List ℕ)). cond (is_half x p0) (Ok s) (Err (spot E0 0))) opens
      ∙ ap (λ (b : Bool). cond b (Ok s) (Err (spot E0 0))) (same_bytes p0)

-- ---- the chain

module _ (h : Held) (l : Links) (token : List ℕ) (s : SecretValue) (p0 : List ℕ) (files : TokenFiles) (value : Option (List ℕ)) (seals : SealsToken h (l.files P1) token s p0) (keeps : IsSecret s) (links : AreTokenLinks h s p0 l files value) where
  whole_of : (file : Option (List ℕ)) (p1 : List ℕ) → file ≡ Some p1 → IsSomeAnd file (CompletesTo s p0) → synthetic_password p0 p1 ≡ s.sp
  whole_of file p1 is whole = (subst (λ (f : Option (List ℕ)). IsSomeAnd f (CompletesTo s p0)) is whole).1

  halves : completed_in l s.version p0 ≡ Ok s
  halves = completed l s p0 links.p1.0 links.e0.0 links.p1.1 links.e0.1 links.e0.2 (whole_of (l.files P1) links.p1.0 links.p1.1.0 seals.whole) keeps

  version : slice_index files.blob 0 ≡ s.version
  version = ap (λ (f : Option (List ℕ)). slice_index (unwrap_or f []) 0) (sym links.blob) ∙ (blob_found s.version StrongToken (h.files SpBlob) seals.blob).1

  abbrev bytes : List ℕ
  bytes = unwrap_or (discardable_of h) []

  text : option_and_then (opened_under (token ++ discardable_share bytes) layer_personal) (opened_outer l.key (drop 2 files.blob)) ≡ Some p0
  text =
      ap (λ (k : Option (List ℕ)). opened_layers k (token_secret h token) (drop 2 files.blob)) links.key
      ∙ ap (λ (f : Option (List ℕ)). opened_layers h.key (token_secret h token) (content_of f)) (sym links.blob)
      ∙ seals.opened

  pub token_leads : token_chain l token files value ≡ Ok (Opened s)
  token_leads =
      ap (λ (x : Result (List ℕ) Spot). next_of x (λ bytes. next_of (half_in l.key (token ++ discardable_share bytes) files.blob) (λ half. text_of_half l (slice_index files.blob 0) half)))
      (discardable_found h.weaver h.slot files.secdis (h.files Secdis) value links.secdis links.share seals.discardable)
      ∙ ap (λ (x : Result (Option (List ℕ)) Spot). next_of x (λ half. text_of_half l (slice_index files.blob 0) half)) (half_found (token ++ discardable_share bytes) p0 (opened_outer l.key (drop 2 files.blob)) text)
      ∙ ap (λ (v : ℕ). next_of (completed_in l v p0) (λ s. Ok (Opened s))) version
      ∙ ap (λ (x : Result SecretValue Spot). next_of x (λ s. Ok (Opened s))) halves

  missed : (other : List ℕ) → blob_text h (token_secret h other) ≡ None → option_and_then (opened_under (other ++ discardable_share bytes) layer_personal) (opened_outer l.key (drop 2 files.blob)) ≡ None
  missed other none =
      ap (λ (k : Option (List ℕ)). opened_layers k (token_secret h other) (drop 2 files.blob)) links.key
      ∙ ap (λ (f : Option (List ℕ)). opened_layers h.key (token_secret h other) (content_of f)) (sym links.blob)
      ∙ none

  -- other bytes, under which the blob doesn't open
  pub others_lead : (other : List ℕ) → blob_text h (token_secret h other) ≡ None → token_chain l other files value ≡ Ok WrongToken
  others_lead other none =
      ap (λ (x : Result (List ℕ) Spot). next_of x (λ bytes. next_of (half_in l.key (other ++ discardable_share bytes) files.blob) (λ half. text_of_half l (slice_index files.blob 0) half)))
      (discardable_found h.weaver h.slot files.secdis (h.files Secdis) value links.secdis links.share seals.discardable)
      ∙ ap (λ (x : Result (Option (List ℕ)) Spot). next_of x (λ half. text_of_half l (slice_index files.blob 0) half))
      (half_missed (token ++ discardable_share bytes) (other ++ discardable_share bytes) p0 (opened_outer l.key (drop 2 files.blob)) text (missed other none))
