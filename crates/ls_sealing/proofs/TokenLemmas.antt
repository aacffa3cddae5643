-- A protector that was written for a token seals the first half of the secret.
use Rattle.std.proofs.Common.{◌≡◌, ℕ, true, List, [], ◌++◌, length, Option, None, Some, refl, sym, ap, subst, ◌∙◌, arith}
use Rattle.std.specs.Prelude.{is_some, unwrap_or, IsSomeAnd}
use Rattle.ls_blob.specs.declared.kind.BlobKind.TheVariants.{StrongToken}
use Rattle.ls_blob.proofs.PersonalLemmas.{opened_under-sealed_under}
use Rattle.ls_secret.specs.Secrets.{SecretValue, IsSecret}
use Rattle.ls_formats.specs.Contents.{AreBytes}
use Rattle.ls_sealing.specs.Chain.{discardable_share, discardable_personal, sealed_discardable, opened_discardable, layered, opened_layers}
use Rattle.ls_sealing.specs.Protectors.{token}
use Rattle.ls_sealing.specs.Seals.{CompletesTo, SealsToken}
use Rattle.ls_sealing.specs.Draws.{TokenDraw, token_draw, token_draw_size}
use Rattle.ls_sealing.specs.Building.{held_of, discardable_file, token_writing}
use Rattle.ls_sealing.proofs.ByteLemmas.{piece_are}
use Rattle.ls_sealing.proofs.LayerLemmas.{layers_open, length-layered, version_is, blob_spells}

-- what a draw for a token must have, with a slot or without
pub record IsTokenDraw (slot : Option ℕ) (d : TokenDraw) : Type 0 where
  pub key : length d.key ≡ 32
  pub inner_iv : length d.inner_iv ≡ 12
  pub outer_iv : length d.outer_iv ≡ 12
  pub discardable : length d.discardable ≡ 16384
  pub discardable_iv : is_some slot ≡ true → length d.discardable_iv ≡ 12

pub is_token_draw : (slot : Option ℕ) (drawn : List ℕ) → AreBytes (token_draw_size (is_some slot)) drawn → IsTokenDraw slot (token_draw drawn)
is_token_draw None drawn are = record {
  key = (piece_are 16440 0 32 drawn are (omega arith)).long;
  inner_iv = (piece_are 16440 32 12 drawn are (omega arith)).long;
  outer_iv = (piece_are 16440 44 12 drawn are (omega arith)).long;
  discardable = (piece_are 16440 56 16384 drawn are (omega arith)).long;
  discardable_iv = λ there. absurd (cc);
}
is_token_draw (Some n) drawn are = record {
  key = (piece_are 16468 0 32 drawn are (omega arith)).long;
  inner_iv = (piece_are 16468 32 12 drawn are (omega arith)).long;
  outer_iv = (piece_are 16468 44 12 drawn are (omega arith)).long;
  discardable = (piece_are 16468 56 16384 drawn are (omega arith)).long;
  discardable_iv = λ there. (piece_are 16468 16456 12 drawn are (omega arith)).long;
}

module _ (bytes : List ℕ) (s : SecretValue) (p0 : List ℕ) (p1 : Option (List ℕ)) (d : TokenDraw) (device : List ℕ) (is : IsSecret s) (half : length p0 ≡ 32) (whole : IsSomeAnd p1 (CompletesTo s p0)) where
  abbrev secret : List ℕ
  secret = bytes ++ discardable_share d.discardable

  abbrev content : List ℕ
  content = layered d.key secret d.inner_iv d.outer_iv p0

  long : (slot : Option ℕ) → IsTokenDraw slot d → length content ≡ 88
  long slot draw =
      let l = length-layered d.key secret d.inner_iv d.outer_iv p0 draw.key draw.inner_iv draw.outer_iv in
      omega arith

  opens : (slot : Option ℕ) (k : List ℕ) → IsTokenDraw slot d → k ≡ secret → opened_layers (Some d.key) k content ≡ Some p0
  opens slot k draw e = ap (λ (x : List ℕ). opened_layers (Some d.key) x content) e ∙ layers_open d.key secret d.inner_iv d.outer_iv p0 draw.key draw.inner_iv draw.outer_iv

  pub seals_token : (slot : Option ℕ) → IsTokenDraw slot d → SealsToken (held_of token slot (token_writing slot bytes s.version p0 d) device) p1 bytes s p0
  unfolding discardable_file
  seals_token None draw = record {
    slot = tt;
    discardable = draw.discardable;
    blob = blob_spells s.version StrongToken content (version_is s is) (long None draw);
    opened = opens None secret draw refl;
    whole = whole;
  }
  seals_token (Some n) draw =
      let file = sealed_discardable d.value d.discardable_iv d.discardable in
      let opened : opened_discardable d.value file ≡ Some d.discardable = opened_under-sealed_under d.value discardable_personal d.discardable_iv d.discardable (draw.discardable_iv refl) in
      record {
        slot = refl;
        discardable = subst (λ (o : Option (List ℕ)). IsSomeAnd o (λ b. length b ≡ 16384)) (sym opened) draw.discardable;
        blob = blob_spells s.version StrongToken content (version_is s is) (long (Some n) draw);
        opened = opens (Some n) (bytes ++ discardable_share (unwrap_or (opened_discardable d.value file) [])) draw (ap (λ (o : Option (List ℕ)). bytes ++ discardable_share (unwrap_or o [])) opened);
        whole = whole;
      }
