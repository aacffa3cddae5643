-- What texts fix of a user.
use Rattle.std.specs.Prelude.{◌≡◌, ℕ, map, slice_get, Some}
use Rattle.ls_vault.specs.declared.token.Token.{Token}
use Rattle.ls_vault.specs.declared.user.User.{User}

-- the text of the credential and the bytes of the tokens are the same
pub record HasSameTexts (u v : User) : Type 0 where
  pub text : v.credential.text ≡ u.credential.text
  pub tokens : map (λ t. t.bytes) v.tokens ≡ map (λ t. t.bytes) u.tokens

-- the same bytes of one token lead to the same secret
abbrev pub TokensFixSecret : User → User → Type 0
TokensFixSecret u v =
    (k : ℕ) (s t : Token) → slice_get u.tokens k ≡ Some s → slice_get v.tokens k ≡ Some t
    → t.bytes ≡ s.bytes → v.secret ≡ u.secret
