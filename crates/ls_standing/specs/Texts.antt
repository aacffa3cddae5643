-- Vaults that differ in texts alone.
use Rattle.std.specs.Prelude.{◌≡◌, map}
use Rattle.std.specs.List.{AllZip}
use Rattle.ls_vault.specs.declared.user.User.{User}
use Rattle.ls_vault.specs.declared.vault.Vault.{Vault}

-- two users are the same but for the text of the credential, the secret that it leads to, and the
-- bytes of tokens
pub record SameButTexts (u v : User) : Type 0 where
  pub number : v.number ≡ u.number
  pub kind : v.credential.kind ≡ u.credential.kind
  pub fails : v.fails ≡ u.fails
  pub until : v.until ≡ u.until
  pub secure : v.secure ≡ u.secure
  pub escrow : v.escrow ≡ u.escrow
  pub auto : v.auto ≡ u.auto
  pub tokens : map (λ t. t.id) v.tokens ≡ map (λ t. t.id) u.tokens
  -- the same text leads to the same secret
  pub secret : v.credential.text ≡ u.credential.text → v.secret ≡ u.secret

-- two vaults are the same but for texts
pub record AreSameButTexts (u v : Vault) : Type 0 where
  pub users : AllZip SameButTexts u.users v.users
  pub arming : v.arming ≡ u.arming
