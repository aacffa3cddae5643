-- When an unlock opens.
use Rattle.std.specs.Prelude.{◌≡◌, ℕ, ◌≤◌, List, Some, IsTrue}
use Rattle.ls_credential.specs.Rules.{KindAndText}
use Rattle.ls_script.specs.declared.reply.Revealed.{Revealed}
use Rattle.ls_vault.specs.Arming.{is_good}
use Rattle.ls_vault.specs.Revealed.{revealed, all_revealed}
use Rattle.ls_vault.specs.Tokens.{token_of}
use Rattle.ls_vault.specs.Users.{user_of}
use Rattle.ls_vault.specs.declared.state.State.{State}
use Rattle.ls_vault.specs.declared.token.Token.{Token}
use Rattle.ls_vault.specs.declared.user.User.{User}
use Rattle.ls_arming.specs.declared.arming.Arming.{Arming}

-- The user is there, the offered credential is the present one, nothing throttles, and this is
-- revealed.
pub record OpensByCredential (s : State) (user : ℕ) (offered : KindAndText) (moment : ℕ)
    (r : Revealed) : Type 0 where
  pub found : User
  pub there : user_of s.vault.users user ≡ Some found
  pub present : offered ≡ found.credential
  pub free : found.until ≤ moment
  pub shown : r ≡ revealed found

-- The user is there, an active token of it has this id and the offered bytes, and this is revealed.
pub record OpensByToken (s : State) (user id : ℕ) (offered : List ℕ) (r : Revealed) : Type 0 where
  pub found : User
  pub there : user_of s.vault.users user ≡ Some found
  pub token : Token
  pub active : token_of found.tokens id ≡ Some token
  pub same : offered ≡ token.bytes
  pub shown : r ≡ revealed found

-- There is an arming, the boot is still good for it, and this is revealed of its users.
pub record OpensByArming (s : State) (rows : List Revealed) : Type 0 where
  pub arming : Arming
  pub armed : s.vault.arming ≡ Some arming
  pub good : IsTrue (is_good arming.boot s.session.boot)
  pub shown : rows ≡ all_revealed s.vault.users arming.users
