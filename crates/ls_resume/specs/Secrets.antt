-- The secrets of users.
use Rattle.std.specs.Prelude.{◌≡◌, ℕ, List, map, Some}
use Rattle.std.specs.List.{AllByRecursion}
use Rattle.ls_secret.specs.Secrets.{IsSecret}
use Rattle.ls_vault.specs.declared.user.User.{User}
use Rattle.ls_vault.specs.Users.{user_of}
use Rattle.ls_resume.specs.declared.secrets.SecretRow.{SecretRow}

-- whose they are
abbrev pub users_of : List SecretRow → List ℕ
users_of rows = map (λ row. row.user) rows

-- the row has the secret of its user, if there is such a user
pub record IsSecretOf (users : List User) (row : SecretRow) : Type 0 where
  pub secret : IsSecret row.secret
  pub its : (u : User) → user_of users row.user ≡ Some u → u.secret ≡ row.secret

abbrev pub AreSecretsOf : List User → List SecretRow → Type 0
AreSecretsOf users rows = AllByRecursion (IsSecretOf users) rows
