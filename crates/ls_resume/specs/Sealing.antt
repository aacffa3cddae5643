-- What is drawn to arm users, and the plan that arms them by it.
use Rattle.std.specs.Prelude.{◌+◌, ◌*◌, ◌==◌, ℕ, if◌then◌else◌, List, [], ◌∷◌}
use Rattle.ls_board.specs.declared.action.Action.{Action}
use Rattle.ls_secret.specs.Secrets.{SecretValue}
use Rattle.ls_sealing.specs.Draws.{piece}
use Rattle.ls_edits.specs.Arming.{resume_bytes, arming_actions}
use Rattle.ls_resume.specs.declared.secrets.SecretRow.{SecretRow}
use Rattle.ls_resume.specs.Secrets.{users_of}

-- ---- what is drawn

-- The key that is used once, and the key of alias 0, of 32 bytes each. Behind them stand for each
-- user, in their order, the ivs of the inner and of the outer layer, of 12 bytes each.
abbrev pub arm_draw_size : ℕ → ℕ
arm_draw_size users = 64 + 24 * users

abbrev pub once_key : List ℕ → List ℕ
once_key drawn = piece 0 32 drawn

abbrev pub store_key : List ℕ → List ℕ
store_key drawn = piece 32 32 drawn

-- ---- the plan

-- the `resume` file of a secret, with the ivs that stand at a place
abbrev pub sealed_file : List ℕ → ℕ → SecretValue → List ℕ
sealed_file drawn at secret =
    resume_bytes (store_key drawn) (once_key drawn) (piece at 12 drawn) (piece (at + 12) 12 drawn) secret.sp

-- the file of the user with this number, with the ivs that stand from a place on; none without such
-- a user
abbrev pub file_from : List ℕ → ℕ → List SecretRow → ℕ → List ℕ
file_from drawn at [] user = []
file_from drawn at (row ∷ rows) user =
    if row.user == user then sealed_file drawn at row.secret else file_from drawn (at + 24) rows user

abbrev pub file_of : List ℕ → List SecretRow → ℕ → List ℕ
file_of drawn rows user = file_from drawn 64 rows user

-- the key of alias 0, the file of each user, and the key that is used once
abbrev pub arming_of : List ℕ → List SecretRow → List Action
arming_of drawn rows =
    arming_actions (store_key drawn) (once_key drawn) (file_of drawn rows) (users_of rows)
