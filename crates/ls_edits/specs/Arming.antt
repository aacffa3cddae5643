-- What it takes that a user may be armed in the record of a world.
use Rattle.std.specs.Prelude.{◌≡◌, ℕ, true, List, ◌∷◌, ◌++◌, [], map, Option, Some}
use Rattle.std.specs.List.{Contains}
use Rattle.ls_board.specs.declared.action.Action.{Action}
use Rattle.ls_board.specs.declared.action.Action.TheVariants.{Put, KeyPut, ResumeStore, Sync}
use Rattle.ls_board.specs.declared.world.World.{World}
use Rattle.ls_board.specs.Keys.{key_at}
use Rattle.ls_gcm.specs.Gcm.{gcm_seal}
use Rattle.ls_formats.specs.declared.part.FilePart.TheVariants.{Resume}
use Rattle.ls_formats.specs.PartNames.{PartOf, part_name_text}
use Rattle.ls_arming.specs.declared.arming.Arming.{Arming}
use Rattle.ls_record.specs.declared.row.UserRow.{UserRow}
use Rattle.ls_record.specs.Rows.{Rec, has}
use Rattle.ls_standing.specs.Named.{user_file}
use Rattle.ls_standing.specs.Sound.{IsOwnFile}
use Rattle.ls_sealing.specs.Chain.{opened_resume}
use Rattle.ls_vault.specs.declared.user.User.{User}
use Rattle.ls_vault.specs.declared.vault.Vault.{Vault}
use Rattle.ls_vault.specs.Users.{user_of}

-- the name of a user's `resume` file
abbrev pub resume_of : ℕ → PartOf
resume_of user = record { user = user; id = 0; part = Resume }

abbrev pub resume_name : UserRow → PartOf
resume_name row = resume_of row.user

-- The user's `resume` file is there and has its form, and opens to the user's secret by the key of
-- alias 0 and this key.
pub record HasResume (w : World) (once : List ℕ) (row : UserRow) (u : User) : Type 0 where
  pub file : List ℕ
  pub there : user_file w row Resume ≡ Some file
  pub form : IsOwnFile row Resume file
  pub opens : opened_resume (key_at w.keys 0) once file ≡ Some u.secret.sp

-- such a file: the version 01, and the secret's text, sealed under the key that is used once, and
-- that under the key of alias 0
abbrev pub resume_bytes : List ℕ → List ℕ → List ℕ → List ℕ → List ℕ → List ℕ
resume_bytes key once inner_iv outer_iv sp = 1 ∷ gcm_seal key outer_iv (gcm_seal once inner_iv sp)

-- each user of the arming has it
abbrev pub AllHaveResume : World → Rec → Vault → Arming → List ℕ → Type 0
AllHaveResume w r v a once =
    (row : UserRow) (u : User) → Contains r.users row → user_of v.users row.user ≡ Some u
    → has a.users row.user ≡ true → HasResume w once row u

-- ---- what is written for an arming

-- by this key of alias 0, if there is one, and the key that is used once, it opens to the secret
abbrev pub OpensFor : Option (List ℕ) → List ℕ → List ℕ → User → Type 0
OpensFor key once file u = opened_resume key once file ≡ Some u.secret.sp

-- it is a `resume` file of the user, for these keys
pub record IsResumeFor (key once file : List ℕ) (row : UserRow) (u : User) : Type 0 where
  pub form : IsOwnFile row Resume file
  pub opens : OpensFor (Some key) once file u

-- the file of each user of the arming is one
abbrev pub AllOpen : Rec → Vault → Arming → List ℕ → List ℕ → (ℕ → List ℕ) → Type 0
AllOpen r v a key once content =
    (row : UserRow) (u : User) → Contains r.users row → user_of v.users row.user ≡ Some u
    → has a.users row.user ≡ true → IsResumeFor key once (content row.user) row u

-- the file of each user
abbrev pub arming_files : (ℕ → List ℕ) → List ℕ → List Action
arming_files content users = map (λ u. Put (part_name_text (resume_of u)) (content u)) users

-- the key of alias 0, the files, and the key that is used once
abbrev pub arming_actions : List ℕ → List ℕ → (ℕ → List ℕ) → List ℕ → List Action
arming_actions key once content users =
    KeyPut 0 key ∷ (arming_files content users ++ ResumeStore once ∷ Sync ∷ [])
