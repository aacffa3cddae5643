-- What a resume finds in a world, in the order in which it looks: of each armed user the `resume`
-- file and the blob of its credential, then the cell, the boot, and what each file opens to.
use Rattle.std.specs.Prelude.{◌≡◌, ℕ, true, false, ◌==◌, if◌then◌else◌, List, [], ◌∷◌, map, Option, None, Some, Result, Ok, Err}
use Rattle.ls_arming.specs.declared.arming.Arming.{Arming}
use Rattle.ls_board.specs.declared.action.Action.{Action}
use Rattle.ls_board.specs.declared.action.Action.TheVariants.{ResumeTake}
use Rattle.ls_board.specs.declared.world.World.{World}
use Rattle.ls_board.specs.Keys.{key_at}
use Rattle.ls_chain.specs.declared.fault.Spot.{Spot}
use Rattle.ls_chain.specs.declared.resume_file.ResumeFile.{ResumeFile}
use Rattle.ls_chain.specs.Links.{links_at}
use Rattle.ls_chain.specs.ResumeFiles.{resume_files, resume_chain}
use Rattle.ls_edits.specs.Arming.{resume_of}
use Rattle.ls_formats.specs.declared.part.FilePart.{FilePart}
use Rattle.ls_formats.specs.PartNames.{PartOf, is_of_user}
use Rattle.ls_record.specs.declared.row.UserRow.{UserRow}
use Rattle.ls_record.specs.Rows.{Rec}
use Rattle.ls_secret.specs.Secrets.{SecretValue}
use Rattle.ls_vault.specs.Arming.{is_good}
use Rattle.ls_resume.specs.declared.ending.ResumeEnd.{ResumeEnd}
use Rattle.ls_resume.specs.declared.ending.ResumeEnd.TheVariants.{Resumed, NotArmed, Expired, Corrupt}
use Rattle.ls_resume.specs.declared.fault.FileFault.{FileFault}
use Rattle.ls_resume.specs.declared.reading.Found.{Found}
use Rattle.ls_resume.specs.declared.secrets.SecretRow.{SecretRow}
use Rattle.ls_resume.specs.Each.{next_by, each_of}
use Rattle.ls_resume.specs.Secrets.{users_of}

-- ---- the files

-- the protector of a user's credential, and 0 where the user has no row
abbrev pub protector_of : List UserRow → ℕ → ℕ
protector_of [] user = 0
protector_of (row ∷ rows) user =
    if row.user == user then row.protector else protector_of rows user

-- the name of a user's file; a part of a user has the id 0
abbrev pub name_of : ℕ → ℕ → FilePart → PartOf
name_of user id part =
    record { user = user; id = if is_of_user part then 0 else id; part = part }

abbrev pub files_of : ℕ → ℕ → Result ResumeFile Spot → Result Found FileFault
files_of user id (Ok file) = Ok (record { user = user; file = file })
files_of user id (Err spot) = Err (record { name = name_of user id spot.part; at = spot.at })

-- a user's `resume` file is there and in its format, and then the blob of its credential
abbrev pub read_of : List UserRow → World → ℕ → Result Found FileFault
read_of rows w user =
    files_of user (protector_of rows user) (resume_files (links_at w user (protector_of rows user)))

-- whose files they are
abbrev pub found_users : List Found → List ℕ
found_users found = map (λ f. f.user) found

-- ---- what they open to

abbrev pub secret_of : ℕ → Result SecretValue Spot → Result SecretRow FileFault
secret_of user (Ok secret) = Ok (record { user = user; secret = secret })
secret_of user (Err spot) = Err (record { name = resume_of user; at = spot.at })

-- a `resume` file opens by the key of alias 0 and the key that the cell held
abbrev pub open_of : List ℕ → World → Found → Result SecretRow FileFault
open_of once w found = secret_of found.user (resume_chain (key_at w.keys 0) once found.file)

-- ---- what it comes to

abbrev pub opened_end : Result (List SecretRow) FileFault → ResumeEnd
opened_end (Ok rows) = Resumed rows
opened_end (Err fault) = Corrupt fault

-- by the files that were read
abbrev pub found_end : List ℕ → Result (List Found) FileFault → World → ResumeEnd
found_end once found w = opened_end (next_by found (each_of (open_of once w)))

-- by what the cell held, and by the boots
abbrev pub taken_end : ℕ → ℕ → Result (List Found) FileFault → World → Option (List ℕ) → ResumeEnd
taken_end armed boot found w None = NotArmed
taken_end armed boot found w (Some once) =
    if is_good armed boot then found_end once found w else Expired armed boot

-- by the arming
abbrev pub armed_end : List UserRow → ℕ → Option Arming → World → ResumeEnd
armed_end rows boot None w = NotArmed
armed_end rows boot (Some a) w =
    taken_end a.boot boot (each_of (read_of rows w) a.users) w w.cell

abbrev pub resume_end : Rec → ℕ → World → ResumeEnd
resume_end r boot w = armed_end r.users boot r.armed w

-- the cell is taken where users are armed
abbrev pub taking : Option Arming → Option Action
taking None = None
taking (Some a) = Some ResumeTake

-- ---- on any board

-- the secrets are those of the users whose files were read; there are none where one is at fault
abbrev pub AreOfFound : Result (List Found) FileFault → List SecretRow → Type 0
AreOfFound (Ok found) rows = users_of rows ≡ found_users found
AreOfFound (Err fault) rows = ⊥

-- the files were opened, with such secrets, or one of them is at fault
abbrev pub IsByFiles : (List SecretRow → Type 0) → ResumeEnd → Type 0
IsByFiles P (Resumed rows) = P rows
IsByFiles P NotArmed = ⊥
IsByFiles P (Expired armed boot) = ⊥
IsByFiles P (Corrupt fault) = Unit {0}

-- it has expired by these boots alone, and told them; else the secrets are such ones
abbrev pub KeepsBoots : ℕ → ℕ → (List SecretRow → Type 0) → ResumeEnd → Type 0
KeepsBoots armed boot P (Resumed rows) = (is_good armed boot ≡ true) × P rows
KeepsBoots armed boot P NotArmed = Unit {0}
KeepsBoots armed boot P (Expired told now) =
    (is_good armed boot ≡ false) × (told ≡ armed) × (now ≡ boot)
KeepsBoots armed boot P (Corrupt fault) = is_good armed boot ≡ true
