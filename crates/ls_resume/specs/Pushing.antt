-- The files of an arming, put one after the other.
use Rattle.std.specs.Prelude.{◌+◌, ℕ, List, [], ◌∷◌}
use Rattle.ls_board.specs.declared.action.Action.{Action}
use Rattle.ls_board.specs.declared.action.Action.TheVariants.{Put}
use Rattle.ls_formats.specs.PartNames.{part_name_text}
use Rattle.ls_edits.specs.Arming.{resume_of}
use Rattle.ls_resume.specs.declared.secrets.SecretRow.{SecretRow}
use Rattle.ls_resume.specs.Sealing.{sealed_file}

-- the files of these users, with the ivs that stand from a place on
abbrev pub put_files : List ℕ → ℕ → List SecretRow → List Action
put_files drawn at [] = []
put_files drawn at (row ∷ rows) =
    Put (part_name_text (resume_of row.user)) (sealed_file drawn at row.secret)
    ∷ put_files drawn (at + 24) rows
