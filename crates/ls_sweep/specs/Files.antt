-- Names of files that a record doesn't name.
use Rattle.std.specs.Prelude.{◌≡◌, ◌≢◌, ℕ, Bool, List, Option, None, Some}
use Rattle.std.specs.List.{Contains}
use Rattle.ls_formats.specs.declared.name.FileName.{FileName}
use Rattle.ls_formats.specs.declared.name.FileName.TheVariants.{Settings, Protector}
use Rattle.ls_formats.specs.PartNames.{PartOf, IsPartOf, part_name_text}
use Rattle.ls_record.specs.Rows.{Rec}
use Rattle.ls_naming.specs.Named.{NamesFile}

-- The name of a file of a user or a protector that the record doesn't name, on a board with Weaver
-- or on one without it, and that isn't among these retired ones.
pub record IsUnnamedFile (weaver : Bool) (r : Rec) (retired : List (List ℕ)) (n : List ℕ) : Type 0 where
  pub name : PartOf
  pub part : IsPartOf name
  pub spelled : n ≡ part_name_text name
  pub unnamed : ¬ (NamesFile weaver r name)
  pub current : ¬ (Contains retired n)

-- the file of a user or a protector, if it is one
abbrev pub part_in : FileName → Option PartOf
part_in (Settings side) = None
part_in (Protector part) = Some part

-- the one file of a user or a protector that a name names, or that it names none
abbrev pub IsPartNamed : List ℕ → Option PartOf → Type 0
IsPartNamed n None = (part : PartOf) → IsPartOf part → n ≢ part_name_text part
IsPartNamed n (Some part) =
    IsPartOf part × (n ≡ part_name_text part)
    × ((other : PartOf) → IsPartOf other → n ≡ part_name_text other → other ≡ part)
