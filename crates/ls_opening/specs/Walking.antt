-- Going over the files that a record names, as far as the first one at fault.
use Rattle.std.specs.Prelude.{ℕ, Bool, List, [], ◌∷◌, ◌++◌, Option, None, Some}
use Rattle.std.specs.Option.{option_map}
use Rattle.ls_formats.specs.PartNames.{PartOf, part_name_text}
use Rattle.ls_record.specs.declared.row.UserRow.{UserRow}
use Rattle.ls_arming.specs.declared.arming.Arming.{Arming}
use Rattle.ls_naming.specs.Current.{Foreign}
use Rattle.ls_naming.specs.Named.{row_files}
use Rattle.ls_board.specs.declared.world.World.{World}
use Rattle.ls_standing.specs.Opening.{Beside, content_at, file_fault, slot_in, version_in}

-- what the next file is checked against, and the first file at fault
pub record Walked : Type 0 where
  pub beside : Beside
  pub foreign : Option Foreign

-- a file at fault
abbrev pub foreign_at : PartOf → Option ℕ → Option Foreign
foreign_at name at = option_map (λ n. record { name = part_name_text name; at = n }) at

-- a file with these bytes is judged, and names its slot
abbrev pub judged : UserRow → PartOf → Beside → List ℕ → Walked
judged row name b bytes = record {
  beside = record b { earlier = b.earlier ++ slot_in name.part bytes };
  foreign = foreign_at name (file_fault b row name bytes);
}

-- one file is passed; behind a file at fault none counts
abbrev pub passed : UserRow → PartOf → Beside → Option Foreign → World → Walked
passed row name b None w = judged row name b (content_at w name)
passed row name b (Some foreign) w = record { beside = b; foreign = Some foreign }

-- these files of a row are passed, one after another
abbrev pub passed_files : UserRow → List PartOf → Walked → World → Walked
passed_files row [] s w = s
passed_files row (name ∷ names) s w =
    passed_files row names (passed row name s.beside s.foreign w) w

-- the files of the row are checked against the version of its credential's blob
abbrev pub versioned : UserRow → Beside → Option Foreign → World → Walked
versioned row b None w =
    record { beside = record b { version = version_in w row }; foreign = None }
versioned row b (Some foreign) w = record { beside = b; foreign = Some foreign }

-- the files of a row are passed
abbrev pub passed_row : Bool → Option Arming → UserRow → Walked → World → Walked
passed_row weaver armed row s w =
    passed_files row (row_files weaver armed row) (versioned row s.beside s.foreign w) w

-- and those of these rows
abbrev pub passed_rows : Bool → Option Arming → List UserRow → Walked → World → Walked
passed_rows weaver armed [] s w = s
passed_rows weaver armed (row ∷ rows) s w =
    passed_rows weaver armed rows (passed_row weaver armed row s w) w
