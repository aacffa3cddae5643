-- Going over the files that a record names, as far as the first one at fault.
use Rattle.std.specs.Prelude.{ℕ, List, [], ◌∷◌, ◌++◌, Option, None, Some}
use Rattle.std.specs.Option.{option_map}
use Rattle.ls_formats.specs.PartNames.{PartOf, part_name_text}
use Rattle.ls_record.specs.declared.row.UserRow.{UserRow}
use Rattle.ls_naming.specs.Current.{Foreign}
use Rattle.ls_board.specs.declared.world.World.{World}
use Rattle.ls_standing.specs.Opening.{beside, file_fault, content_at, slot_in}
use Rattle.ls_checker.specs.declared.walk.Walk.{Walk}

-- the slots that were named so far, and the first file at fault
pub record Walked : Type 0 where
  pub earlier : List ℕ
  pub foreign : Option Foreign

-- what was met so far
abbrev pub walked_by : Walk → Walked
walked_by walk = record { earlier = walk.beside.earlier; foreign = walk.foreign }

-- a file at fault
abbrev pub foreign_at : PartOf → Option ℕ → Option Foreign
foreign_at name at = option_map (λ n. record { name = part_name_text name; at = n }) at

-- one file is passed; behind a file at fault none counts
abbrev pub passed : World → UserRow × PartOf → List ℕ → Option Foreign → Walked
passed w file earlier None = record {
  earlier = earlier ++ slot_in file.1.part (content_at w file.1);
  foreign = foreign_at file.1
      (file_fault (beside w earlier file.0) file.0 file.1 (content_at w file.1));
}
passed w file earlier (Some foreign) = record { earlier = earlier; foreign = Some foreign }

-- these files are passed, one after another
abbrev pub walked : World → Walked → List (UserRow × PartOf) → Walked
walked w s [] = s
walked w s (file ∷ files) = walked w (passed w file s.earlier s.foreign) files
