-- What is said of the rows of a world that keeps nothing beside its record.
use Rattle.std.specs.Prelude.{◌≡◌, ℕ, List, slice_get, IfSome}
use Rattle.std.specs.List.{Contains}
use Rattle.ls_formats.specs.declared.name.FileName.{FileName}
use Rattle.ls_formats.specs.declared.name.FileName.TheVariants.{Settings, Protector}
use Rattle.ls_formats.specs.PartNames.{PartOf, IsPartOf, part_name_text}
use Rattle.ls_record.specs.Rows.{Rec}
use Rattle.ls_naming.specs.Named.{NamesFile}
use Rattle.ls_board.specs.declared.world.World.{World}
use Rattle.ls_board.specs.Effect.{file_at}
use Rattle.ls_sealing.specs.Protectors.{has_weaver}
use Rattle.ls_standing.specs.Bare.{IsStrange}

-- the key of the row at this place, if there is one, has P
abbrev pub HasKeyAt : {K X : Type 0} → (K → Type 0) → List (K × X) → ℕ → Type 0
HasKeyAt P rows at = IfSome (slice_get rows at) (λ row. P row.0)

-- the name of a file that the record doesn't name and that isn't retired
pub record IsLeftover (w : World) (r : Rec) (retired : List (List ℕ)) (n : List ℕ) : Type 0 where
  pub name : PartOf
  pub part : IsPartOf name
  pub spelled : part_name_text name ≡ n
  pub unnamed : ¬ (NamesFile (has_weaver w) r name)
  pub current : ¬ (Contains retired n)

-- a file of this name, so spelled, may be there
abbrev pub MayStay : World → Rec → List (List ℕ) → List ℕ → FileName → Type 0
MayStay w r retired n (Settings side) = Unit {0}
MayStay w r retired n (Protector name) =
    ¬ ((¬ (NamesFile (has_weaver w) r name)) × (¬ (Contains retired n)))

-- the file of this name is as at the start, if it is none of the service
abbrev pub IsLeft : World → World → List ℕ → Type 0
IsLeft start w n = IsStrange n → file_at w n ≡ file_at start n
