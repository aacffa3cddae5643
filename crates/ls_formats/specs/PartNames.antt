-- Which file of a user or a protector a name names.
use Rattle.std.specs.Prelude.{◌≡◌, ◌<◌, ◌^◌, ◌==◌, ℕ, Bool, true, false, List, ◌++◌, codes}
use Rattle.hex.specs.Hex.{encode_lower}
use Rattle.ls_bytes.specs.Fields.{be32, be64}
use Rattle.ls_formats.specs.declared.side.Side.{Side}
use Rattle.ls_formats.specs.declared.side.Side.TheVariants.{First, Second}
use Rattle.ls_formats.specs.declared.part.FilePart.{FilePart}
use Rattle.ls_formats.specs.declared.part.FilePart.TheVariants.{SpBlob, Pwd, Secdis, Weaver, Metrics, Handle, E0, P1, Resume}

-- a part's name
abbrev pub part_text : FilePart → List ℕ
part_text SpBlob = codes "spblob"
part_text Pwd = codes "pwd"
part_text Secdis = codes "secdis"
part_text Weaver = codes "weaver"
part_text Metrics = codes "metrics"
part_text Handle = codes "handle"
part_text E0 = codes "e0"
part_text P1 = codes "p1"
part_text Resume = codes "resume"

-- a part of a user, and of no protector
abbrev pub is_of_user : FilePart → Bool
is_of_user SpBlob = false
is_of_user Pwd = false
is_of_user Secdis = false
is_of_user Weaver = false
is_of_user Metrics = false
is_of_user Handle = true
is_of_user E0 = true
is_of_user P1 = true
is_of_user Resume = true

-- a user, the id of a protector or 0, and the part
pub record PartOf : Type 0 where
  pub user : ℕ
  pub id : ℕ
  pub part : FilePart

-- the id is 0 exactly for the parts of a user
pub record IsPartOf (name : PartOf) : Type 0 where
  pub user : name.user < 2 ^ 32
  pub id : name.id < 2 ^ 64
  pub part : (name.id == 0) ≡ is_of_user name.part

-- a user in 8 digits, an id in 16, and the part, with dots between them
abbrev pub part_name_text : PartOf → List ℕ
part_name_text name = encode_lower (be32 name.user) ++ (codes "." ++ (encode_lower (be64 name.id) ++ (codes "." ++ part_text name.part)))

-- a settings file
abbrev pub settings_text : Side → List ℕ
settings_text First = codes "settings.0"
settings_text Second = codes "settings.1"
